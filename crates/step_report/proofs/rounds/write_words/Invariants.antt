use Rattle.std.proofs.Common.{Ok}
use Rattle.std.specs.Prelude.{flat_map, get_or}
use Rattle.cause_defs.specs.Reports.{Reports}
use Rattle.plain_lists.specs.Lists.{below}
use Rattle.sf_defs.specs.Rounds.{in_order}
use Rattle.headline_defs.specs.Lines.{window_line}
use Rattle.step_report.proofs.rounds.write_words.Given as goal

-- the words up to here are reported
abbrev pub invariant-loop-word : goal.invariant-loop-word
invariant-loop-word g l =
    Reports g.W.Sink.written g.W.Sink.flushed g.W.Sink.faults g.W.Sink.counts_failures_alone (Ok (tt {0})) l.fn.out l.out
    (flat_map (λ w. window_line l.name w (get_or l.round.before w 0) (get_or l.round.after w 0) (in_order l.round w)) (below l.word))
