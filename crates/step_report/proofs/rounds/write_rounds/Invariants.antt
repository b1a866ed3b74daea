use Rattle.std.proofs.Common.{Ok}
use Rattle.std.specs.Prelude.{flat_map}
use Rattle.cause_defs.specs.Reports.{Reports}
use Rattle.plain_lists.specs.Lists.{below}
use Rattle.walk_defs.specs.step_defs.Steps.{plain_round}
use Rattle.step_report.proofs.Entering.{round_at}
use Rattle.step_report.proofs.rounds.write_rounds.Given as goal

-- the rounds up to here are reported
abbrev pub invariant-loop-i : goal.invariant-loop-i
invariant-loop-i g l =
    Reports g.W.Sink.written g.W.Sink.flushed g.W.Sink.faults g.W.Sink.counts_failures_alone (Ok (tt {0})) l.fn.out l.out (flat_map (λ k. plain_round (round_at l.rounds k)) (below l.i))
