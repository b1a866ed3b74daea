use Rattle.std.proofs.Common.{length, Ok}
use Rattle.std.specs.Prelude.{flat_map}
use Rattle.cause_defs.specs.Reports.{Reports}
use Rattle.plain_lists.specs.Lists.{below}
use Rattle.walk_defs.specs.step_defs.Points.{owned_by}
use Rattle.step_report.specs.Ghosts.{ghost_text}
use Rattle.step_report.proofs.ghosts.write_ghosts.Given as goal

-- the owners up to here are reported
abbrev pub invariant-loop-owner : goal.invariant-loop-owner
invariant-loop-owner g l =
    Reports g.W.Sink.written g.W.Sink.flushed g.W.Sink.faults g.W.Sink.counts_failures_alone (Ok (tt {0})) l.fn.out l.out (flat_map (λ o. ghost_text l.rank o (length (owned_by o l.local))) (below l.owner))
