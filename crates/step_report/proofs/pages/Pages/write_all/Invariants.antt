use Rattle.std.proofs.Common.{Ok}
use Rattle.std.specs.Prelude.{flat_map}
use Rattle.cause_defs.specs.Reports.{Reports}
use Rattle.plain_lists.specs.Lists.{below}
use Rattle.step_report.specs.Conditions.{local_at}
use Rattle.step_report.specs.Pages.{lines_on}
use Rattle.step_report.proofs.pages.Pages.write_all.Given as goal

-- the ranks up to here are reported
abbrev pub invariant-loop-rank : goal.invariant-loop-rank
invariant-loop-rank g l =
    Reports g.W.Sink.written g.W.Sink.flushed g.W.Sink.faults g.W.Sink.counts_failures_alone (Ok (tt {0})) l.fn.out l.out (flat_map (λ r. lines_on l.kind l.self (r, local_at l.self.dist.now r)) (below l.rank))
