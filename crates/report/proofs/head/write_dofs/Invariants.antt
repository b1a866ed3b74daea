use Rattle.std.proofs.Common.{take, length, Ok}
use Rattle.std.specs.Prelude.{flat_map}
use Rattle.std.specs.List.{enumerate_from}
use Rattle.cause_defs.specs.Reports.{Reports}
use Rattle.input_defs.specs.Further.{dofs_line}
use Rattle.report.proofs.head.write_dofs.Given as goal

-- the sections of the plan up to here are reported
abbrev pub invariant-loop-i : goal.invariant-loop-i
invariant-loop-i g l =
    Reports g.W.Sink.written g.W.Sink.flushed g.W.Sink.faults g.W.Sink.counts_failures_alone (Ok (tt {0})) l.fn.out l.out (flat_map dofs_line (take l.i (enumerate_from (length l.mesh.fields) l.plan.plan.dofs)))
