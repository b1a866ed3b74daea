use Rattle.std.proofs.Common.{take, Ok}
use Rattle.std.specs.Prelude.{flat_map}
use Rattle.cause_defs.specs.Reports.{Reports}
use Rattle.input_defs.specs.Further.{name_line}
use Rattle.report.proofs.head.write_names.Given as goal

-- the names up to here are reported
abbrev pub invariant-loop-i : goal.invariant-loop-i
invariant-loop-i g l = Reports g.W.Sink.written g.W.Sink.flushed g.W.Sink.faults g.W.Sink.counts_failures_alone (Ok (tt {0})) l.fn.out l.out (flat_map name_line (take l.i l.mesh.names))
