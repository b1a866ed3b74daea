use Rattle.std.proofs.Common.{take, Ok}
use Rattle.std.specs.Prelude.{flat_map}
use Rattle.cause_defs.specs.Reports.{Reports}
use Rattle.mesh_tests.proofs.shelf_io_tests.write_lines.Given as goal

-- the lines up to here are reported
abbrev pub invariant-loop-line : goal.invariant-loop-line
invariant-loop-line g l =
    Reports g.W.Sink.written g.W.Sink.flushed g.W.Sink.faults g.W.Sink.counts_failures_alone (Ok (tt {0})) l.fn.out l.out (flat_map (λ line. line.items) (take l.line-index l.lines))
