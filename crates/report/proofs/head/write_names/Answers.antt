use Rattle.std.proofs.Common.{arith}
use Rattle.input_defs.specs.Further.{name_line}
use Rattle.report.specs.Heads.{no_name}
use Rattle.report.proofs.Looping.{texts-stop}
use Rattle.report.proofs.head.write_names.Goals as goal

pub returns-in_err-write_name : goal.returns-in_err-write_name
returns-in_err-write_name g c =
    texts-stop name_line c.args.mesh.now.names c.loop-i.i no_name c.from_residual.result c.from_residual.ensures.1 (omega arith) c.loop-i.invariant
    c.in_err-write_name.ensures
