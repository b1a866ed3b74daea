use Rattle.std.proofs.Common.{arith}
use Rattle.mesh_make.proofs.Spots.{grid-at}
use Rattle.mesh_make.proofs.grid.Spot.of.Goals as goal

pub returns-clause-spot : goal.returns-clause-spot
returns-clause-spot c = λ layers low. grid-at c.args.side layers c.args.i (omega arith) low
