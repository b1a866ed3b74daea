use Rattle.std.proofs.Common.{subst}
use Rattle.plex_base.specs.Dim.{dim_number}
use Rattle.rank_laws.specs.diagram_laws.Strata.{face_sights}
use Rattle.rank_cones.specs.Placed.{IsFirstTwist}
use Rattle.rank_cones.proofs.RankParts.{rank-whole, draws-whole, draws-twisted}
use Rattle.rank_cones.proofs.whole.rank_plex.Goals as goal

pub assemble-requires : goal.assemble-requires
assemble-requires g c = record { whole = rank-whole c.requires.0 c.requires.1 c.requires.2 c.requires.3 (dim_number c.args.dim) (g.C.CellList.cells c.args.cells.now) c.args.vertices.now c.args.local.now c.args.held.now c.requires.4 }

pub returns-in-Ok : goal.returns-in-Ok
returns-in-Ok g c = λ m n a r is. draws-whole m n a r (dim_number c.args.dim) (g.C.CellList.cells c.args.cells.now) c.args.vertices.now c.args.local.now c.args.held.now is c.in-Ok.plex c.in-Ok.ensures.plex c.in-Ok.ensures.untwisted

pub returns-in-Err-Twist : goal.returns-in-Err-Twist
returns-in-Err-Twist g c = λ m n a r is.
    draws-twisted m n a r (dim_number c.args.dim) (g.C.CellList.cells c.args.cells.now) c.args.vertices.now c.args.local.now c.args.held.now is c.in-Err-Twist.key.0
    (subst (IsFirstTwist c.args.held.now.faces (face_sights (g.C.CellList.cells c.args.cells.now))) c.in-Err-Twist.field-0-is c.in-Err-Twist.ensures.stop)
