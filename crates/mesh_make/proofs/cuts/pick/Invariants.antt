use Rattle.std.proofs.Common.{◌≡◌, take}
use Rattle.plain_lists.specs.Lists.{picked}
use Rattle.mesh_make.proofs.cuts.pick.Given as goal

abbrev pub invariant-loop-corner : goal.invariant-loop-corner
invariant-loop-corner l = l.vertices.items ≡ picked l.corners (take l.corner-index l.corner-items)
