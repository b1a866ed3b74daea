use Rattle.std.proofs.Common.{◌≡◌, take}
use Rattle.plain_lists.specs.Lists.{picked}
use Rattle.mesh_defs.specs.Tables.{facet_at}
use Rattle.rank_cones.proofs.faces.list_facet.Given as goal

abbrev pub invariant-loop-j : goal.invariant-loop-j
invariant-loop-j l = take l.j l.seen ≡ take l.j (picked l.corners (facet_at l.poly l.f).corners)
