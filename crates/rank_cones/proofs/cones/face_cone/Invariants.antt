use Rattle.std.proofs.Common.{◌≡◌, map, take}
use Rattle.plain_lists.specs.Lists.{picked}
use Rattle.mesh_defs.specs.Tables.{Facet, facets_of}
use Rattle.rank_laws.specs.diagram_laws.Strata.{entry_from}
use Rattle.rank_cones.specs.Placed.{sight_at}
use Rattle.rank_cones.proofs.cones.face_cone.Given as goal

abbrev pub invariant-loop-j : goal.invariant-loop-j
invariant-loop-j g l = l.cone.items ≡ map (λ (f : Facet). entry_from l.base l.held.edges f.poly (picked (sight_at l.held.faces l.k).arrangement f.corners)) (take l.j (facets_of (sight_at l.held.faces l.k).poly))
