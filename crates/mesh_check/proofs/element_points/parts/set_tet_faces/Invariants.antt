use Rattle.std.proofs.Common.{map, take}
use Rattle.plain_lists.specs.Lists.{picked}
use Rattle.mesh_defs.specs.declared.Poly.TheVariants.{Tet}
use Rattle.mesh_defs.specs.Tables.{Facet, dim_of, facets_of}
use Rattle.mesh_check.specs.element_points.Parts.{part}
use Rattle.mesh_check.specs.element_points.Flags.{AreSet}
use Rattle.mesh_check.proofs.element_points.parts.set_tet_faces.Given as goal

abbrev pub invariant-loop-f : goal.invariant-loop-f
invariant-loop-f l = AreSet l.places.elements (map (λ (x : Facet). part (dim_of x.poly) (picked l.nodes x.corners)) (take l.f (facets_of Tet))) l.fn.found l.found
