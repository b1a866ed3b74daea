-- Worked rows: a closure turned over and a star of two triangles, and the closure of a tetrahedron, by cones.
use Rattle.std.proofs.Common.{◌≡◌, ℕ, [], ◌∷◌, ℤ, pos, negsuc, refl}
use Rattle.mesh_defs.specs.declared.ConeEntry.{ConeEntry}
use Rattle.plain_lists.specs.Lists.{sorted}
use Rattle.mesh_defs.specs.Orientation.{rotations, reflections, orientations, corners_under, act, relative}
use Rattle.mesh_defs.specs.Mesh.{placed_cells}
use Rattle.mesh_defs.specs.Points.{sights_of, first_sight, key, arrangement, contains}
use Rattle.mesh_defs.specs.Diagram.{Diagram, stratum, strata, chart, seen_under, entry, cone, diagram}
use Rattle.poly_orient.specs.Group.{composition, facet_on, facet_under}
use Rattle.plex_defs.proofs.Meshes.{two_triangles, two_tetrahedra}
use Rattle.walk_defs.specs.Cones.{facet_by_cone, closure_by_cones, star_by_cones}

abbrev drawn : Diagram
drawn = diagram two_triangles (placed_cells two_triangles)

abbrev solid : Diagram
solid = diagram two_tetrahedra (placed_cells two_tetrahedra)

abbrev at : ℕ → ℤ → ConeEntry
at p o = record { point = p; o = o }

closure_turned_over : closure_by_cones drawn 1 (negsuc 0) ≡ at 1 (negsuc 0) ∷ at 7 (pos 0) ∷ at 10 (negsuc 0) ∷ at 9 (negsuc 0) ∷ at 3 (pos 0) ∷ at 4 (pos 0) ∷ at 5 (pos 0) ∷ []
unfolding sorted rotations reflections orientations corners_under act relative sights_of first_sight key arrangement contains stratum strata chart seen_under entry cone diagram composition facet_on facet_under facet_by_cone closure_by_cones
closure_turned_over = refl

star_of_a_vertex : star_by_cones drawn 3 ≡ 0 ∷ 1 ∷ 3 ∷ 6 ∷ 7 ∷ 9 ∷ []
unfolding sorted rotations reflections orientations corners_under act relative sights_of first_sight key arrangement contains stratum strata chart seen_under entry cone diagram star_by_cones
star_of_a_vertex = refl

-- four faces as they are, six edges as the faces see them first, and four vertices
closure_of_a_tetrahedron : closure_by_cones solid 0 (pos 0)
    ≡ at 0 (pos 0)
    ∷ at 7 (pos 0) ∷ at 8 (pos 0) ∷ at 9 (pos 0) ∷ at 10 (pos 0)
    ∷ at 16 (negsuc 0) ∷ at 15 (negsuc 0) ∷ at 14 (negsuc 0) ∷ at 18 (pos 0) ∷ at 17 (negsuc 0) ∷ at 19 (pos 0)
    ∷ at 2 (pos 0) ∷ at 4 (pos 0) ∷ at 3 (pos 0) ∷ at 5 (pos 0) ∷ []
unfolding sorted rotations reflections orientations corners_under act relative sights_of first_sight key arrangement contains stratum strata chart seen_under entry cone diagram composition facet_on facet_under facet_by_cone closure_by_cones
closure_of_a_tetrahedron = refl
