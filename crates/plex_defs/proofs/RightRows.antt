-- Worked rows: the meshes of the rows are right, also the one with a twisted face.
use Rattle.std.proofs.Common.{◌≡◌, true, false, [], ◌∷◌, map, refl}
use Rattle.std.specs.Prelude.{is_none}
use Rattle.std.specs.List.{list_all}
use Rattle.plain_lists.specs.Lists.{sorted}
use Rattle.mesh_defs.specs.Orientation.{rotations, reflections, orientations, corners_under, act, relative}
use Rattle.mesh_defs.specs.Points.{sights_of, first_sight, arrangement}
use Rattle.mesh_defs.specs.Diagram.{seen_under, twist_key}
use Rattle.mesh_defs.specs.RightMesh.{IsRightMesh}
use Rattle.mesh_defs.proofs.RightMeshes.{is_right, right-mesh}
use Rattle.plex_defs.proofs.Meshes.{two_triangles, two_tetrahedra, two_hexahedra, twisted_hexahedra, three_triangles, around_a_vertex, strip}

right_meshes : list_all is_right (two_triangles ∷ two_tetrahedra ∷ two_hexahedra ∷ twisted_hexahedra ∷ three_triangles ∷ around_a_vertex ∷ strip ∷ []) ≡ true
unfolding sorted
right_meshes = refl

pub strip_is_right : IsRightMesh strip
unfolding sorted
strip_is_right = right-mesh strip refl

-- all but the twisted one are accepted
accepted_meshes : map (λ m. is_none (twist_key m)) (two_triangles ∷ two_tetrahedra ∷ two_hexahedra ∷ twisted_hexahedra ∷ three_triangles ∷ around_a_vertex ∷ strip ∷ []) ≡ true ∷ true ∷ true ∷ false ∷ true ∷ true ∷ true ∷ []
unfolding sorted rotations reflections orientations corners_under act relative sights_of first_sight arrangement seen_under twist_key
accepted_meshes = refl
