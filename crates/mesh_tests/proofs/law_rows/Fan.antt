-- Three triangles over two ranks: they meet what the laws ask.
use Rattle.std.proofs.Common.{ℕ, List, [], ◌∷◌, refl, arith}
use Rattle.plain_lists.specs.Lists.{sorted}
use Rattle.mesh_defs.specs.Points.{Point, sights_of, first_sight, arrangement}
use Rattle.mesh_defs.specs.Orientation.{rotations, reflections, orientations, corners_under, act, relative}
use Rattle.mesh_defs.specs.Diagram.{seen_under, twist_key, IsAccepted}
use Rattle.mesh_defs.specs.RightMesh.{IsRightMesh, CellsDiffer, AreCells}
use Rattle.mesh_defs.proofs.RightMeshes.{right-mesh}
use Rattle.plex_defs.proofs.Meshes.{three_triangles}
use Rattle.rank_defs.specs.Ranks.{IsRightAssignment, assigned}
use Rattle.rank_defs.proofs.RightRows.{right-assignment}

-- rank 0 has the first triangle, rank 1 the two at its sides
abbrev pub fan_ranks : List ℕ
fan_ranks = 0 ∷ 1 ∷ 1 ∷ []

abbrev pub edge : ℕ → ℕ → Point
edge v w = record { dim = 1; vertices = v ∷ w ∷ [] }

pub fan_is_right : IsRightMesh three_triangles
unfolding sorted
fan_is_right = right-mesh three_triangles refl

pub fan_cells_differ : CellsDiffer three_triangles
unfolding sorted
fan_cells_differ = refl

pub fan_is_accepted : IsAccepted three_triangles
unfolding sorted rotations reflections orientations corners_under act relative sights_of first_sight arrangement seen_under twist_key
fan_is_accepted = refl

pub fan_ranks_are_right : IsRightAssignment three_triangles 2 fan_ranks
fan_ranks_are_right = right-assignment three_triangles 2 fan_ranks refl

-- the cells of rank 1 are cells of the mesh
pub cells_of_one : AreCells three_triangles (assigned three_triangles fan_ranks 1)
unfolding assigned
cells_of_one = ((1, omega arith, refl), ((2, omega arith, refl), tt))
