-- Worked rows of overlap: four squares in a row over two ranks, which meet what the laws ask.
use Rattle.std.proofs.Common.{◌≡◌, ℕ, [], ◌∷◌, map, refl}
use Rattle.plain_lists.specs.Lists.{sorted}
use Rattle.mesh_defs.specs.declared.Poly.TheVariants.{Quad}
use Rattle.mesh_defs.specs.Mesh.{Mesh, Cell, placed_cells}
use Rattle.mesh_defs.specs.Points.{point_on, sights_of, contains}
use Rattle.mesh_defs.specs.RightMesh.{IsRightMesh, CellsDiffer}
use Rattle.mesh_defs.proofs.RightMeshes.{right-mesh}
use Rattle.plex_defs.proofs.Meshes.{bare}
use Rattle.rank_defs.specs.Ranks.{IsRightAssignment, rank_of, ranks_at, owner}
use Rattle.rank_defs.proofs.RightRows.{right-assignment}

abbrev row : Mesh
row = bare 2 10 Quad ((0 ∷ 1 ∷ 6 ∷ 5 ∷ []) ∷ (1 ∷ 2 ∷ 7 ∷ 6 ∷ []) ∷ (2 ∷ 3 ∷ 8 ∷ 7 ∷ []) ∷ (3 ∷ 4 ∷ 9 ∷ 8 ∷ []) ∷ [])

row_is_right : IsRightMesh row
unfolding sorted
row_is_right = right-mesh row refl

squares_differ : CellsDiffer row
unfolding sorted
squares_differ = refl

halves_are_right : IsRightAssignment row 2 (0 ∷ 0 ∷ 1 ∷ 1 ∷ [])
halves_are_right = right-assignment row 2 (0 ∷ 0 ∷ 1 ∷ 1 ∷ []) refl

-- each square is owned by the rank to which it is assigned
owners_of_squares : map (λ (c : ℕ × Cell). owner row (0 ∷ 0 ∷ 1 ∷ 1 ∷ []) (point_on c.1.poly c.1.vertices)) (placed_cells row) ≡ 0 ∷ 0 ∷ 1 ∷ 1 ∷ []
unfolding sorted sights_of contains ranks_at owner
owners_of_squares = refl

ranks_of_squares : map (rank_of (0 ∷ 0 ∷ 1 ∷ 1 ∷ [])) (placed_cells row) ≡ 0 ∷ 0 ∷ 1 ∷ 1 ∷ []
ranks_of_squares = refl
