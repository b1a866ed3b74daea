-- Worked rows: four squares in a row over two ranks.
use Rattle.std.proofs.Common.{◌≡◌, ℕ, true, false, ◌==◌, List, [], ◌∷◌, map, length, refl}
use Rattle.std.specs.Prelude.{filter}
use Rattle.std.specs.List.{list_any}
use Rattle.plain_lists.specs.Lists.{sorted}
use Rattle.mesh_defs.specs.Mesh.{Mesh, Cell}
use Rattle.mesh_defs.specs.Points.{Sight, point_of, sights_of, contains}
use Rattle.mesh_defs.specs.Diagram.{stratum, strata, chart}
use Rattle.mesh_defs.specs.RightMesh.{in_some}
use Rattle.plex_defs.proofs.Meshes.{bare}
use Rattle.mesh_defs.specs.declared.Poly.TheVariants.{Quad}
use Rattle.rank_defs.specs.Ranks.{assigned, layer, held_cells, held, ranks_at, owner}
use Rattle.rank_defs.specs.Spread.{vertices_among}
use Rattle.rank_laws.specs.orient_laws.Named.{keys_of, chart_stratum}
use Rattle.rank_laws.specs.layer_laws.Around.{cells_at}

abbrev places : List (ℕ × Cell) → List ℕ
places cells = map (λ (c : ℕ × Cell). c.0) cells

-- four squares in a row, of which rank 0 has the first two and rank 1 the others
abbrev row : Mesh
row = bare 2 10 Quad ((0 ∷ 1 ∷ 6 ∷ 5 ∷ []) ∷ (1 ∷ 2 ∷ 7 ∷ 6 ∷ []) ∷ (2 ∷ 3 ∷ 8 ∷ 7 ∷ []) ∷ (3 ∷ 4 ∷ 9 ∷ 8 ∷ []) ∷ [])

abbrev halves : List ℕ
halves = 0 ∷ 0 ∷ 1 ∷ 1 ∷ []

-- the vertices that rank 0 has, and the cells of rank 1 at the last two
first_vertices : vertices_among (held row halves 0 0) ≡ 0 ∷ 1 ∷ 2 ∷ 5 ∷ 6 ∷ 7 ∷ []
unfolding sorted sights_of contains stratum strata chart assigned held_cells held
first_vertices = refl

cells_beside : map (λ v. places (cells_at row halves 1 v)) (2 ∷ 6 ∷ 7 ∷ []) ≡ (2 ∷ []) ∷ [] ∷ (2 ∷ []) ∷ []
unfolding sorted sights_of contains assigned cells_at
cells_beside = refl

-- both ranks know cells at vertex 2, rank 0 alone at vertex 1
holders : map (λ v. map (λ r. list_any (λ c. true) (cells_at row halves r v)) (0 ∷ 1 ∷ [])) (2 ∷ 1 ∷ []) ≡ (true ∷ true ∷ []) ∷ (true ∷ false ∷ []) ∷ []
unfolding sorted sights_of contains assigned cells_at
holders = refl

-- one layer is the square beside, two are all squares
layers : map (λ k. places (held_cells row halves 0 k)) (0 ∷ 1 ∷ 2 ∷ []) ≡ (0 ∷ 1 ∷ []) ∷ (0 ∷ 1 ∷ 2 ∷ []) ∷ (0 ∷ 1 ∷ 2 ∷ 3 ∷ []) ∷ []
unfolding assigned layer held_cells
layers = refl

-- the keys of the squares at these vertices, and of those of the layer
keys_beside : map (λ v. keys_of (chart_stratum row (cells_at row halves 1 v) 2)) (2 ∷ 6 ∷ 7 ∷ []) ≡ (128 ∷ []) ∷ [] ∷ (128 ∷ []) ∷ []
unfolding sorted sights_of contains stratum chart_stratum assigned cells_at
keys_beside = refl

layer_keys : keys_of (chart_stratum row (held_cells row halves 0 1) 2) ≡ 0 ∷ 64 ∷ 128 ∷ []
unfolding sorted sights_of contains stratum chart_stratum assigned layer held_cells
layer_keys = refl

-- back to none: 2 squares, 6 vertices and 7 edges of 4, 10 and 13
shrunk : length (filter (λ (s : Sight). in_some (point_of s) (assigned row halves 0)) (held row halves 0 2)) ≡ 15
unfolding sorted sights_of contains stratum strata chart assigned layer held_cells held
shrunk = refl

-- its own squares among all that it holds
own_squares : keys_of (filter (λ (s : Sight). owner row halves (point_of s) == 0) (chart_stratum row (held_cells row halves 0 2) 2)) ≡ 0 ∷ 64 ∷ []
unfolding sorted sights_of contains stratum chart_stratum assigned layer held_cells ranks_at owner
own_squares = refl
