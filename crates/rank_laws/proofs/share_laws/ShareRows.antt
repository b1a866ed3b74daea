-- Worked rows: what ranks see of two and of three triangles, and which points they share.
use Rattle.std.proofs.Common.{◌≡◌, ℕ, List, [], ◌∷◌, map, refl}
use Rattle.std.specs.List.{list_any, position_or_len}
use Rattle.mesh_defs.specs.Mesh.{Mesh, Cell}
use Rattle.mesh_defs.specs.declared.Poly.TheVariants.{Triangle}
use Rattle.plain_lists.specs.Lists.{sorted}
use Rattle.mesh_defs.specs.Points.{Point, shows, sights_of, contains}
use Rattle.sf_defs.specs.Forest.{leaf}
use Rattle.rank_defs.specs.Ranks.{assigned, ranks_at, owner}
use Rattle.rank_defs.specs.Spread.{point_forest, own_chart}
use Rattle.plex_defs.proofs.Meshes.{two_triangles, two_triangles_at}
use Rattle.rank_laws.specs.share_laws.Charts.{vertex_point, own_charts, points_of, forest_of_charts}
use Rattle.rank_laws.specs.share_laws.Packed.{packed}

abbrev point : ℕ → List ℕ → Point
point dim vertices = record { dim = dim; vertices = vertices }

abbrev triangle : ℕ → ℕ → ℕ → Cell
triangle a b c = record { poly = Triangle; vertices = a ∷ b ∷ c ∷ [] }

-- three triangles of which the second and third lie at two sides of the first
abbrev fan : Mesh
fan = record { dim = 2; at = map two_triangles_at (0 ∷ 0 ∷ 0 ∷ 0 ∷ 0 ∷ []); cells = triangle 0 1 2 ∷ triangle 0 2 3 ∷ triangle 2 1 4 ∷ []; marks = []; names = []; fields = []; unused = 0; loose = 0; merged = 0 }

-- rank 0 has the first, rank 1 the others
abbrev fan_ranks : List ℕ
fan_ranks = 0 ∷ 1 ∷ 1 ∷ []

-- what each rank sees by itself
fan_points : points_of (own_charts fan fan_ranks 2)
    ≡ (point 2 (0 ∷ 1 ∷ 2 ∷ []) ∷ point 0 (0 ∷ []) ∷ point 0 (1 ∷ []) ∷ point 0 (2 ∷ []) ∷ point 1 (0 ∷ 1 ∷ []) ∷ point 1 (1 ∷ 2 ∷ []) ∷ point 1 (0 ∷ 2 ∷ []) ∷ [])
    ∷ (point 2 (0 ∷ 2 ∷ 3 ∷ []) ∷ point 2 (1 ∷ 2 ∷ 4 ∷ []) ∷ point 0 (0 ∷ []) ∷ point 0 (1 ∷ []) ∷ point 0 (2 ∷ []) ∷ point 0 (3 ∷ []) ∷ point 0 (4 ∷ []) ∷ point 1 (0 ∷ 2 ∷ []) ∷ point 1 (2 ∷ 3 ∷ []) ∷ point 1 (0 ∷ 3 ∷ []) ∷ point 1 (1 ∷ 2 ∷ []) ∷ point 1 (1 ∷ 4 ∷ []) ∷ point 1 (2 ∷ 4 ∷ []) ∷ [])
    ∷ []
unfolding sorted sights_of contains assigned own_chart own_charts
fan_points = refl

-- The edge between the vertices 0 and 1 has no leaf, although rank 1 has both its vertices.
fan_forest : forest_of_charts (points_of (own_charts fan fan_ranks 2))
    ≡ record { roots = 7 ∷ 13 ∷ []; leaves = [] ∷ (leaf 2 (0, 1) ∷ leaf 3 (0, 2) ∷ leaf 4 (0, 3) ∷ leaf 7 (0, 6) ∷ leaf 10 (0, 5) ∷ []) ∷ [] }
unfolding sorted sights_of contains assigned own_chart own_charts forest_of_charts
fan_forest = refl

fan_forest_by_owners : point_forest fan fan_ranks (own_charts fan fan_ranks 2)
    ≡ record { roots = 7 ∷ 13 ∷ []; leaves = [] ∷ (leaf 2 (0, 1) ∷ leaf 3 (0, 2) ∷ leaf 4 (0, 3) ∷ leaf 7 (0, 6) ∷ leaf 10 (0, 5) ∷ []) ∷ [] }
unfolding sorted sights_of contains assigned ranks_at owner own_chart own_charts point_forest
fan_forest_by_owners = refl

-- owners, and first charts
fan_owners : map (owner fan fan_ranks) (vertex_point 0 ∷ vertex_point 4 ∷ point 1 (1 ∷ 2 ∷ []) ∷ point 1 (0 ∷ 3 ∷ []) ∷ []) ≡ 0 ∷ 1 ∷ 0 ∷ 1 ∷ []
unfolding sorted sights_of contains ranks_at owner
fan_owners = refl

fan_first_holders : map (λ p. position_or_len (list_any (shows p)) (own_charts fan fan_ranks 2)) (vertex_point 0 ∷ vertex_point 4 ∷ point 1 (1 ∷ 2 ∷ []) ∷ point 1 (0 ∷ 3 ∷ []) ∷ []) ≡ 0 ∷ 1 ∷ 0 ∷ 1 ∷ []
unfolding sorted sights_of contains assigned own_chart own_charts
fan_first_holders = refl

-- an idle rank between the two of two triangles sees nothing
idle_rank_forest : forest_of_charts (points_of (own_charts two_triangles (0 ∷ 2 ∷ []) 3))
    ≡ record { roots = 7 ∷ 0 ∷ 7 ∷ []; leaves = [] ∷ [] ∷ (leaf 1 (0, 2) ∷ leaf 2 (0, 3) ∷ leaf 6 (0, 5) ∷ []) ∷ [] }
unfolding sorted sights_of contains assigned own_chart own_charts forest_of_charts
idle_rank_forest = refl

-- a set of two, of three and of four vertices
packed_sets : map packed ((1 ∷ 2 ∷ []) ∷ (0 ∷ 1 ∷ 2 ∷ []) ∷ (0 ∷ 1 ∷ 2 ∷ 3 ∷ []) ∷ [])
    ≡ (4294967298 ∷ 18446744073709551615 ∷ []) ∷ (1 ∷ 12884901887 ∷ []) ∷ (1 ∷ 8589934595 ∷ []) ∷ []
unfolding packed
packed_sets = refl
