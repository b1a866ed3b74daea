-- Worked rows: what two ranks have of three triangles, as sets, and the forest that these tell.
use Rattle.std.proofs.Common.{◌≡◌, ℕ, List, [], ◌∷◌, map, refl}
use Rattle.mesh_defs.specs.Mesh.{Mesh, Cell}
use Rattle.mesh_defs.specs.declared.Poly.TheVariants.{Triangle}
use Rattle.plain_lists.specs.Lists.{sorted}
use Rattle.mesh_defs.specs.Points.{sights_of, contains}
use Rattle.sf_defs.specs.Forest.{leaf, degree}
use Rattle.rank_defs.specs.Ranks.{assigned, ranks_at, owner}
use Rattle.plex_defs.proofs.Meshes.{two_triangles_at}
use Rattle.rank_laws.specs.share_laws.Packed.{no_vertex}
use Rattle.rank_chart_laws.specs.meeting_laws.Sets.{forest_of_sets}
use Rattle.rank_chart_laws.specs.meeting_laws.Steps.{vertex_forest, is_copied, may_share, candidates}
use Rattle.rank_chart_laws.specs.OwnRanks.{own_rank_chart, own_rank_charts}

abbrev triangle : ℕ → ℕ → ℕ → Cell
triangle a b c = record { poly = Triangle; vertices = a ∷ b ∷ c ∷ [] }

-- three triangles of which the second and third lie at two sides of the first, which rank 0 has
abbrev fan : Mesh
fan = record { dim = 2; at = map two_triangles_at (0 ∷ 0 ∷ 0 ∷ 0 ∷ 0 ∷ []); cells = triangle 0 1 2 ∷ triangle 0 2 3 ∷ triangle 2 1 4 ∷ []; marks = []; names = []; fields = []; unused = 0; loose = 0; merged = 0 }

abbrev pair : ℕ → ℕ → List ℕ
pair a b = a ∷ b ∷ no_vertex ∷ no_vertex ∷ []

fan_charts : own_rank_charts fan (0 ∷ 1 ∷ 1 ∷ []) 2
    ≡ record { cells = 1; vertices = 0 ∷ 1 ∷ 2 ∷ []; owners = 0 ∷ 0 ∷ 0 ∷ []; sets = pair 0 1 ∷ pair 1 2 ∷ pair 0 2 ∷ [] }
    ∷ record { cells = 2; vertices = 0 ∷ 1 ∷ 2 ∷ 3 ∷ 4 ∷ []; owners = 0 ∷ 0 ∷ 0 ∷ 1 ∷ 1 ∷ []; sets = pair 0 2 ∷ pair 2 3 ∷ pair 0 3 ∷ pair 1 2 ∷ pair 1 4 ∷ pair 2 4 ∷ [] } ∷ []
unfolding sorted sights_of contains assigned ranks_at owner own_rank_chart own_rank_charts
fan_charts = refl

-- Rank 0 brings all its edges, for its vertices all have copies; rank 1 the two whose ends others have too. The edge between the
-- vertices 0 and 1 meets none.
fan_candidates : map (candidates (own_rank_charts fan (0 ∷ 1 ∷ 1 ∷ []) 2)) (0 ∷ 1 ∷ []) ≡ (0 ∷ 1 ∷ 2 ∷ []) ∷ (0 ∷ 3 ∷ []) ∷ []
unfolding sorted sights_of contains assigned ranks_at owner own_rank_chart own_rank_charts degree vertex_forest is_copied may_share
fan_candidates = refl

fan_forest : forest_of_sets (own_rank_charts fan (0 ∷ 1 ∷ 1 ∷ []) 2)
    ≡ record { roots = 7 ∷ 13 ∷ []; leaves = [] ∷ (leaf 2 (0, 1) ∷ leaf 3 (0, 2) ∷ leaf 4 (0, 3) ∷ leaf 7 (0, 6) ∷ leaf 10 (0, 5) ∷ []) ∷ [] }
unfolding sorted sights_of contains assigned ranks_at owner own_rank_chart own_rank_charts forest_of_sets
fan_forest = refl
