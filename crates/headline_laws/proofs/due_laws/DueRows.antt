-- Worked rows: three triangles over two ranks; how many points there are, and the asks of both rounds.
use Rattle.std.proofs.Common.{◌≡◌, ℕ, List, [], ◌∷◌, map, length, refl}
use Rattle.mesh_defs.specs.Mesh.{Mesh, Cell}
use Rattle.mesh_defs.specs.declared.Poly.TheVariants.{Triangle}
use Rattle.plain_lists.specs.Lists.{sorted}
use Rattle.mesh_defs.specs.Points.{sights_of, contains}
use Rattle.mesh_defs.specs.Diagram.{stratum, strata, chart}
use Rattle.sf_defs.specs.declared.Op.TheVariants.{Sum}
use Rattle.rank_defs.specs.Ranks.{assigned, held_cells, held, ranks_at, owner, owned, is_shared, own_key}
use Rattle.rank_defs.specs.Home.{by_vertices, shared_points, home_points, home_words, number_asks}
use Rattle.plex_defs.proofs.Meshes.{two_triangles_at}

abbrev triangle : ℕ → ℕ → ℕ → Cell
triangle a b c = record { poly = Triangle; vertices = a ∷ b ∷ c ∷ [] }

-- three triangles of which the second and third lie at two sides of the first
abbrev fan : Mesh
fan = record { dim = 2; at = map two_triangles_at (0 ∷ 0 ∷ 0 ∷ 0 ∷ 0 ∷ []); cells = triangle 0 1 2 ∷ triangle 0 2 3 ∷ triangle 2 1 4 ∷ []; marks = []; names = []; fields = []; unused = 0; loose = 0; merged = 0 }

abbrev fan_ranks : List ℕ
fan_ranks = 0 ∷ 1 ∷ 1 ∷ []

-- three cells, five vertices and seven edges
points_of_fan : length (strata fan) ≡ 15
unfolding sorted sights_of strata stratum
points_of_fan = refl

-- the words of the home round are rank 0's own keys
words_of_fan : home_words fan fan_ranks (home_points fan fan_ranks 2) ≡ 10 ∷ 9 ∷ []
unfolding sorted sights_of by_vertices shared_points home_points home_words strata stratum owner is_shared ranks_at contains own_key assigned
words_of_fan = refl

-- rank 0 owns a cell, three vertices and three edges, rank 1 two cells, two vertices and four edges
counts_of_fan : number_asks fan fan_ranks 2 ≡ (record { word = 0; op = Sum; value = 7 } ∷ []) ∷ (record { word = 0; op = Sum; value = 8 } ∷ []) ∷ []
unfolding sorted sights_of number_asks owned held held_cells chart strata stratum owner ranks_at contains assigned
counts_of_fan = refl
