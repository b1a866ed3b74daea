-- Worked rows of traces: two triangles on two ranks, which change them, and of which the first one takes all at last.
use Rattle.std.proofs.Common.{◌≡◌, ℕ, [], ◌∷◌, map, refl}
use Rattle.plain_lists.specs.Lists.{sorted}
use Rattle.mesh_defs.specs.Points.{Sight, sights_of, contains}
use Rattle.mesh_defs.specs.Diagram.{stratum, strata, chart}
use Rattle.plex_defs.proofs.Meshes.{two_triangles}
use Rattle.sf_defs.specs.Forest.{Forest, leaf, root_of, compose}
use Rattle.rank_defs.specs.Ranks.{IsRightAssignment, assigned, layer, held_cells, held, ranks_at, owner, owned}
use Rattle.rank_defs.specs.Spread.{charts, owned_places, migration_forest}
use Rattle.rank_defs.proofs.RightRows.{right-assignment}
use Rattle.rank_laws.specs.orient_laws.Named.{keys_of}

assignments_are_right : IsRightAssignment two_triangles 2 (0 ∷ 1 ∷ []) × IsRightAssignment two_triangles 2 (1 ∷ 0 ∷ [])
assignments_are_right = (right-assignment two_triangles 2 (0 ∷ 1 ∷ []) refl, right-assignment two_triangles 2 (1 ∷ 0 ∷ []) refl)

-- rank 1 owns the second triangle, a vertex and two edges, with and without overlap
places_of_owned : map (λ k. map (λ (s : ℕ × Sight). s.0) (owned_places two_triangles (0 ∷ 1 ∷ []) 1 (held two_triangles (0 ∷ 1 ∷ []) 1 k))) (0 ∷ 1 ∷ []) ≡ (0 ∷ 3 ∷ 5 ∷ 6 ∷ []) ∷ (1 ∷ 5 ∷ 9 ∷ 10 ∷ []) ∷ []
unfolding sorted sights_of contains stratum strata chart assigned layer held_cells held ranks_at owner
places_of_owned = refl

points_of_places : map (λ k. keys_of (map (λ (s : ℕ × Sight). s.1) (owned_places two_triangles (0 ∷ 1 ∷ []) 1 (held two_triangles (0 ∷ 1 ∷ []) 1 k)))) (0 ∷ 1 ∷ []) ≡ (64 ∷ 3 ∷ 72 ∷ 73 ∷ []) ∷ (64 ∷ 3 ∷ 72 ∷ 73 ∷ []) ∷ []
unfolding sorted sights_of contains stratum strata chart assigned layer held_cells held ranks_at owner
points_of_places = refl

owned_by_one : keys_of (owned two_triangles (0 ∷ 1 ∷ []) 1) ≡ 64 ∷ 3 ∷ 72 ∷ 73 ∷ []
unfolding sorted sights_of contains stratum strata chart assigned held_cells held ranks_at owner owned
owned_by_one = refl

-- the ranks change triangles
abbrev second_trace : Forest
second_trace = record {
  roots = 7 ∷ 7 ∷ [];
  leaves = (leaf 0 (1, 0) ∷ leaf 1 (0, 2) ∷ leaf 2 (0, 3) ∷ leaf 3 (1, 3) ∷ leaf 4 (0, 5) ∷ leaf 5 (1, 5) ∷ leaf 6 (1, 6) ∷ [])
      ∷ (leaf 0 (0, 0) ∷ leaf 1 (0, 1) ∷ leaf 4 (0, 4) ∷ leaf 6 (0, 6) ∷ []) ∷ [];
}

-- rank 0 takes all
abbrev third_trace : Forest
third_trace = record {
  roots = 7 ∷ 7 ∷ [];
  leaves = (leaf 0 (0, 0) ∷ leaf 1 (1, 0) ∷ leaf 2 (0, 1) ∷ leaf 3 (0, 2) ∷ leaf 4 (0, 3) ∷ leaf 5 (1, 3) ∷ leaf 6 (0, 4) ∷ leaf 7 (0, 5) ∷ leaf 8 (0, 6) ∷ leaf 9 (1, 5) ∷ leaf 10 (1, 6) ∷ []) ∷ [] ∷ [];
}

-- after the first trace
after_first : compose (migration_forest two_triangles (0 ∷ 1 ∷ []) (0 ∷ 1 ∷ []) 2) (migration_forest two_triangles (0 ∷ 1 ∷ []) (1 ∷ 0 ∷ []) 2) ≡ second_trace
unfolding sorted sights_of contains stratum strata chart assigned held_cells held ranks_at owner charts migration_forest root_of compose
after_first = refl

-- and after the second one
after_second : compose (migration_forest two_triangles (0 ∷ 1 ∷ []) (1 ∷ 0 ∷ []) 2) (migration_forest two_triangles (1 ∷ 0 ∷ []) (0 ∷ 0 ∷ []) 2) ≡ third_trace
unfolding sorted sights_of contains stratum strata chart assigned held_cells held ranks_at owner charts migration_forest root_of compose
after_second = refl

from_first : map (λ next. migration_forest two_triangles (0 ∷ 1 ∷ []) next 2) ((1 ∷ 0 ∷ []) ∷ (0 ∷ 0 ∷ []) ∷ []) ≡ second_trace ∷ third_trace ∷ []
unfolding sorted sights_of contains stratum strata chart assigned held_cells held ranks_at owner charts migration_forest
from_first = refl
