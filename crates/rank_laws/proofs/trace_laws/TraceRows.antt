-- Worked rows: two triangles on one rank each, and then the other way round.
use Rattle.std.proofs.Common.{◌≡◌, [], ◌∷◌, refl}
use Rattle.plain_lists.specs.Lists.{sorted}
use Rattle.mesh_defs.specs.Points.{sights_of, contains}
use Rattle.mesh_defs.specs.Diagram.{stratum, strata, chart}
use Rattle.plex_defs.proofs.Meshes.{two_triangles}
use Rattle.sf_defs.specs.Forest.{leaf}
use Rattle.rank_defs.specs.Ranks.{assigned, held_cells, held, ranks_at, owner}
use Rattle.rank_defs.specs.Spread.{charts, migration_forest}

-- rank 0 owns all of the first triangle, rank 1 what is left of the second: the cell, one vertex and two edges
first_trace : migration_forest two_triangles (0 ∷ 1 ∷ []) (0 ∷ 1 ∷ []) 2
    ≡ record {
      roots = 7 ∷ 7 ∷ [];
      leaves = (leaf 0 (0, 0) ∷ leaf 1 (0, 1) ∷ leaf 2 (0, 2) ∷ leaf 3 (0, 3) ∷ leaf 4 (0, 4) ∷ leaf 5 (0, 5) ∷ leaf 6 (0, 6) ∷ [])
          ∷ (leaf 0 (1, 0) ∷ leaf 3 (1, 3) ∷ leaf 5 (1, 5) ∷ leaf 6 (1, 6) ∷ []) ∷ [];
    }
unfolding sorted sights_of contains stratum strata chart assigned held_cells held ranks_at owner charts migration_forest
first_trace = refl

-- the ranks change triangles, and rank 0 takes the shared points with it
next_trace : migration_forest two_triangles (0 ∷ 1 ∷ []) (1 ∷ 0 ∷ []) 2
    ≡ record {
      roots = 7 ∷ 7 ∷ [];
      leaves = (leaf 0 (1, 0) ∷ leaf 1 (0, 2) ∷ leaf 2 (0, 3) ∷ leaf 3 (1, 3) ∷ leaf 4 (0, 5) ∷ leaf 5 (1, 5) ∷ leaf 6 (1, 6) ∷ [])
          ∷ (leaf 0 (0, 0) ∷ leaf 1 (0, 1) ∷ leaf 4 (0, 4) ∷ leaf 6 (0, 6) ∷ []) ∷ [];
    }
unfolding sorted sights_of contains stratum strata chart assigned held_cells held ranks_at owner charts migration_forest
next_trace = refl
