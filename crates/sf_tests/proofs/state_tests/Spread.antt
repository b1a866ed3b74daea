-- The two ranks hold the mesh of two triangles.
use Rattle.std.proofs.Common.{◌≡◌, ℕ, true, List, [], ◌∷◌, map, length, refl, arith}
use Rattle.plain_lists.specs.Lists.{sorted}
use Rattle.mesh_defs.specs.Orientation.{rotations, reflections, orientations, corners_under, act, relative}
use Rattle.mesh_defs.specs.Points.{sights_of, first_sight, key, arrangement, contains}
use Rattle.mesh_defs.specs.Diagram.{stratum, strata, chart, seen_under, entry, cone, diagram}
use Rattle.mesh_defs.proofs.RightMeshes.{is_right, right-mesh}
use Rattle.plex_defs.specs.Labels.{mesh_label}
use Rattle.plex_defs.specs.Fields.{fields}
use Rattle.rank_defs.specs.Ranks.{assigned, held_cells, held, ranks_at, owner}
use Rattle.rank_defs.specs.Spread.{charts, point_forest, local_mesh, plain_dist, IsDist}
use Rattle.walk_defs.specs.step_defs.Numbers.{held_numbers}
use Rattle.sf_tests.specs.state_tests.Triangles.{two_triangles, two_ranks}

spread-is : two_ranks ≡ plain_dist two_triangles [] (0 ∷ 1 ∷ []) 2 0
unfolding sorted rotations reflections orientations corners_under act relative sights_of first_sight key arrangement contains stratum strata chart seen_under entry cone diagram mesh_label fields assigned held_cells held ranks_at owner charts point_forest local_mesh plain_dist
spread-is = refl

right : is_right two_triangles ≡ true
unfolding sorted sights_of contains
right = refl

pub two_ranks-stand : IsDist two_ranks two_triangles [] (0 ∷ 1 ∷ []) 2 0
two_ranks-stand = record {
  mesh = right-mesh two_triangles right;
  counts = record { few_lines = omega arith; four_counts = tt; small_counts = tt };
  assignment = record { some_rank = omega arith; few_ranks = omega arith; each = record { count = refl; in_range = (omega arith, (omega arith, tt)) } };
  value = spread-is;
}

-- each rank holds seven points
pub lengths : (bases : List ℕ) → map length (held_numbers two_triangles (0 ∷ 1 ∷ []) 2 0 bases) ≡ 7 ∷ 7 ∷ []
unfolding sorted sights_of contains stratum strata chart assigned held_cells held held_numbers
lengths bases = refl
