-- What ranks are given tells the forest of shared points.
use Rattle.std.proofs.Common.{◌≡◌, ℕ, List, ◌++◌, map, length, sym, ap, ◌∙◌}
use Rattle.plain_lists.specs.Lists.{below}
use Rattle.plain_lists.proofs.Each.{all_from}
use Rattle.plain_lists.proofs.Filters.{map_map_same}
use Rattle.mesh_defs.specs.Mesh.{Mesh}
use Rattle.mesh_defs.specs.RightMesh.{IsRightMesh}
use Rattle.rank_defs.specs.Ranks.{assigned}
use Rattle.rank_defs.specs.Spread.{PlainScatter, IsScatter, point_forest, scatter_part, plain_scatter}
use Rattle.rank_laws.specs.share_laws.Charts.{own_charts}
use Rattle.rank_chart_laws.specs.meeting_laws.Sets.{forest_of_sets}
use Rattle.rank_chart_laws.specs.OwnRanks.{set_of, own_rank_chart, own_rank_charts}
use Rattle.rank_chart_laws.proofs.Given.{rank-vertices, rank-owners}
use Rattle.rank_chart_laws.proofs.Right.{own-forest_by_sets}
use Rattle.interp_share.specs.own_field_laws.Own.{part_chart}
use Rattle.interp_share.proofs.own_field_laws.Points.{faces-listed, edges-listed}

module _ (m : Mesh) (right : IsRightMesh m) (a : List ℕ) where
  -- what a rank has by its own cells
  chart-of_part : (r : ℕ) → part_chart (scatter_part m a (assigned m a r)) ≡ own_rank_chart m a r
  unfolding own_rank_chart scatter_part
  chart-of_part r = sym (λ i. record {
    cells = length (assigned m a r);
    vertices = rank-vertices m a r right.sound i;
    owners = rank-owners m a r right.sound i;
    sets = map set_of (faces-listed m right a r i ++ edges-listed m right a r i);
  })

  charts-of_parts : (n : ℕ) → map part_chart (map (λ r. scatter_part m a (assigned m a r)) (below n)) ≡ own_rank_charts m a n
  unfolding own_rank_charts
  charts-of_parts n = map_map_same part_chart (λ r. scatter_part m a (assigned m a r)) (own_rank_chart m a) (below n) (all_from (λ r. part_chart (scatter_part m a (assigned m a r)) ≡ own_rank_chart m a r) chart-of_part (below n))

-- the forest by the parts of a scatter
pub forest-of_parts : (s : PlainScatter) (m : Mesh) (dofs : List (List ℕ)) (a : List ℕ) (n : ℕ) → IsScatter s m dofs a n → point_forest m a (own_charts m a n) ≡ forest_of_sets (map part_chart s.parts)
unfolding plain_scatter
forest-of_parts s m dofs a n is =
    own-forest_by_sets m n a is.mesh is.assignment
    ∙ ap forest_of_sets (sym (charts-of_parts m is.mesh a n) ∙ ap (λ (t : PlainScatter). map part_chart t.parts) (sym is.value))
