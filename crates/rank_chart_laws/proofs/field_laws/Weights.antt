-- The weight of a point is the sum over the ranks that have it of their own cells' sums.
use Rattle.std.proofs.Common.{◌≡◌, ◌==◌, ℕ, ◌+◌, false, List, sum_by, ap, ◌∙◌}
use Rattle.std.specs.Prelude.{filter}
use Rattle.plain_lists.specs.Lists.{below}
use Rattle.plain_lists.proofs.Filters.{filter_none, filter-swap}
use Rattle.plain_lists.proofs.Finding.{each_fails}
use Rattle.plain_lists.proofs.Each.{all_filter}
use Rattle.mesh_defs.specs.Mesh.{Mesh, Cell, placed_cells}
use Rattle.mesh_defs.specs.Points.{Point, contains}
use Rattle.mesh_defs.specs.RightMesh.{in_some}
use Rattle.plex_defs.specs.Fields.{weight}
use Rattle.rank_defs.specs.Ranks.{IsAssignment, assigned, rank_of}
use Rattle.rank_laws.proofs.Owning.{ranks-below}
use Rattle.rank_chart_laws.specs.field_laws.Weights.{weight_in}
use Rattle.rank_chart_laws.proofs.field_laws.Sums.{sum-classes}

-- cells that do not contain a point give it no weight
pub weight-none : (cells : List (ℕ × Cell)) (p : Point) → in_some p cells ≡ false → weight_in cells p ≡ 0
weight-none cells p h = ap (sum_by (λ (c : ℕ × Cell). c.0 + 1)) (filter_none (λ (c : ℕ × Cell). contains c.1 p) cells (each_fails (λ (c : ℕ × Cell). contains c.1 p) cells h))

-- the weight of a point adds up over ranks
pub weight-by_rank : (m : Mesh) (n : ℕ) (a : List ℕ) (p : Point) → IsAssignment m n a → weight m p ≡ sum_by (λ r. weight_in (assigned m a r) p) (below n)
unfolding assigned
weight-by_rank m n a p parts =
    sum-classes (rank_of a) (λ (c : ℕ × Cell). c.0 + 1) n (filter (λ (c : ℕ × Cell). contains c.1 p) (placed_cells m)) (all_filter _ (λ (c : ℕ × Cell). contains c.1 p) (placed_cells m) (ranks-below m n a parts))
    ∙ (λ i. sum_by (λ r. sum_by (λ (c : ℕ × Cell). c.0 + 1) (filter-swap (λ c. rank_of a c == r) (λ (c : ℕ × Cell). contains c.1 p) (placed_cells m) i)) (below n))
