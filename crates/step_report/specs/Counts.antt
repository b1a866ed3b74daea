-- Counts of points.
use Rattle.std.specs.Prelude.{◌≡◌, ℕ, ◌*◌, ◌<◌, ◌≤◌, Bool, ◌==◌, List, length, get_or, filter, count_by, sum_by}
use Rattle.plain_lists.specs.Lists.{below}
use Rattle.mesh_defs.specs.Tables.{dim_of}
use Rattle.rank_defs.specs.Spread.{LocalMesh, PlainDist}
use Rattle.walk_defs.specs.step_defs.Points.{owner_of, poly_of}
use Rattle.walk_defs.specs.step_defs.Steps.{own, own_cells, own_faces, own_in}
use Rattle.report.specs.declared.report_lines.steps.Totals.{Totals}
use Rattle.step_report.specs.declared.counts.Counts.{Counts}
use Rattle.step_report.specs.Conditions.{local_at}

-- rank o owns the point
abbrev pub is_of : LocalMesh → ℕ → ℕ → Bool
is_of l o p = owner_of l p == o

abbrev pub has_dim : LocalMesh → ℕ → ℕ → Bool
has_dim l d p = dim_of (poly_of l p) == d

-- the points before p that a rank owns
abbrev pub owned_before : LocalMesh → ℕ → ℕ → List ℕ
owned_before l o p = filter (is_of l o) (below p)

-- they are counted, in all and by dimension
pub record IsCounted (l : LocalMesh) (rank p : ℕ) (c : Counts) : Type 0 where
  pub owned : c.owned ≡ length (owned_before l rank p)
  pub many : length c.by_dim ≡ 4
  pub by_dim : (d : ℕ) → d < 4 → get_or c.by_dim d 0 ≡ count_by (has_dim l d) (owned_before l rank p)

-- so are those of each of n owners
pub record AreCounted (l : LocalMesh) (p : ℕ) (counts : List ℕ) : Type 0 where
  pub many : length counts ≡ 64
  pub each : (o : ℕ) → o < 64 → get_or counts o 0 ≡ length (owned_before l o p)

-- a sum over the first k ranks
abbrev pub over_first : PlainDist → ℕ → (ℕ × LocalMesh → ℕ) → ℕ
over_first d k f = sum_by (λ r. f (r, local_at d r)) (below k)

-- the totals of the first k ranks
pub record AreTotals (d : PlainDist) (k : ℕ) (t : Totals) : Type 0 where
  pub points : t.points ≡ over_first d k (λ r. length (own r))
  pub cells : t.cells ≡ over_first d k own_cells
  pub vertices : t.vertices ≡ over_first d k (own_in 0)
  pub faces : t.faces ≡ over_first d k own_faces
  pub edges : t.edges ≡ over_first d k (own_in 1)
  pub few_points : t.points ≤ k * 4294967295
  pub few_cells : t.cells ≤ k * 4294967295
  pub few_vertices : t.vertices ≤ k * 4294967295
  pub few_faces : t.faces ≤ k * 4294967295
  pub few_edges : t.edges ≤ k * 4294967295
