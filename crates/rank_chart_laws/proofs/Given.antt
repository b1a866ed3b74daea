-- What ranks are given, and what they know of their vertices and of faces and edges, is what their charts have.
use Rattle.std.proofs.Common.{◌≡◌, ◌≢◌, ℕ, Bool, true, false, cond, ◌==◌, List, [], ◌∷◌, ◌++◌, map, length, refl, sym, ap, ap₂, ◌∙◌, subst, ⊎_elim, arith, append-nil}
use Rattle.std.specs.List.{AllByRecursion, filter}
use Rattle.std.proofs.lemmas.Bool.{eq-eqb, ne_eqb}
use Rattle.std.proofs.lemmas.List.Elements.{filter-append}
use Rattle.plain_lists.specs.Lists.{below}
use Rattle.plain_lists.proofs.Each.{all_weaker, all_from, all_map, all_filter}
use Rattle.plain_lists.proofs.Filters.{filter_whole, filter_none, map_map_same, filter-mapped}
use Rattle.mesh_defs.specs.Tables.{dim_of}
use Rattle.mesh_defs.specs.Mesh.{Mesh, Cell, placed_cells}
use Rattle.mesh_defs.specs.Points.{Sight, point_of, vertex_sight, vertex_sights}
use Rattle.mesh_defs.specs.Diagram.{stratum, chart}
use Rattle.mesh_defs.specs.RightMesh.{IsFlatOrSolid, IsSoundMesh, in_some}
use Rattle.rank_defs.specs.Ranks.{assigned, owner}
use Rattle.rank_defs.specs.Spread.{vertices_among, scatter_part, own_stratum, own_chart}
use Rattle.rank_laws.specs.share_laws.Charts.{vertex_point}
use Rattle.rank_laws.proofs.share_laws.Own.{own-of_dim}
use Rattle.rank_laws.specs.orient_laws.Named.{chart_stratum}
use Rattle.rank_laws.proofs.orient_laws.ByKey.{chart-strata}
use Rattle.rank_laws.proofs.orient_laws.Seen.{stratum-own}
use Rattle.rank_chart_laws.specs.OwnRanks.{own_vertices, own_rank_chart}

is_vertex : Sight → Bool
is_vertex s = dim_of s.poly == 0

-- of what stands in strata, the vertices
vertices-of : (d : ℕ) → d ≢ 0 → (e : ℕ) → e ≢ 0 → (tops vs faces edges : List Sight) → AllByRecursion (λ (s : Sight). dim_of s.poly ≡ d) tops → AllByRecursion (λ (s : Sight). dim_of s.poly ≡ 0) vs → AllByRecursion (λ (s : Sight). dim_of s.poly ≡ 2) faces → AllByRecursion (λ (s : Sight). dim_of s.poly ≡ e) edges
    → filter (λ s. dim_of s.poly == 0) (tops ++ vs ++ faces ++ edges) ≡ vs
vertices-of d nd e ne tops vs faces edges t v f g =
    filter-append test (tops ++ vs ++ faces) edges
    ∙ ap₂ (λ x y. x ++ y) (filter-append test (tops ++ vs) faces ∙ ap₂ (λ x y. x ++ y) (filter-append test tops vs ∙ ap₂ (λ x y. x ++ y) (none d nd tops t) (filter_whole test vs (all_weaker (λ (s : Sight). dim_of s.poly ≡ 0) (λ s. test s ≡ true) (λ s h. eq-eqb (dim_of s.poly) 0 h) vs v))) (none 2 (λ h. absurd (omega arith)) faces f)) (none e ne edges g)
    ∙ append-nil (vs ++ []) ∙ append-nil vs
  where
    test : Sight → Bool
    test s = dim_of s.poly == 0

    none : (k : ℕ) → k ≢ 0 → (ss : List Sight) → AllByRecursion (λ (s : Sight). dim_of s.poly ≡ k) ss → filter test ss ≡ []
    none k nk ss h = filter_none test ss (all_weaker (λ (s : Sight). dim_of s.poly ≡ k) (λ s. test s ≡ false) (λ s i. ne_eqb (dim_of s.poly) 0 (λ j. nk (sym i ∙ j))) ss h)

module _ (m : Mesh) (dims : IsFlatOrSolid m) (cells : List (ℕ × Cell)) where
  dim-not_zero : m.dim ≢ 0
  dim-not_zero e = ⊎_elim (λ (f : m.dim ≡ 2). omega arith) (λ (f : m.dim ≡ 3). omega arith) dims

  abbrev here : Sight → Bool
  here s = in_some (point_of s) cells

  seen-vertices : List Sight
  seen-vertices = filter here (vertex_sights m)

  vertices-zero : AllByRecursion (λ (s : Sight). dim_of s.poly ≡ 0) (filter here (vertex_sights m))
  vertices-zero = all_filter (λ (s : Sight). dim_of s.poly ≡ 0) here (vertex_sights m) (all_map (λ (s : Sight). dim_of s.poly ≡ 0) vertex_sight (below (length m.at)) (all_from (λ v. 0 ≡ 0) (λ v. refl) (below (length m.at))))

  -- the vertices of the own chart
  pub own-chart_vertices : filter (λ s. dim_of s.poly == 0) (own_chart m cells) ≡ filter here (vertex_sights m)
  unfolding own_chart
  own-chart_vertices = vertices-of m.dim dim-not_zero 1 (λ e. absurd (omega arith)) (own_stratum cells m.dim) (filter here (vertex_sights m)) (cond (m.dim == 3) (own_stratum cells 2) []) (own_stratum cells 1)
      (own-of_dim m cells m.dim) vertices-zero (faces (m.dim == 3)) (own-of_dim m cells 1)
    where
      faces : (b : Bool) → AllByRecursion (λ (s : Sight). dim_of s.poly ≡ 2) (cond b (own_stratum cells 2) [])
      faces true = own-of_dim m cells 2
      faces false = tt

  -- of the chart by keys
  of_dim : (d : ℕ) → d ≢ 0 → AllByRecursion (λ (s : Sight). dim_of s.poly ≡ d) (chart_stratum m cells d)
  unfolding chart_stratum
  of_dim d ne = all_filter (λ (s : Sight). dim_of s.poly ≡ d) here (stratum m d) (subst (AllByRecursion (λ (s : Sight). dim_of s.poly ≡ d)) (sym (stratum-own m d ne)) (own-of_dim m (placed_cells m) d))

  vertices-by_key : chart_stratum m cells 0 ≡ filter here (vertex_sights m)
  unfolding chart_stratum stratum
  vertices-by_key = refl

  pub chart_vertices : filter (λ s. dim_of s.poly == 0) (chart m cells) ≡ filter here (vertex_sights m)
  chart_vertices = ap (filter (λ s. dim_of s.poly == 0)) (chart-strata m cells)
      ∙ vertices-of m.dim dim-not_zero 1 (λ e. absurd (omega arith)) (chart_stratum m cells m.dim) (chart_stratum m cells 0) (cond (m.dim == 3) (chart_stratum m cells 2) []) (chart_stratum m cells 1)
      (of_dim m.dim dim-not_zero) (subst (AllByRecursion (λ (s : Sight). dim_of s.poly ≡ 0)) (sym vertices-by_key) vertices-zero) (faces (m.dim == 3)) (of_dim 1 (λ e. absurd (omega arith)))
      ∙ vertices-by_key
    where
      faces : (b : Bool) → AllByRecursion (λ (s : Sight). dim_of s.poly ≡ 2) (cond b (chart_stratum m cells 2) [])
      faces true = of_dim 2 (λ e. absurd (omega arith))
      faces false = tt

  -- by position
  listed : filter here (vertex_sights m) ≡ map vertex_sight (own_vertices m cells)
  listed = sym (filter-mapped vertex_sight here (below (length m.at)))

  keys-of : (vs : List ℕ) → map (λ (s : Sight). s.key) (map vertex_sight vs) ≡ vs
  keys-of [] = refl
  keys-of (v ∷ vs) = ap (λ l. v ∷ l) (keys-of vs)

  -- the vertices that a rank is given, and those among its points, are those of its chart
  pub given-vertices : vertices_among (chart m cells) ≡ own_vertices m cells
  given-vertices = ap (map (λ (s : Sight). s.key)) (chart_vertices ∙ listed) ∙ keys-of (own_vertices m cells)

  pub shared-vertices : vertices_among (own_chart m cells) ≡ own_vertices m cells
  shared-vertices = ap (map (λ (s : Sight). s.key)) (own-chart_vertices ∙ listed) ∙ keys-of (own_vertices m cells)

  -- so are their owners
  pub given-owners : (a : List ℕ) → map (λ s. owner m a (point_of s)) (filter (λ s. dim_of s.poly == 0) (chart m cells)) ≡ map (λ v. owner m a (vertex_point v)) (own_vertices m cells)
  given-owners a = ap (map (λ s. owner m a (point_of s))) (chart_vertices ∙ listed)
      ∙ map_map_same (λ s. owner m a (point_of s)) vertex_sight (λ v. owner m a (vertex_point v)) (own_vertices m cells) (all_from (λ v. owner m a (point_of (vertex_sight v)) ≡ owner m a (vertex_point v)) (λ v. refl) (own_vertices m cells))

-- ---- the charts of ranks

pub rank-cells : (m : Mesh) (a : List ℕ) (r : ℕ) → (own_rank_chart m a r).cells ≡ length (scatter_part m a (assigned m a r)).cells
unfolding own_rank_chart scatter_part
rank-cells m a r = refl

pub rank-vertices : (m : Mesh) (a : List ℕ) (r : ℕ) → IsSoundMesh m → (own_rank_chart m a r).vertices ≡ (scatter_part m a (assigned m a r)).vertices
unfolding own_rank_chart scatter_part
rank-vertices m a r sound = sym (given-vertices m sound.dim (assigned m a r))

pub rank-owners : (m : Mesh) (a : List ℕ) (r : ℕ) → IsSoundMesh m → (own_rank_chart m a r).owners ≡ (scatter_part m a (assigned m a r)).owners
unfolding own_rank_chart scatter_part
rank-owners m a r sound = sym (given-owners m sound.dim (assigned m a r) a)

pub rank-own_vertices : (m : Mesh) (a : List ℕ) (r : ℕ) → IsSoundMesh m → (own_rank_chart m a r).vertices ≡ vertices_among (own_chart m (assigned m a r))
unfolding own_rank_chart
rank-own_vertices m a r sound = sym (shared-vertices m sound.dim (assigned m a r))
