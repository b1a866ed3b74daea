-- The charts of a rank of a right mesh: its own points, and these in the order of keys.
use Rattle.std.proofs.Common.{◌≡◌, ◌≢◌, ◌⊎◌, ℕ, ◌<◌, Bool, true, false, cond, not, ◌&&◌, ◌==◌, List, [], ◌∷◌, ◌++◌, map, length, refl, sym, ap, ap₂, ◌∙◌, subst, ⊎_elim, inl, inr, arith}
use Rattle.std.specs.List.{list_any, AllByRecursion, filter}
use Rattle.std.proofs.lemmas.Bool.{and_parts, and_from, eqb-true, not-true, both_ways, cases_Bool}
use Rattle.plain_lists.specs.Lists.{below}
use Rattle.plain_lists.proofs.Each.{all_weaker, all_filter, all_append, all_append_first, all_append_second}
use Rattle.plain_lists.proofs.Filters.{filter_passing}
use Rattle.plain_lists.proofs.Finding.{any_filter, none_passes, each_fails}
use Rattle.mesh_defs.specs.Tables.{dim_of}
use Rattle.mesh_defs.specs.Mesh.{Mesh, Cell, placed_cells}
use Rattle.mesh_defs.specs.Points.{Point, Sight, point_of, shows, vertex_sights}
use Rattle.mesh_defs.specs.Diagram.{stratum, strata, chart}
use Rattle.mesh_defs.specs.Sights.{points_differ}
use Rattle.mesh_defs.specs.RightMesh.{IsFlatOrSolid, IsRightMesh, AreCells, in_some}
use Rattle.mesh_laws.proofs.Firsts.{shows-true}
use Rattle.rank_defs.specs.Ranks.{IsRightAssignment, assigned, held_cells, held, owner}
use Rattle.rank_defs.specs.Spread.{own_stratum, own_chart, charts, point_forest}
use Rattle.rank_laws.proofs.Owning.{owner-assigned, owner-below}
use Rattle.rank_laws.proofs.Strata.{strata-differ, strata-first}
use Rattle.rank_laws.specs.orient_laws.Named.{chart_stratum}
use Rattle.rank_laws.proofs.orient_laws.Seen.{IsFirst, placed-some, stratum-first, first-one}
use Rattle.rank_laws.proofs.orient_laws.Tops.{assigned-cells, top-stratum}
use Rattle.rank_laws.specs.share_laws.Charts.{own_charts}
use Rattle.rank_laws.proofs.share_laws.Own.{own-members, own-differ, own-of_dim}
use Rattle.headline_laws.proofs.seed_laws.Parts.{charted-is}
use Rattle.headline_laws.proofs.seed_laws.Vertices.{cells-high}
use Rattle.rank_chart_laws.specs.moved_laws.Moves.{moved_forest}
use Rattle.rank_chart_laws.specs.moved_laws.Sames.{AreSamePoints, HaveSameNumbers, moves_between, rank_moves, all_moves}
use Rattle.rank_chart_laws.proofs.moved_laws.Forests.{forest-moved}

-- a choice of points of which no two are one
differ-filter : (test : Sight → Bool) (ss : List Sight) → points_differ ss ≡ true → points_differ (filter test ss) ≡ true
differ-filter test [] d = refl
differ-filter test (s ∷ ss) d = let both = and_parts (not (list_any (shows (point_of s)) ss)) (points_differ ss) d in go both (test s) (differ-filter test ss both.1)
  where
    none : (b : Bool) → (b && false) ≡ false
    none true = refl
    none false = refl

    fewer : list_any (shows (point_of s)) ss ≡ false → list_any (shows (point_of s)) (filter test ss) ≡ false
    fewer h = any_filter (shows (point_of s)) test ss ∙ none_passes (λ t. test t && shows (point_of s) t) ss (all_weaker (λ t. shows (point_of s) t ≡ false) (λ t. (test t && shows (point_of s) t) ≡ false) (λ t e. ap (λ b. test t && b) e ∙ none (test t)) ss (each_fails (shows (point_of s)) ss h))

    go : (not (list_any (shows (point_of s)) ss) ≡ true) × (points_differ ss ≡ true) → (b : Bool) → points_differ (filter test ss) ≡ true → points_differ (cond b (s ∷ filter test ss) (filter test ss)) ≡ true
    go both false r = r
    go both true r = and_from (not (list_any (shows (point_of s)) (filter test ss))) (points_differ (filter test ss)) (ap not (fewer (not-true _ both.0))) r

module _ (m : Mesh) (right : IsRightMesh m) (a : List ℕ) (r : ℕ) where
  -- the chart in the order of keys
  held-is : held m a r 0 ≡ chart m (assigned m a r)
  unfolding held held_cells
  held-is = refl

  chart-inside : AllByRecursion (λ s. in_some (point_of s) (assigned m a r) ≡ true) (chart m (assigned m a r))
  unfolding chart
  chart-inside = filter_passing (λ s. in_some (point_of s) (assigned m a r)) (strata m)

  chart-differs : points_differ (chart m (assigned m a r)) ≡ true
  unfolding chart
  chart-differs = differ-filter (λ s. in_some (point_of s) (assigned m a r)) (strata m) (strata-differ m right.sound.dim)

  chart-first : AllByRecursion (IsFirst m) (chart m (assigned m a r))
  unfolding chart
  chart-first = all_filter (IsFirst m) (λ s. in_some (point_of s) (assigned m a r)) (strata m) (strata-first m)

  -- it shows what the cells contain
  chart-members : (p : Point) → list_any (shows p) (chart m (assigned m a r)) ≡ in_some p (assigned m a r)
  chart-members p = ⊎_elim
      (λ has. charted-is m right (assigned m a r) (cells-high m right (assigned m a r) (assigned-cells m a r)) p (placed-some m (assigned m a r) p (assigned-cells m a r) has))
      (λ lacks. none_passes (shows p) (chart m (assigned m a r)) (all_weaker (λ s. in_some (point_of s) (assigned m a r) ≡ true) (λ s. shows p s ≡ false) (λ s inside. not-shown s inside lacks) (chart m (assigned m a r)) chart-inside) ∙ sym lacks)
      (cases_Bool (in_some p (assigned m a r)))
    where
      not-shown : (s : Sight) → in_some (point_of s) (assigned m a r) ≡ true → in_some p (assigned m a r) ≡ false → shows p s ≡ false
      not-shown s inside lacks = go (shows p s) refl
        where
          go : (b : Bool) → shows p s ≡ b → b ≡ false
          go true e = absurd (both_ways (in_some p (assigned m a r)) lacks (ap (λ q. in_some q (assigned m a r)) (shows-true p s e) ∙ inside))
          go false e = refl

  -- a rank's own chart and its chart by keys have the same points
  pub same-points : AreSamePoints (own_chart m (assigned m a r)) (held m a r 0)
  same-points = record {
    old_once = own-differ m (assigned m a r) right.sound.dim;
    new_once = ap points_differ held-is ∙ chart-differs;
    same = λ p. own-members m (assigned m a r) right.sound (assigned-cells m a r) p ∙ sym (chart-members p) ∙ ap (list_any (shows p)) (sym held-is);
  }

  -- the points of the one by keys stand as they are first seen
  pub held-first : AllByRecursion (IsFirst m) (held m a r 0)
  held-first = subst (AllByRecursion (IsFirst m)) (sym held-is) chart-first

  -- ---- keys of cells and vertices

  vertices-first : AllByRecursion (IsFirst m) (vertex_sights m)
  unfolding strata stratum
  vertices-first = all_append_second (IsFirst m) (stratum m m.dim) (stratum m 0) (all_append_first (IsFirst m) (stratum m m.dim ++ stratum m 0) (cond (m.dim == 3) (stratum m 2) []) (all_append_first (IsFirst m) (stratum m m.dim ++ stratum m 0 ++ cond (m.dim == 3) (stratum m 2) []) (stratum m 1) (strata-first m)))

  tops-first : AllByRecursion (IsFirst m) (own_stratum (assigned m a r) m.dim)
  unfolding chart_stratum
  tops-first = subst (AllByRecursion (IsFirst m)) (sym (top-stratum m right.sound right.differ a r)) (all_filter (IsFirst m) (λ s. in_some (point_of s) (assigned m a r)) (stratum m m.dim) (stratum-first m m.dim high))
    where
      high : m.dim ≢ 0
      high e = ⊎_elim (λ (flat : m.dim ≡ 2). absurd (omega (arith, flat, e))) (λ (solid : m.dim ≡ 3). absurd (omega (arith, solid, e))) right.sound.dim

  own-told : AllByRecursion (λ s. (dim_of s.poly ≡ 0) ⊎ (dim_of s.poly ≡ m.dim) → IsFirst m s) (own_chart m (assigned m a r))
  unfolding own_chart
  own-told =
      let cells = assigned m a r in
      let Good : Sight → Type 0 = λ s. (dim_of s.poly ≡ 0) ⊎ (dim_of s.poly ≡ m.dim) → IsFirst m s in
      let here : Sight → Bool = λ s. in_some (point_of s) cells in
      let faces : List Sight = cond (m.dim == 3) (own_stratum cells 2) [] in
      all_append Good (own_stratum cells m.dim ++ filter here (vertex_sights m) ++ faces) (own_stratum cells 1)
      (all_append Good (own_stratum cells m.dim ++ filter here (vertex_sights m)) faces
      (all_append Good (own_stratum cells m.dim) (filter here (vertex_sights m))
      (all_weaker (IsFirst m) Good (λ s f k. f) (own_stratum cells m.dim) tops-first)
      (all_weaker (IsFirst m) Good (λ s f k. f) (filter here (vertex_sights m)) (all_filter (IsFirst m) here (vertex_sights m) vertices-first)))
      (of-faces (m.dim == 3) refl))
      (all_weaker (λ (s : Sight). dim_of s.poly ≡ 1) Good (λ s d k. absurd (⊎_elim (λ zero. omega (arith, d, zero)) (λ top. low d top) k)) (own_stratum cells 1) (own-of_dim m cells 1))
    where
      low : {d : ℕ} → d ≡ 1 → d ≡ m.dim → ⊥
      low is top = ⊎_elim (λ (flat : m.dim ≡ 2). omega (arith, is, top, flat)) (λ (solid : m.dim ≡ 3). omega (arith, is, top, solid)) right.sound.dim

      of-faces : (b : Bool) → (m.dim == 3) ≡ b → AllByRecursion (λ s. (dim_of s.poly ≡ 0) ⊎ (dim_of s.poly ≡ m.dim) → IsFirst m s) (cond b (own_stratum (assigned m a r) 2) [])
      of-faces true solid = all_weaker (λ (s : Sight). dim_of s.poly ≡ 2) (λ s. (dim_of s.poly ≡ 0) ⊎ (dim_of s.poly ≡ m.dim) → IsFirst m s) (λ s d k. absurd (⊎_elim (λ zero. omega (arith, d, zero)) (λ top. omega (arith, d, top, eqb-true m.dim 3 solid)) k)) (own_stratum (assigned m a r) 2) (own-of_dim m (assigned m a r) 2)
      of-faces false flat = tt

  -- cells and vertices have the same keys in both
  pub same-numbers : HaveSameNumbers m (own_chart m (assigned m a r)) (held m a r 0)
  same-numbers = all_weaker (λ s. (dim_of s.poly ≡ 0) ⊎ (dim_of s.poly ≡ m.dim) → IsFirst m s)
      (λ (s : Sight). AllByRecursion (λ (t : Sight). shows (point_of s) t ≡ true → (dim_of s.poly ≡ 0) ⊎ (dim_of s.poly ≡ m.dim) → s.key ≡ t.key) (held m a r 0))
      (λ s told. all_weaker (IsFirst m) (λ t. shows (point_of s) t ≡ true → (dim_of s.poly ≡ 0) ⊎ (dim_of s.poly ≡ m.dim) → s.key ≡ t.key) (λ t first e k. ap (λ (u : Sight). u.key) (first-one m s t (told k) first (shows-true (point_of s) t e))) (held m a r 0) held-first)
      (own_chart m (assigned m a r)) own-told

-- ---- all ranks

module _ (m : Mesh) (right : IsRightMesh m) (n : ℕ) (a : List ℕ) (parts : IsRightAssignment m n a) where
  owners-have : (r : ℕ) → r < n → AllByRecursion (λ s. (owner m a (point_of s) < n) × (list_any (shows (point_of s)) (own_chart m (assigned m a (owner m a (point_of s)))) ≡ true)) (held m a r 0)
  owners-have r low = subst (AllByRecursion (λ s. (owner m a (point_of s) < n) × (list_any (shows (point_of s)) (own_chart m (assigned m a (owner m a (point_of s)))) ≡ true))) (sym (held-is m right a r))
      (all_weaker (λ s. in_some (point_of s) (assigned m a r) ≡ true) (λ s. (owner m a (point_of s) < n) × (list_any (shows (point_of s)) (own_chart m (assigned m a (owner m a (point_of s)))) ≡ true))
      (λ s inside. let p = point_of s in let placed = placed-some m (assigned m a r) p (assigned-cells m a r) inside in
      (owner-below m n a parts.each p placed, own-members m (assigned m a (owner m a p)) right.sound (assigned-cells m a (owner m a p)) p ∙ owner-assigned m a p placed))
      (chart m (assigned m a r)) (chart-inside m right a r))

  -- the forest of shared points over the charts by keys
  pub forest-by_keys : point_forest m a (charts m a n 0) ≡ moved_forest (all_moves m a n) (point_forest m a (own_charts m a n))
  unfolding charts own_charts all_moves rank_moves
  forest-by_keys = forest-moved m a n (λ r. own_chart m (assigned m a r)) (λ r. held m a r 0) (λ r low. same-points m right a r) owners-have
