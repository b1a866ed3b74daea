-- What the chart of some cells shows, and where its points stand.
use Rattle.std.proofs.Common.{◌≡◌, ℕ, zero, suc, ◌+◌, ◌<◌, Bool, true, false, cond, not, ◌&&◌, ◌||◌, ◌==◌, List, [], ◌∷◌, ◌++◌, length, get_or, Contains, refl, sym, ap, ◌∙◌, subst, inl, inr, arith}
use Rattle.std.specs.Prelude.{find}
use Rattle.std.specs.List.{list_any, AllByRecursion, filter}
use Rattle.std.proofs.lemmas.Bool.{and_parts, and_from, ne_eqb, not-true}
use Rattle.std.proofs.lemmas.List.Folds.{list_any-append}
use Rattle.std.proofs.lemmas.List.Elements.{All-contains_itself, recursion_from_All}
use Rattle.plain_lists.proofs.Each.{all_weaker, all_at, all_contained}
use Rattle.plain_lists.proofs.Filters.{filter_passing}
use Rattle.plain_lists.proofs.Finding.{same_tests, any_filter, any_weaker, among, stands, none_passes, each_fails, find-filter}
use Rattle.mesh_defs.specs.Mesh.{Mesh, Cell, placed_cells}
use Rattle.mesh_defs.specs.Points.{Point, Sight, point_of, shows, vertex_sights, contains}
use Rattle.mesh_defs.specs.Diagram.{stratum, strata, chart, place_in}
use Rattle.mesh_defs.specs.Sights.{points_differ}
use Rattle.mesh_defs.specs.RightMesh.{IsFlatOrSolid, IsSoundMesh, AreCells, in_some}
use Rattle.mesh_laws.proofs.Firsts.{shows-own, shows-true, same_point-sym}
use Rattle.rank_laws.proofs.Strata.{strata-differ}
use Rattle.rank_defs.specs.Spread.{own_stratum, own_chart}
use Rattle.rank_laws.proofs.share_laws.Own.{own-members}

-- ---- what is shown

-- some cells contain what one of them does
pub some-contains : (cells : List (ℕ × Cell)) (c : ℕ × Cell) (p : Point) → Contains cells c → contains c.1 p ≡ true → in_some p cells ≡ true
some-contains cells c p inside h = all_contained (λ (d : ℕ × Cell). (q : ℕ × Cell → Bool) → q d ≡ true → list_any q cells ≡ true) cells c (stands cells) inside (λ (d : ℕ × Cell). contains d.1 p) h

-- what some of the cells contain, some cell of the mesh contains
pub placed-some : (m : Mesh) (cells : List (ℕ × Cell)) (p : Point) → AreCells m cells → in_some p cells ≡ true → in_some p (placed_cells m) ≡ true
placed-some m cells p are h =
    let (c, inside, e) = among (Contains (placed_cells m)) (λ (c : ℕ × Cell). contains c.1 p) cells are h in
    some-contains (placed_cells m) c p inside e

-- all points show what the cells of a sound mesh contain
strata-shown : (m : Mesh) (p : Point) → IsSoundMesh m → in_some p (placed_cells m) ≡ true → list_any (shows p) (strata m) ≡ true
unfolding own_chart strata stratum
strata-shown m p sound h =
    let all : AllByRecursion (Contains (placed_cells m)) (placed_cells m) = recursion_from_All (Contains (placed_cells m)) (placed_cells m) (All-contains_itself (placed_cells m)) in
    wider (own_stratum (placed_cells m) m.dim) (stratum m m.dim) (filter here (vertex_sights m)) (stratum m 0) (cond (m.dim == 3) (own_stratum (placed_cells m) 2) []) (cond (m.dim == 3) (stratum m 2) []) (own_stratum (placed_cells m) 1) (stratum m 1)
    (λ e. ap (list_any (shows p)) tops ∙ e)
    vertices (λ e. ap (λ l. list_any (shows p) (cond (m.dim == 3) l [])) faces ∙ e) (λ e. ap (list_any (shows p)) edges ∙ e)
    (own-members m (placed_cells m) sound all p ∙ h)
  where
    here : Sight → Bool
    here s = in_some (point_of s) (placed_cells m)

    tops : stratum m m.dim ≡ own_stratum (placed_cells m) m.dim
    tops = ap (λ b. cond b (vertex_sights m) (own_stratum (placed_cells m) m.dim)) (ne_eqb m.dim 0 (no_vertices sound.dim))
      where
        no_vertices : IsFlatOrSolid m → m.dim ≡ 0 → ⊥
        no_vertices (inl flat) e = absurd (omega (arith, flat, e))
        no_vertices (inr solid) e = absurd (omega (arith, solid, e))

    faces : stratum m 2 ≡ own_stratum (placed_cells m) 2
    faces = refl

    edges : stratum m 1 ≡ own_stratum (placed_cells m) 1
    edges = refl

    vertices : list_any (shows p) (filter here (vertex_sights m)) ≡ true → list_any (shows p) (stratum m 0) ≡ true
    vertices e = any_weaker (λ s. here s && shows p s) (shows p) (λ s k. (and_parts (here s) (shows p s) k).1) (vertex_sights m) (sym (any_filter (shows p) here (vertex_sights m)) ∙ e)

    wider : (a b c d e f g k : List Sight) → (list_any (shows p) a ≡ true → list_any (shows p) b ≡ true) → (list_any (shows p) c ≡ true → list_any (shows p) d ≡ true) → (list_any (shows p) e ≡ true → list_any (shows p) f ≡ true) → (list_any (shows p) g ≡ true → list_any (shows p) k ≡ true)
        → list_any (shows p) (a ++ c ++ e ++ g) ≡ true → list_any (shows p) (b ++ d ++ f ++ k) ≡ true
    wider a b c d e f g k i j l n h =
        list_any-append (shows p) (b ++ d ++ f) k ∙ (ap (λ t. t || list_any (shows p) k) (list_any-append (shows p) (b ++ d) f ∙ ap (λ t. t || list_any (shows p) f) (list_any-append (shows p) b d))
        ∙ pass (list_any (shows p) a) (list_any (shows p) b) (list_any (shows p) c) (list_any (shows p) d) (list_any (shows p) e) (list_any (shows p) f) (list_any (shows p) g) (list_any (shows p) k) i j l n
        (sym (list_any-append (shows p) (a ++ c ++ e) g ∙ ap (λ t. t || list_any (shows p) g) (list_any-append (shows p) (a ++ c) e ∙ ap (λ t. t || list_any (shows p) e) (list_any-append (shows p) a c))) ∙ h))
      where
        pass : (a b c d e f g k : Bool) → (a ≡ true → b ≡ true) → (c ≡ true → d ≡ true) → (e ≡ true → f ≡ true) → (g ≡ true → k ≡ true) → (((a || c) || e) || g) ≡ true → (((b || d) || f) || k) ≡ true
        pass true b c d e f g k i j l n h = ap (λ t. ((t || d) || f) || k) (i refl)
        pass false true c d e f g k i j l n h = refl
        pass false false true d e f g k i j l n h = ap (λ t. (t || f) || k) (j refl)
        pass false false false true e f g k i j l n h = refl
        pass false false false false true f g k i j l n h = ap (λ t. t || k) (l refl)
        pass false false false false false true g k i j l n h = refl
        pass false false false false false false g k i j l n h = n h

module _ (m : Mesh) (cells : List (ℕ × Cell)) where
  -- the chart shows what the cells contain
  pub chart-members : IsSoundMesh m → AreCells m cells → (p : Point) → list_any (shows p) (chart m cells) ≡ in_some p cells
  unfolding chart
  chart-members sound are p = same_tests (list_any (shows p) (filter here (strata m))) (in_some p cells)
      (λ h. let (s, inside, e) = among (λ s. here s ≡ true) (shows p) (filter here (strata m)) (filter_passing here (strata m)) h in subst (λ q. in_some q cells ≡ true) (sym (shows-true p s e)) inside)
      (λ h. any_filter (shows p) here (strata m) ∙ any_weaker (shows p) (λ s. here s && shows p s) (λ s e. and_from (here s) (shows p s) (subst (λ q. in_some q cells ≡ true) (shows-true p s e) h) e) (strata m) (strata-shown m p sound (placed-some m cells p are h)))
    where
      here : Sight → Bool
      here s = in_some (point_of s) cells

  -- what the cells contain, is found in the chart as it is among all points
  pub chart-found : (p : Point) → in_some p cells ≡ true → find (shows p) (chart m cells) ≡ find (shows p) (strata m)
  unfolding chart
  chart-found p h = find-filter (shows p) (λ s. in_some (point_of s) cells) (λ s e. ap (λ q. in_some q cells) (sym (shows-true p s e)) ∙ h) (strata m)

-- ---- places

-- a part of a list of different points has different points
differ-filter : (q : Sight → Bool) (ss : List Sight) → points_differ ss ≡ true → points_differ (filter q ss) ≡ true
differ-filter q [] h = refl
differ-filter q (s ∷ ss) h = go (q s) (differ-filter q ss both.1)
  where
    both : (not (list_any (shows (point_of s)) ss) ≡ true) × (points_differ ss ≡ true)
    both = and_parts (not (list_any (shows (point_of s)) ss)) (points_differ ss) h

    other : list_any (shows (point_of s)) (filter q ss) ≡ false
    other = any_filter (shows (point_of s)) q ss
        ∙ none_passes (λ t. q t && shows (point_of s) t) ss (all_weaker (λ t. shows (point_of s) t ≡ false) (λ t. (q t && shows (point_of s) t) ≡ false) (λ t e. ap (λ b. q t && b) e ∙ neither (q t)) ss (each_fails (shows (point_of s)) ss (not-true (list_any (shows (point_of s)) ss) both.0)))
      where
        neither : (b : Bool) → (b && false) ≡ false
        neither true = refl
        neither false = refl

    go : (b : Bool) → points_differ (filter q ss) ≡ true → points_differ (cond b (s ∷ filter q ss) (filter q ss)) ≡ true
    go true r = and_from (not (list_any (shows (point_of s)) (filter q ss))) (points_differ (filter q ss)) (ap not other) r
    go false r = r

-- the points of a chart differ
pub chart-differs : (m : Mesh) (cells : List (ℕ × Cell)) → IsFlatOrSolid m → points_differ (chart m cells) ≡ true
unfolding chart
chart-differs m cells dim = differ-filter (λ s. in_some (point_of s) cells) (strata m) (strata-differ m dim)

-- each of some different points stands at its own place
pub own-place : (ss : List Sight) → points_differ ss ≡ true → (p : ℕ) (d : Sight) → p < length ss → place_in ss (point_of (get_or ss p d)) ≡ p
own-place [] h p d lt = absurd (omega (arith, lt))
own-place (s ∷ ss) h zero d lt = ap (λ b. cond (not b) (1 + place_in ss (point_of s)) 0) (shows-own s)
own-place (s ∷ ss) h (suc p) d lt =
    let both = and_parts (not (list_any (shows (point_of s)) ss)) (points_differ ss) h in
    let other : shows (point_of s) (get_or ss p d) ≡ false = all_at (λ t. shows (point_of s) t ≡ false) ss p d (each_fails (shows (point_of s)) ss (not-true (list_any (shows (point_of s)) ss) both.0)) (omega (arith, lt)) in
    let rest = own-place ss both.1 p d (omega (arith, lt)) in
    ap (λ b. cond (not b) (1 + place_in ss (point_of (get_or ss p d))) 0) (same_point-sym (point_of (get_or ss p d)) (point_of s) ∙ other) ∙ omega (arith, rest)
