-- The points of the chart of some cells are those that the cells see, sorted by key.
use Rattle.std.proofs.Common.{◌≡◌, ◌≢◌, ℕ, ◌+◌, ◌*◌, ◌<◌, ◌≤◌, Bool, true, false, cond, ◌==◌, List, [], ◌∷◌, ◌++◌, map, refl, sym, ap, ap₂, ◌∙◌, subst, arith}
use Rattle.std.specs.Prelude.{IsPermutation, unwrap_or}
use Rattle.std.specs.List.{list_any, AllByRecursion, filter, enumerate_from}
use Rattle.std.proofs.lemmas.Bool.{both_ways}
use Rattle.std.proofs.lemmas.List.Elements.{All-from_recursion, recursion_from_All, filter-append}
use Rattle.std.proofs.lemmas.List.Sorted.{All-permutation, IsPermutation-sym}
use Rattle.plain_lists.proofs.Each.{all_weaker, all_map, all_mapped, all_flat_map, all_filter}
use Rattle.plain_lists.proofs.Finding.{any_same, any_map, each_fails, none_passes, among}
use Rattle.mesh_defs.specs.Tables.{dim_of}
use Rattle.mesh_defs.specs.Mesh.{Mesh, Cell, placed_cells}
use Rattle.mesh_defs.specs.Points.{Point, Sight, same_point, point_of, shows, sights_of, sights, first_sight}
use Rattle.mesh_defs.specs.Diagram.{firsts_after, stratum, strata, chart}
use Rattle.mesh_defs.specs.RightMesh.{AreCells, in_some}
use Rattle.mesh_laws.proofs.Firsts.{shows-own, shows-true, shown_itself}
use Rattle.mesh_laws.proofs.Keys.{KeysRise, sights_of-rise}
use Rattle.sf_defs.specs.Asks.{IsRising}
use Rattle.rank_defs.specs.Spread.{own_stratum}
use Rattle.rank_laws.specs.orient_laws.Named.{keys_of, chart_stratum, seen_first}
use Rattle.rank_laws.proofs.orient_laws.Rising.{rising-filter, rising-append, rising-one}
use Rattle.rank_laws.proofs.orient_laws.Seen.{same_points, stratum-own, stratum-first, seen_first-point, IsFirst, first-one}

-- ---- keys rise

-- keys that rise between bounds
from-bounds : (low high : ℕ) (ss : List Sight) → KeysRise low high ss → AllByRecursion (λ (s : Sight). low ≤ s.key) ss × AllByRecursion (λ (s : Sight). s.key < high) ss × IsRising (keys_of ss) × (low ≤ high)
from-bounds low high [] r = (tt, tt, tt, r)
from-bounds low high (s ∷ ss) r =
    let (above, below, rises, bound) = from-bounds (s.key + 1) high ss r.1 in (
      (r.0, all_weaker (λ (t : Sight). s.key + 1 ≤ t.key) (λ (t : Sight). low ≤ t.key) (λ t h. omega (arith, h, r.0)) ss above),
      (omega (arith, bound), below),
      (all_map (λ k. s.key < k) (λ (t : Sight). t.key) ss (all_weaker (λ (t : Sight). s.key + 1 ≤ t.key) (λ (t : Sight). s.key < t.key) (λ t h. omega (arith, h)) ss above), rises),
      omega (arith, bound, r.0),
    )

-- cells in the order of their places
abbrev pub AreInOrder : List (ℕ × Cell) → Type 0
AreInOrder cells = IsRising (map (λ (c : ℕ × Cell). c.0) cells)

-- what cells from place n on see has keys from 64n on
sights-above : (n : ℕ) (cells : List (ℕ × Cell)) → AllByRecursion (λ (c : ℕ × Cell). n ≤ c.0) cells → AllByRecursion (λ (s : Sight). 64 * n ≤ s.key) (sights cells)
sights-above n cells h = all_flat_map (λ (s : Sight). 64 * n ≤ s.key) sights_of cells
    (all_weaker (λ (c : ℕ × Cell). n ≤ c.0) (λ c. AllByRecursion (λ (s : Sight). 64 * n ≤ s.key) (sights_of c)) (λ c low. all_weaker (λ (s : Sight). 64 * c.0 ≤ s.key) (λ (s : Sight). 64 * n ≤ s.key) (λ s k. omega (arith, k, low)) (sights_of c) (from-bounds (64 * c.0) (64 * c.0 + 64) (sights_of c) (sights_of-rise c.0 c.1)).0) cells h)

-- the keys of cells in order rise
pub sights-rising : (cells : List (ℕ × Cell)) → AreInOrder cells → IsRising (keys_of (sights cells))
sights-rising [] h = tt
sights-rising (c ∷ cs) h =
    let own = from-bounds (64 * c.0) (64 * c.0 + 64) (sights_of c) (sights_of-rise c.0 c.1) in
    let later : AllByRecursion (λ (d : ℕ × Cell). c.0 + 1 ≤ d.0) cs = all_weaker (λ (d : ℕ × Cell). c.0 < d.0) (λ (d : ℕ × Cell). c.0 + 1 ≤ d.0) (λ d l. omega (arith, l)) cs (all_mapped (λ k. c.0 < k) (λ (d : ℕ × Cell). d.0) cs h.0) in
    rising-append (λ (s : Sight). s.key) (64 * c.0 + 64) (sights_of c) (sights cs) own.2 own.1 (sights-rising cs h.1)
    (all_weaker (λ (s : Sight). 64 * (c.0 + 1) ≤ s.key) (λ (s : Sight). 64 * c.0 + 64 ≤ s.key) (λ s l. omega (arith, l)) (sights cs) (sights-above (c.0 + 1) cs later))

-- the cells of a mesh stand in order
pub placed-order : (n : ℕ) (cells : List Cell) → AreInOrder (enumerate_from n cells)
placed-order n [] = tt
placed-order n (c ∷ cs) = (all_map (λ k. n < k) (λ (d : ℕ × Cell). d.0) (enumerate_from (n + 1) cs) (all_weaker (λ (d : ℕ × Cell). n + 1 ≤ d.0) (λ (d : ℕ × Cell). n < d.0) (λ d l. omega (arith, l)) (enumerate_from (n + 1) cs) (from_place (n + 1) cs)), placed-order (n + 1) cs)
  where
    from_place : (k : ℕ) (ds : List Cell) → AllByRecursion (λ (d : ℕ × Cell). k ≤ d.0) (enumerate_from k ds)
    from_place k [] = tt
    from_place k (d ∷ ds) = (omega arith, all_weaker (λ (e : ℕ × Cell). k + 1 ≤ e.0) (λ (e : ℕ × Cell). k ≤ e.0) (λ e l. omega (arith, l)) (enumerate_from (k + 1) ds) (from_place (k + 1) ds))

-- first sights keep the order
firsts-kept : (P : Sight → Type 0) (earlier ss : List Sight) → AllByRecursion P ss → AllByRecursion P (firsts_after earlier ss)
firsts-kept P earlier [] h = tt
firsts-kept P earlier (s ∷ ss) h = go (list_any (shows (point_of s)) earlier) (firsts-kept P earlier ss h.1) (firsts-kept P (s ∷ earlier) ss h.1)
  where
    go : (b : Bool) → AllByRecursion P (firsts_after earlier ss) → AllByRecursion P (firsts_after (s ∷ earlier) ss) → AllByRecursion P (cond b (firsts_after earlier ss) (s ∷ firsts_after (s ∷ earlier) ss))
    go true r q = r
    go false r q = (h.0, q)

firsts-rising : (earlier ss : List Sight) → IsRising (keys_of ss) → IsRising (keys_of (firsts_after earlier ss))
firsts-rising earlier [] h = tt
firsts-rising earlier (s ∷ ss) h = go (list_any (shows (point_of s)) earlier) (firsts-rising earlier ss h.1) (firsts-rising (s ∷ earlier) ss h.1)
  where
    go : (b : Bool) → IsRising (keys_of (firsts_after earlier ss)) → IsRising (keys_of (firsts_after (s ∷ earlier) ss)) → IsRising (keys_of (cond b (firsts_after earlier ss) (s ∷ firsts_after (s ∷ earlier) ss)))
    go true r q = r
    go false r q = (all_map (λ k. s.key < k) (λ (t : Sight). t.key) (firsts_after (s ∷ earlier) ss) (firsts-kept (λ (t : Sight). s.key < t.key) (s ∷ earlier) ss (all_mapped (λ k. s.key < k) (λ (t : Sight). t.key) ss h.0)), q)

-- the keys of what cells in order see of one dimension rise
pub own-rising : (d : ℕ) (cells : List (ℕ × Cell)) → AreInOrder cells → IsRising (keys_of (own_stratum cells d))
own-rising d cells h = firsts-rising [] (filter (λ s. dim_of s.poly == d) (sights cells)) (rising-filter (λ (s : Sight). s.key) (λ s. dim_of s.poly == d) (sights cells) (sights-rising cells h))

-- so do the keys of a stratum of a chart
pub chart-rising : (m : Mesh) (cells : List (ℕ × Cell)) (d : ℕ) → d ≢ 0 → IsRising (keys_of (chart_stratum m cells d))
unfolding chart_stratum
chart-rising m cells d ne = rising-filter (λ (s : Sight). s.key) (λ s. in_some (point_of s) cells) (stratum m d) (subst (λ ss. IsRising (keys_of ss)) (sym (stratum-own m d ne)) (own-rising d (placed_cells m) (placed-order 0 m.cells)))

-- ---- by key

-- what passes among some things passes among them in another order
any-permutation : {X : Type 0} (p : X → Bool) (xs ys : List X) → IsPermutation xs ys → list_any p xs ≡ list_any p ys
any-permutation {X} p xs ys h = go (list_any p xs) refl (list_any p ys) refl
  where
    fails : (us vs : List X) → IsPermutation us vs → list_any p us ≡ false → list_any p vs ≡ false
    fails us vs k e = none_passes p vs (recursion_from_All (λ x. p x ≡ false) vs (All-permutation (λ x. p x ≡ false) us vs k (All-from_recursion (λ x. p x ≡ false) us (each_fails p us e))))

    go : (b : Bool) → list_any p xs ≡ b → (c : Bool) → list_any p ys ≡ c → list_any p xs ≡ list_any p ys
    go true e true f = e ∙ sym f
    go false e c f = e ∙ sym (fails xs ys h e)
    go true e false f = absurd (both_ways (list_any p xs) (fails ys xs (IsPermutation-sym xs ys h) f) e)

module _ (m : Mesh) (cells : List (ℕ × Cell)) (d : ℕ) (ne : d ≢ 0) (are : AreCells m cells) where
  -- each point that the cells see has a first sight
  firsts-named : AllByRecursion (λ s. IsFirst m (seen_first m s)) (own_stratum cells d)
  unfolding seen_first chart_stratum
  firsts-named = all_weaker (λ s. list_any (shows (point_of s)) (own_stratum cells d) ≡ true) (λ s. IsFirst m (seen_first m s)) named (own_stratum cells d) (shown_itself (own_stratum cells d))
    where
      named : (s : Sight) → list_any (shows (point_of s)) (own_stratum cells d) ≡ true → IsFirst m (seen_first m s)
      named s h =
          let (t, first, e) = among (IsFirst m) (shows (point_of s)) (chart_stratum m cells d) (all_filter (IsFirst m) (λ u. in_some (point_of u) cells) (stratum m d) (stratum-first m d ne)) (sym (same_points m cells d ne are (point_of s)) ∙ h) in
          subst (λ o. IsFirst m (unwrap_or o s)) (sym (ap (first_sight m) (shows-true (point_of s) t e) ∙ first)) first

  -- what the cells see of a dimension, each point as it is first seen, and sorted by key in whatever way, is the chart's
  pub by-key : (ss : List Sight) → IsPermutation (map (seen_first m) (own_stratum cells d)) ss → IsRising (keys_of ss) → ss ≡ chart_stratum m cells d
  unfolding chart_stratum
  by-key ss shuffled rises =
      let own : List Sight = map (seen_first m) (own_stratum cells d) in
      let first : AllByRecursion (IsFirst m) ss = recursion_from_All (IsFirst m) ss (All-permutation (IsFirst m) own ss shuffled (All-from_recursion (IsFirst m) own (all_map (IsFirst m) (seen_first m) (own_stratum cells d) firsts-named))) in
      rising-one (λ (s : Sight). s.key) point_of shows shows-own shows-true (IsFirst m) (first-one m) ss (chart_stratum m cells d) first
      (all_filter (IsFirst m) (λ s. in_some (point_of s) cells) (stratum m d) (stratum-first m d ne)) rises (chart-rising m cells d ne)
      (λ p. sym (any-permutation (shows p) own ss shuffled)
      ∙ (any_map (shows p) (seen_first m) (own_stratum cells d)
      ∙ (any_same (λ s. shows p (seen_first m s)) (shows p) (λ s. same_seen p s) (own_stratum cells d) ∙ same_points m cells d ne are p)))
    where
      same_seen : (p : Point) (s : Sight) → shows p (seen_first m s) ≡ shows p s
      same_seen p s = ap (same_point p) (seen_first-point m s)

-- a chart is its strata
pub chart-strata : (m : Mesh) (cells : List (ℕ × Cell)) → chart m cells ≡ chart_stratum m cells m.dim ++ chart_stratum m cells 0 ++ cond (m.dim == 3) (chart_stratum m cells 2) [] ++ chart_stratum m cells 1
unfolding chart strata chart_stratum
chart-strata m cells =
    filter-append here (stratum m m.dim ++ stratum m 0 ++ faces (m.dim == 3)) (stratum m 1)
    ∙ ap (λ l. l ++ filter here (stratum m 1)) (filter-append here (stratum m m.dim ++ stratum m 0) (faces (m.dim == 3)) ∙ ap₂ (λ k l. k ++ l) (filter-append here (stratum m m.dim) (stratum m 0)) (chosen (m.dim == 3)))
  where
    here : Sight → Bool
    here s = in_some (point_of s) cells

    faces : Bool → List Sight
    faces b = cond b (stratum m 2) []

    chosen : (b : Bool) → filter here (faces b) ≡ cond b (filter here (stratum m 2)) []
    chosen true = refl
    chosen false = refl
