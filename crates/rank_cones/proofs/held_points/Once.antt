-- What cells see of a dimension, each point once and as the whole mesh sees it first: by key it is the stratum of the cells' chart.
use Rattle.std.proofs.Common.{◌≡◌, ◌≢◌, ℕ, suc, ◌<◌, Bool, true, false, cond, not, ◌==◌, List, [], ◌∷◌, map, length, get_or, slice_index, refl, sym, ap, ◌∙◌, subst, arith}
use Rattle.std.specs.Prelude.{unwrap_or}
use Rattle.std.specs.List.{list_any, AllByRecursion, filter}
use Rattle.std.proofs.lemmas.Bool.{and_from, or_parts}
use Rattle.std.proofs.lemmas.List.{length-map, get_or-map, ext_get_or}
use Rattle.plain_lists.proofs.Each.{all_at, all_weaker, all_both, all_map, all_mapped, all_filter}
use Rattle.plain_lists.proofs.Finding.{none_passes, among}
use Rattle.mesh_defs.specs.Tables.{dim_of}
use Rattle.mesh_defs.specs.Mesh.{Mesh, Cell}
use Rattle.mesh_defs.specs.Points.{Sight, point_of, shows, sights, first_sight}
use Rattle.mesh_defs.specs.Diagram.{firsts_after, stratum, place_in}
use Rattle.mesh_defs.specs.Sights.{points_differ}
use Rattle.mesh_defs.specs.RightMesh.{AreCells, in_some}
use Rattle.mesh_laws.proofs.Firsts.{shows-true, same_point-sym, shown_itself}
use Rattle.sf_defs.specs.Asks.{IsRising}
use Rattle.rank_defs.specs.Spread.{own_stratum}
use Rattle.rank_laws.proofs.reach_laws.Charts.{own-place}
use Rattle.rank_laws.specs.orient_laws.Named.{keys_of, chart_stratum, seen_first}
use Rattle.rank_laws.proofs.orient_laws.Seen.{IsFirst, first-one, same_points, stratum-first, seen_first-point}
use Rattle.rank_laws.proofs.orient_laws.ByKey.{chart-rising, by-key}
use Rattle.rank_laws.proofs.orient_laws.OwnSights.{key-once}
use Rattle.local_points.specs.Points.{places_in}
use Rattle.rank_cones.specs.held_points.Held.{AreByKey, sight_at}
use Rattle.rank_cones.proofs.held_points.Orders.{AreApart, apart-permutation}

-- what holds at each place holds of all
all-by_place : {X : Type 0} (P : X → Type 0) (xs : List X) (d : X) → ((k : ℕ) → k < length xs → P (get_or xs k d)) → AllByRecursion P xs
all-by_place P [] d h = tt
all-by_place P (x ∷ xs) d h = (h 0 (omega arith), all-by_place P xs d (λ k low. h (suc k) (omega arith)))

-- first sights differ, and show no earlier point
firsts-after_differ : (earlier ss : List Sight) → (points_differ (firsts_after earlier ss) ≡ true) × AllByRecursion (λ s. list_any (shows (point_of s)) earlier ≡ false) (firsts_after earlier ss)
firsts-after_differ earlier [] = (refl, tt)
firsts-after_differ earlier (x ∷ xs) = go (list_any (shows (point_of x)) earlier) refl (firsts-after_differ earlier xs) (firsts-after_differ (x ∷ earlier) xs)
  where
    Differ : List Sight → List Sight → Type 0
    Differ before ss = (points_differ ss ≡ true) × AllByRecursion (λ s. list_any (shows (point_of s)) before ≡ false) ss

    go : (b : Bool) → list_any (shows (point_of x)) earlier ≡ b → Differ earlier (firsts_after earlier xs) → Differ (x ∷ earlier) (firsts_after (x ∷ earlier) xs) → Differ earlier (cond b (firsts_after earlier xs) (x ∷ firsts_after (x ∷ earlier) xs))
    go true e r s = r
    go false e r s = (
      and_from (not (list_any (shows (point_of x)) rest)) (points_differ rest)
          (ap not (none_passes (shows (point_of x)) rest (all_weaker (λ t. list_any (shows (point_of t)) (x ∷ earlier) ≡ false) (λ t. shows (point_of x) t ≡ false) (λ t f. same_point-sym (point_of x) (point_of t) ∙ (or_parts (shows (point_of t) x) (list_any (shows (point_of t)) earlier) f).0) rest s.1))) s.0,
      (e, all_weaker (λ t. list_any (shows (point_of t)) (x ∷ earlier) ≡ false) (λ t. list_any (shows (point_of t)) earlier ≡ false) (λ t f. (or_parts (shows (point_of t) x) (list_any (shows (point_of t)) earlier) f).1) rest s.1),
    )
      where
        rest : List Sight
        rest = firsts_after (x ∷ earlier) xs

-- keys that rise from place to place
rising-from : (d : Sight) (ps : List Sight) → ((i j : ℕ) → i < j → j < length ps → (get_or ps i d).key < (get_or ps j d).key) → IsRising (keys_of ps)
rising-from d [] h = tt
rising-from d (p ∷ ps) h = (
  all_map (λ k. p.key < k) (λ (s : Sight). s.key) ps (all-by_place (λ (s : Sight). p.key < s.key) ps d (λ k low. h 0 (suc k) (omega arith) (omega arith))),
  rising-from d ps (λ i j lt low. h (suc i) (suc j) (omega arith) (omega arith)),
)

module _ (m : Mesh) (cells : List (ℕ × Cell)) (d : ℕ) (ne : d ≢ 0) (are : AreCells m cells) where
  abbrev own : List Sight
  own = own_stratum cells d

  abbrev chart : List Sight
  chart = chart_stratum m cells d

  -- the points of the stratum are first sights
  chart-first : AllByRecursion (IsFirst m) (chart_stratum m cells d)
  unfolding chart_stratum
  chart-first = all_filter (IsFirst m) (λ s. in_some (point_of s) cells) (stratum m d) (stratum-first m d ne)

  -- and differ
  pub chart-differs : points_differ (chart_stratum m cells d) ≡ true
  chart-differs = go (chart_stratum m cells d) chart-first (chart-rising m cells d ne)
    where
      go : (ss : List Sight) → AllByRecursion (IsFirst m) ss → IsRising (keys_of ss) → points_differ ss ≡ true
      go [] f r = refl
      go (s ∷ ss) f r = and_from (not (list_any (shows (point_of s)) ss)) (points_differ ss)
          (ap not (none_passes (shows (point_of s)) ss (all_both (IsFirst m) (λ (t : Sight). s.key < t.key) (λ t. shows (point_of s) t ≡ false) other ss f.1 (all_mapped (λ k. s.key < k) (λ (t : Sight). t.key) ss r.0)))) (go ss f.1 r.1)
        where
          other : (t : Sight) → IsFirst m t → s.key < t.key → shows (point_of s) t ≡ false
          other t ft lt = told (shows (point_of s) t) refl
            where
              told : (b : Bool) → shows (point_of s) t ≡ b → b ≡ false
              told false e = refl
              told true e = let same = first-one m s t f.0 ft (shows-true (point_of s) t e) in absurd (omega (arith, lt, ap (λ (u : Sight). u.key) same))

  -- what the stratum has, what the cells see has as it is first seen
  all_seen : (P : Sight → Type 0) → AllByRecursion P (chart_stratum m cells d) → AllByRecursion (λ s. P (seen_first m s)) (own_stratum cells d)
  unfolding seen_first
  all_seen P all = all_weaker (λ s. list_any (shows (point_of s)) (own_stratum cells d) ≡ true) (λ s. P (seen_first m s)) one (own_stratum cells d) (shown_itself (own_stratum cells d))
    where
      one : (s : Sight) → list_any (shows (point_of s)) (own_stratum cells d) ≡ true → P (unwrap_or (first_sight m (point_of s)) s)
      one s h =
          let (t, both, shown) = among (λ t. P t × IsFirst m t) (shows (point_of s)) (chart_stratum m cells d) (all_both P (IsFirst m) _ (λ t a b. (a, b)) (chart_stratum m cells d) all chart-first) (sym (same_points m cells d ne are (point_of s)) ∙ h) in
          subst P (sym (ap (λ o. unwrap_or o s) (ap (first_sight m) (shows-true (point_of s) t shown) ∙ both.1))) both.0

  -- one key is of one point
  keys-once : AllByRecursion (λ s. AllByRecursion (λ t. (seen_first m s).key ≡ (seen_first m t).key → seen_first m s ≡ seen_first m t) (own_stratum cells d)) (own_stratum cells d)
  keys-once = all_weaker (λ s. AllByRecursion (λ (u : Sight). (seen_first m s).key ≡ u.key → seen_first m s ≡ u) (chart_stratum m cells d)) (λ s. AllByRecursion (λ t. (seen_first m s).key ≡ (seen_first m t).key → seen_first m s ≡ seen_first m t) (own_stratum cells d))
      (λ s h. all_seen (λ (u : Sight). (seen_first m s).key ≡ u.key → seen_first m s ≡ u) h) (own_stratum cells d)
      (all_seen (λ (v : Sight). AllByRecursion (λ (u : Sight). v.key ≡ u.key → v ≡ u) (chart_stratum m cells d)) (key-once (chart_stratum m cells d) (chart-rising m cells d ne)))

  own-differs : points_differ (own_stratum cells d) ≡ true
  own-differs = (firsts-after_differ [] (filter (λ s. dim_of s.poly == d) (sights cells))).0

  -- different points that the cells see have different keys
  own-apart : (e : Sight) → AreApart (λ (s : Sight). s.key) e (map (seen_first m) (own_stratum cells d))
  own-apart e i j low high differ same =
      let long = length-map (own_stratum cells d) (seen_first m) in
      let li : i < length (own_stratum cells d) = omega arith in
      let lj : j < length (own_stratum cells d) = omega arith in
      let s = get_or (own_stratum cells d) i e in
      let t = get_or (own_stratum cells d) j e in
      let keys : (seen_first m s).key ≡ (seen_first m t).key = ap (λ (u : Sight). u.key) (sym (get_or-map (seen_first m) (own_stratum cells d) i e e li)) ∙ same ∙ ap (λ (u : Sight). u.key) (get_or-map (seen_first m) (own_stratum cells d) j e e lj) in
      let one : seen_first m s ≡ seen_first m t = all_at (λ t. (seen_first m s).key ≡ (seen_first m t).key → seen_first m s ≡ seen_first m t) (own_stratum cells d) j e
      (all_at (λ s. AllByRecursion (λ t. (seen_first m s).key ≡ (seen_first m t).key → seen_first m s ≡ seen_first m t) (own_stratum cells d)) (own_stratum cells d) i e keys-once li) lj keys in
      let points : point_of s ≡ point_of t = sym (seen_first-point m s) ∙ ap point_of one ∙ seen_first-point m t in
      differ (sym (own-place (own_stratum cells d) own-differs i e li) ∙ ap (place_in (own_stratum cells d)) points ∙ own-place (own_stratum cells d) own-differs j e lj)

  module _ (points : List Sight) (moves : List ℕ) (by : AreByKey (map (seen_first m) (own_stratum cells d)) points moves) where
    -- by key they are the stratum
    pub points-are : points ≡ chart_stratum m cells d
    points-are = by-key m cells d ne are points by.same (rising-from (sight_at [] 0) points
        (λ i j lt low.
        let apart = apart-permutation (λ (s : Sight). s.key) (sight_at [] 0) (map (seen_first m) (own_stratum cells d)) points (own-apart (sight_at [] 0)) by.same i j (omega arith) low (λ e. absurd (omega arith)) in
        let least = by.rising i j (sight_at [] 0) (omega arith) low in
        omega arith))

    -- and each goes to its place there
    pub moves-are : moves ≡ places_in (chart_stratum m cells d) (own_stratum cells d)
    moves-are = ext_get_or 0 moves (places_in (chart_stratum m cells d) (own_stratum cells d)) long
        (λ k low.
        let seen : k < length (own_stratum cells d) = omega (arith, low, by.count, own-long) in
        let within : slice_index moves k < length (chart_stratum m cells d) = omega (arith, by.within k (omega (arith, seen, own-long)), ap length points-are) in
        let there : get_or (chart_stratum m cells d) (slice_index moves k) (sight_at [] 0) ≡ seen_first m (get_or (own_stratum cells d) k (sight_at [] 0)) =
        ap (λ ps. get_or ps (slice_index moves k) (sight_at [] 0)) (sym points-are) ∙ by.places k (omega (arith, seen, own-long)) ∙ get_or-map (seen_first m) (own_stratum cells d) k (sight_at [] 0) (sight_at [] 0) seen in
        sym (own-place (chart_stratum m cells d) chart-differs (slice_index moves k) (sight_at [] 0) within)
        ∙ ap (λ s. place_in (chart_stratum m cells d) (point_of s)) there
        ∙ ap (place_in (chart_stratum m cells d)) (seen_first-point m (get_or (own_stratum cells d) k (sight_at [] 0)))
        ∙ sym (get_or-map (λ s. place_in (chart_stratum m cells d) (point_of s)) (own_stratum cells d) k (sight_at [] 0) 0 seen))
      where
        own-long : length (map (seen_first m) (own_stratum cells d)) ≡ length (own_stratum cells d)
        own-long = length-map (own_stratum cells d) (seen_first m)

        long : length moves ≡ length (places_in (chart_stratum m cells d) (own_stratum cells d))
        long = by.count ∙ own-long ∙ sym (length-map (own_stratum cells d) (λ s. place_in (chart_stratum m cells d) (point_of s)))
