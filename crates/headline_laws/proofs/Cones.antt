-- The number by which a cone names a point is the number under which it is printed.
use Rattle.std.proofs.Common.{◌≡◌, ℕ, zero, suc, ◌+◌, ◌<◌, ◌≤◌, Contains, Bool, true, false, cond, not, ◌&&◌, ◌||◌, ◌==◌, List, [], ◌∷◌, map, get_or, refl, sym, ap, ◌∙◌, ⊎_elim, arith}
use Rattle.std.specs.List.{list_any, AllByRecursion, filter, enumerate_from}
use Rattle.std.proofs.lemmas.Bool.{eqb-true, eq-eqb, and_parts, and_from, or_left, or_right, cases_lt, not-true}
use Rattle.std.proofs.lemmas.List.Folds.{list_any-append}
use Rattle.plain_lists.specs.Lists.{below, picked}
use Rattle.plain_lists.proofs.Each.{all_from, all_weaker, all_both, all_map, all_flat_map, all_enumerated, all_contained}
use Rattle.plain_lists.proofs.Finding.{any_weaker, each_fails, none_passes, same_tests, any_filter, found-any}
use Rattle.plain_lists.proofs.Filters.{map_same, filter_passing}
use Rattle.mesh_defs.specs.Tables.{Facet, facets_of}
use Rattle.mesh_defs.specs.Mesh.{Mesh, Cell, placed_cells}
use Rattle.mesh_defs.specs.Points.{Point, Sight, point_on, point_of, shows, contains}
use Rattle.mesh_defs.specs.Diagram.{strata, chart, place_in, entry, cone, IsAccepted}
use Rattle.mesh_laws.proofs.Containing.{chart-all}
use Rattle.mesh_laws.proofs.Firsts.{shows-true, shows-own, same_point-sym}
use Rattle.mesh_defs.specs.Sights.{points_differ}
use Rattle.input_defs.specs.text_defs.Text.{Rank, number_of}
use Rattle.rank_defs.specs.Ranks.{IsAssignment, assigned, held_cells, held, owner, owned}
use Rattle.rank_defs.specs.Home.{point_number}
use Rattle.mesh_defs.specs.RightMesh.{in_some, IsFlatOrSolid, IsSoundMesh}
use Rattle.rank_laws.proofs.Strata.{strata-differ}
use Rattle.rank_laws.proofs.Found.{IsSeen}
use Rattle.rank_laws.proofs.Facets.{Covers, strata-cover}
use Rattle.rank_laws.proofs.Owning.{owner-assigned, owner-below}
use Rattle.headline_defs.specs.StepText.{ranks_with, numbered}
use Rattle.headline_laws.proofs.Charted.{each_tells}

-- ---- lists

-- k stands among the numbers below n
below-has : (k n : ℕ) → k < n → list_any (λ x. x == k) (below n) ≡ true
below-has k zero h = absurd (omega arith)
below-has k (suc n) h = list_any-append (λ x. x == k) (below n) (n ∷ []) ∙ ⊎_elim
    (λ (lt : k < n). or_left (list_any (λ x. x == k) (below n)) ((n == k) || false) (below-has k n lt))
    (λ (ge : n ≤ k). or_right (list_any (λ x. x == k) (below n)) ((n == k) || false) (or_left (n == k) false (eq-eqb n k (omega arith))))
    (cases_lt k n)

-- where of these ranks k alone shows a point, the point has k's number
number-among : (f : ℕ → Rank) (p : Point) (k : ℕ) (xs : List ℕ) → AllByRecursion (λ x. list_any (shows p) (f x).owned ≡ (x == k)) xs → list_any (λ x. x == k) xs ≡ true → number_of (map f xs) p ≡ (f k).base + place_in (f k).owned p
number-among f p k [] h e = absurd (cc e)
number-among f p k (x ∷ xs) h e = go (x == k) refl h.0 e (number-among f p k xs h.1)
  where
    go : (b : Bool) → (x == k) ≡ b → list_any (shows p) (f x).owned ≡ b → (b || list_any (λ y. y == k) xs) ≡ true → (list_any (λ y. y == k) xs ≡ true → number_of (map f xs) p ≡ (f k).base + place_in (f k).owned p)
        → cond (list_any (shows p) (f x).owned) ((f x).base + place_in (f x).owned p) (number_of (map f xs) p) ≡ (f k).base + place_in (f k).owned p
    go true same shown r rest = ap (λ b. cond b ((f x).base + place_in (f x).owned p) (number_of (map f xs) p)) shown ∙ ap (λ j. (f j).base + place_in (f j).owned p) (eqb-true x k same)
    go false same shown r rest = ap (λ b. cond b ((f x).base + place_in (f x).owned p) (number_of (map f xs) p)) shown ∙ rest r

-- ---- the ranks that show a point

module _ (m : Mesh) (a : List ℕ) (p : Point) (there : list_any (shows p) (strata m) ≡ true) (inside : in_some p (placed_cells m) ≡ true) where
  -- the owner shows it among its owned points
  owner-shows : list_any (shows p) (owned m a (owner m a p)) ≡ true
  unfolding owned held held_cells chart
  owner-shows =
      let mine = λ (s : Sight). owner m a (point_of s) == owner m a p in
      let has = λ (s : Sight). in_some (point_of s) (assigned m a (owner m a p)) in
      any_filter (shows p) mine (filter has (strata m)) ∙ any_filter (λ s. mine s && shows p s) has (strata m)
      ∙ any_weaker (shows p) (λ s. has s && (mine s && shows p s))
      (λ s h. let same : p ≡ point_of s = shows-true p s h in
      and_from (has s) (mine s && shows p s) (ap (λ q. in_some q (assigned m a (owner m a p))) (sym same) ∙ owner-assigned m a p inside)
      (and_from (mine s) (shows p s) (eq-eqb (owner m a (point_of s)) (owner m a p) (ap (owner m a) (sym same))) h))
      (strata m) there

  -- no other rank does
  shown-by : (r : ℕ) → list_any (shows p) (owned m a r) ≡ (r == owner m a p)
  unfolding owned
  shown-by r = same_tests (list_any (shows p) (owned m a r)) (r == owner m a p)
      (λ h. each_tells (λ s. (owner m a (point_of s) == r) && shows p s) (r == owner m a p) (held m a r 0)
      (all_from _ (λ s e. let both = and_parts (owner m a (point_of s) == r) (shows p s) e in
      let own = eqb-true (owner m a (point_of s)) r both.0 in
      eq-eqb r (owner m a p) (sym own ∙ ap (owner m a) (sym (shows-true p s both.1)))) (held m a r 0))
      (sym (any_filter (shows p) (λ s. owner m a (point_of s) == r) (held m a r 0)) ∙ h))
      (λ h. ap (λ k. list_any (shows p) (owned m a k)) (eqb-true r (owner m a p) h) ∙ owner-shows)

  -- the number by which ranks name it
  number-is : (n layers : ℕ) (bases : List ℕ) → IsAssignment m n a → number_of (ranks_with m n a layers bases) p ≡ point_number m a bases p
  unfolding ranks_with point_number
  number-is n layers bases parts =
      number-among (λ r. record { cells = assigned m a r; held = held m a r layers; owned = owned m a r; base = get_or bases r 0 }) p (owner m a p) (below n)
      (all_from (λ r. list_any (shows p) (owned m a r) ≡ (r == owner m a p)) shown-by (below n)) (below-has (owner m a p) n (owner-below m n a parts p inside))

-- ---- points of the chart

pub chart-number : (m : Mesh) (n : ℕ) (a : List ℕ) (layers : ℕ) (bases : List ℕ) (p : Point) → IsAssignment m n a → list_any (shows p) (chart m (placed_cells m)) ≡ true → number_of (ranks_with m n a layers bases) p ≡ point_number m a bases p
unfolding chart
chart-number m n a layers bases p parts h =
    let both : list_any (λ s. in_some (point_of s) (placed_cells m) && shows p s) (strata m) ≡ true = sym (any_filter (shows p) (λ s. in_some (point_of s) (placed_cells m)) (strata m)) ∙ h in
    number-is m a p
    (any_weaker (λ s. in_some (point_of s) (placed_cells m) && shows p s) (shows p) (λ s e. (and_parts (in_some (point_of s) (placed_cells m)) (shows p s) e).1) (strata m) both)
    (each_tells (λ s. in_some (point_of s) (placed_cells m) && shows p s) (in_some p (placed_cells m)) (strata m)
    (all_from _ (λ s e. let parted = and_parts (in_some (point_of s) (placed_cells m)) (shows p s) e in ap (λ q. in_some q (placed_cells m)) (shows-true p s parted.1) ∙ parted.0) (strata m))
    both)
    n layers bases parts

-- ---- cones

pub cone-numbers : (m : Mesh) (n : ℕ) (a : List ℕ) (layers : ℕ) (bases : List ℕ) (s : Sight) → IsSoundMesh m → IsAccepted m → IsAssignment m n a → Contains (strata m) s → cone m (number_of (ranks_with m n a layers bases)) s ≡ cone m (point_number m a bases) s
unfolding cone entry
cone-numbers m n a layers bases s sound accepted parts there =
    map_same (entry m (number_of (ranks_with m n a layers bases)) s.arrangement) (entry m (point_number m a bases) s.arrangement) (facets_of s.poly)
    (all_weaker (λ (f : Facet). IsSeen m f.poly (picked s.arrangement f.corners)) (λ (f : Facet). entry m (number_of (ranks_with m n a layers bases)) s.arrangement f ≡ entry m (point_number m a bases) s.arrangement f)
    (λ f seen.
    let q : Point = point_on f.poly (picked s.arrangement f.corners) in
    let shown = found-any (shows q) (strata m) seen.point seen.found in
    let same = chart-number m n a layers bases q parts (ap (list_any (shows q)) (chart-all m sound.used) ∙ shown) in
    (λ i. record { point = same i; o = (entry m (point_number m a bases) s.arrangement f).o }))
    (facets_of s.poly) (all_contained (Covers m sound accepted) (strata m) s (strata-cover m sound accepted) there))

-- ---- printed numbers

-- a part of a list of different points has different points
pub differ-filter : (q : Sight → Bool) (ss : List Sight) → points_differ ss ≡ true → points_differ (filter q ss) ≡ true
differ-filter q [] h = refl
differ-filter q (s ∷ ss) h = go (q s) (differ-filter q ss both.1)
  where
    both : (not (list_any (shows (point_of s)) ss) ≡ true) × (points_differ ss ≡ true)
    both = and_parts (not (list_any (shows (point_of s)) ss)) (points_differ ss) h

    other : list_any (shows (point_of s)) (filter q ss) ≡ false
    other = any_filter (shows (point_of s)) q ss
        ∙ none_passes (λ t. q t && shows (point_of s) t) ss (all_weaker (λ t. shows (point_of s) t ≡ false) (λ t. (q t && shows (point_of s) t) ≡ false) (λ t e. ap (λ b. q t && b) e ∙ neither (q t)) ss (each_fails (shows (point_of s)) ss (not-true (list_any (shows (point_of s)) ss) both.0)))
      where
        neither : (b : Bool) → (b && false) ≡ false
        neither true = refl
        neither false = refl

    go : (b : Bool) → points_differ (filter q ss) ≡ true → points_differ (cond b (s ∷ filter q ss) (filter q ss)) ≡ true
    go true r = and_from (not (list_any (shows (point_of s)) (filter q ss))) (points_differ (filter q ss)) (ap not other) r
    go false r = r

-- different points that are numbered have their places as numbers
numbered-places : (base : ℕ) (ss : List Sight) → points_differ ss ≡ true → AllByRecursion (λ (x : ℕ × Sight). x.0 ≡ base + place_in ss (point_of x.1)) (enumerate_from base ss)
numbered-places base [] h = tt
numbered-places base (s ∷ ss) h =
    let both = and_parts (not (list_any (shows (point_of s)) ss)) (points_differ ss) h in (
      here,
      all_both (λ (x : ℕ × Sight). x.0 ≡ base + 1 + place_in ss (point_of x.1)) (λ (x : ℕ × Sight). shows (point_of s) x.1 ≡ false) (λ (x : ℕ × Sight). x.0 ≡ base + place_in (s ∷ ss) (point_of x.1))
          later (enumerate_from (base + 1) ss) (numbered-places (base + 1) ss both.1)
          (all_enumerated (λ t. shows (point_of s) t ≡ false) (base + 1) ss (each_fails (shows (point_of s)) ss (not-true (list_any (shows (point_of s)) ss) both.0))),
    )
  where
    here : base ≡ base + place_in (s ∷ ss) (point_of s)
    here = let first : place_in (s ∷ ss) (point_of s) ≡ 0 = ap (λ b. cond (not b) (1 + place_in ss (point_of s)) 0) (shows-own s) in omega (arith, first)

    later : (x : ℕ × Sight) → x.0 ≡ base + 1 + place_in ss (point_of x.1) → shows (point_of s) x.1 ≡ false → x.0 ≡ base + place_in (s ∷ ss) (point_of x.1)
    later x at e = let beyond : place_in (s ∷ ss) (point_of x.1) ≡ 1 + place_in ss (point_of x.1) = ap (λ b. cond (not b) (1 + place_in ss (point_of x.1)) 0) (same_point-sym (point_of x.1) (point_of s) ∙ e) in omega (arith, at, beyond)

module _ (m : Mesh) (n : ℕ) (a : List ℕ) (layers : ℕ) (bases : List ℕ) (dim : IsFlatOrSolid m) where
  -- x has the number of its point
  IsNumbered : ℕ × Sight → Type 0
  IsNumbered x = x.0 ≡ point_number m a bases (point_of x.1)

  owned-differ : (r : ℕ) → points_differ (owned m a r) ≡ true
  unfolding owned held chart
  owned-differ r = differ-filter (λ s. owner m a (point_of s) == r) (held m a r 0) (differ-filter (λ s. list_any (λ (c : ℕ × Cell). contains c.1 (point_of s)) (held_cells m a r 0)) (strata m) (strata-differ m dim))

  owned-mine : (r : ℕ) → AllByRecursion (λ s. (owner m a (point_of s) == r) ≡ true) (owned m a r)
  unfolding owned
  owned-mine r = filter_passing (λ s. owner m a (point_of s) == r) (held m a r 0)

  -- the points that a rank owns have its own numbers
  rank-numbered : (r : ℕ) → AllByRecursion IsNumbered (enumerate_from (get_or bases r 0) (owned m a r))
  unfolding IsNumbered point_number
  rank-numbered r = all_both (λ (x : ℕ × Sight). x.0 ≡ get_or bases r 0 + place_in (owned m a r) (point_of x.1)) (λ (x : ℕ × Sight). (owner m a (point_of x.1) == r) ≡ true) IsNumbered
      (λ x at own. at ∙ ap (λ k. get_or bases k 0 + place_in (owned m a k) (point_of x.1)) (sym (eqb-true (owner m a (point_of x.1)) r own)))
      (enumerate_from (get_or bases r 0) (owned m a r)) (numbered-places (get_or bases r 0) (owned m a r) (owned-differ r)) (all_enumerated (λ s. (owner m a (point_of s) == r) ≡ true) (get_or bases r 0) (owned m a r) (owned-mine r))

  pub printed-numbers : (x : ℕ × Sight) → Contains (numbered (ranks_with m n a layers bases)) x → x.0 ≡ point_number m a bases (point_of x.1)
  unfolding ranks_with IsNumbered
  printed-numbers x = all_contained IsNumbered (numbered (ranks_with m n a layers bases)) x
      (all_flat_map IsNumbered (λ (r : Rank). enumerate_from r.base r.owned) (ranks_with m n a layers bases)
      (all_map (λ (r : Rank). AllByRecursion IsNumbered (enumerate_from r.base r.owned)) _ (below n) (all_from _ rank-numbered (below n))))
