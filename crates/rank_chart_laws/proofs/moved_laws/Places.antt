-- Where the points of one chart stand in another chart of the same points.
use Rattle.std.proofs.Common.{◌≡◌, ◌≢◌, ℕ, zero, suc, ◌+◌, ◌<◌, ◌≤◌, Bool, true, false, cond, not, ◌&&◌, ◌||◌, ◌==◌, List, [], ◌∷◌, ◌++◌, map, length, get_or, refl, sym, ap, ap₂, ◌∙◌, subst, ⊎_elim, arith}
use Rattle.std.specs.List.{list_any, AllByRecursion, filter, enumerate_from, position_or_len}
use Rattle.std.proofs.lemmas.Bool.{and_from, eqb-true, eq-eqb, ne_eqb, or_cases, or_left, or_right}
use Rattle.std.proofs.lemmas.List.{length-map, get_or-map}
use Rattle.plain_lists.proofs.Each.{all_weaker, all_map, all_at, all_from}
use Rattle.plain_lists.proofs.Finding.{same_tests, any_filter, any_weaker, any_map, among, position_map, position_agree}
use Rattle.mesh_defs.specs.declared.Poly.TheVariants.{Vertex}
use Rattle.mesh_defs.specs.Points.{Point, Sight, point_of, shows}
use Rattle.mesh_defs.specs.Sights.{points_differ}
use Rattle.mesh_defs.specs.Diagram.{place_in}
use Rattle.mesh_laws.proofs.Firsts.{shows-own, shows-true, shown_itself}
use Rattle.rank_chart_laws.proofs.field_laws.Places.{place-is, shown-there}
use Rattle.rank_chart_laws.specs.moved_laws.Moves.{moved_place, IsReordering}
use Rattle.rank_chart_laws.specs.moved_laws.Sames.{AreSamePoints, moves_between}

-- ---- counting

-- a choice is no longer than the list
filter-short : (p : ℕ → Bool) (xs : List ℕ) → length (filter p xs) ≤ length xs
filter-short p [] = omega arith
filter-short p (x ∷ xs) = go (p x) (filter-short p xs)
  where
    go : (b : Bool) → length (filter p xs) ≤ length xs → length (cond b (x ∷ filter p xs) (filter p xs)) ≤ length (x ∷ xs)
    go true r = omega arith
    go false r = omega arith

-- where one passes, the others are fewer
fewer : (n : ℕ) (xs : List ℕ) → list_any (λ w. w == n) xs ≡ true → length (filter (λ w. not (w == n)) xs) < length xs
fewer n [] h = absurd (cc h)
fewer n (x ∷ xs) h = go (x == n) h (fewer n xs)
  where
    go : (b : Bool) → (b || list_any (λ w. w == n) xs) ≡ true → (list_any (λ w. w == n) xs ≡ true → length (filter (λ w. not (w == n)) xs) < length xs) → length (cond (not b) (x ∷ filter (λ w. not (w == n)) xs) (filter (λ w. not (w == n)) xs)) < length (x ∷ xs)
    go true k r = omega (arith, filter-short (λ w. not (w == n)) xs)
    go false k r = omega (arith, r k)

-- a list that has all numbers below n is no shorter than n
no-shorter : (n : ℕ) (xs : List ℕ) → ((v : ℕ) → v < n → list_any (λ w. w == v) xs ≡ true) → n ≤ length xs
no-shorter zero xs h = omega arith
no-shorter (suc n) xs h =
    let rest : n ≤ length (filter (λ w. not (w == n)) xs) = no-shorter n (filter (λ w. not (w == n)) xs) (λ v low. any_filter (λ w. w == v) (λ w. not (w == n)) xs
    ∙ any_weaker (λ w. w == v) (λ w. not (w == n) && (w == v)) (λ w e. and_from (not (w == n)) (w == v) (ap not (ne_eqb w n (λ f. absurd (omega (arith, eqb-true w v e))))) e) xs (h v (omega arith))) in
    omega (arith, rest, fewer n xs (h n (omega arith)))

-- what is true of each entry at its number is true of the numbered entries
pub all_numbered : {X : Type 0} (P : ℕ → X → Type 0) (n : ℕ) (xs : List X) (d : X) → ((i : ℕ) → i < length xs → P (n + i) (get_or xs i d)) → AllByRecursion (λ (s : ℕ × X). P s.0 s.1) (enumerate_from n xs)
all_numbered P n [] d h = tt
all_numbered {X} P n (x ∷ xs) d h = (
  let zero-more : n + 0 ≡ n = omega arith in subst (λ k. P k x) zero-more (h 0 (omega arith)),
  all_numbered P (n + 1) xs d (λ i low. let step : n + suc i ≡ n + 1 + i = omega arith in subst (λ k. P k (get_or xs i d)) step (h (suc i) (omega arith))),
)

-- past the last point
abbrev pub no_sight : Sight
no_sight = record { key = 0; poly = Vertex; arrangement = [] }

-- ---- two charts

turned : (old new : List Sight) → AreSamePoints old new → AreSamePoints new old
turned old new are = record { old_once = are.new_once; new_once = are.old_once; same = λ p. sym (are.same p) }

-- a point of one stands in the other
shown-in : (old new : List Sight) (are : AreSamePoints old new) → AllByRecursion (λ s. list_any (shows (point_of s)) old ≡ true) new
shown-in old new are = all_weaker (λ s. list_any (shows (point_of s)) new ≡ true) (λ s. list_any (shows (point_of s)) old ≡ true) (λ s h. are.same (point_of s) ∙ h) new (shown_itself new)

module _ (old new : List Sight) (are : AreSamePoints old new) where
  pub length-moves : length (moves_between old new) ≡ length old
  unfolding moves_between
  length-moves = length-map old (λ s. place_in new (point_of s))

  -- where the point at place i goes
  pub move-at : (i : ℕ) → i < length old → moved_place (moves_between old new) i ≡ place_in new (point_of (get_or old i no_sight))
  unfolding moves_between
  move-at i low = get_or-map (λ s. place_in new (point_of s)) old i no_sight 0 low

  -- where a point goes
  pub move-of : (p : Point) → list_any (shows p) old ≡ true → moved_place (moves_between old new) (place_in old p) ≡ place_in new p
  move-of p h = let there = shown-there p old no_sight h in move-at (place_in old p) there.0 ∙ ap (place_in new) (sym (shows-true p (get_or old (place_in old p) no_sight) there.1))

  module _ (j : ℕ) (low : j < length new) where
    -- the point at place j of the new chart stands in the old one
    pub came-from : (place_in old (point_of (get_or new j no_sight)) < length old) × (shows (point_of (get_or new j no_sight)) (get_or old (place_in old (point_of (get_or new j no_sight))) no_sight) ≡ true)
    came-from = shown-there (point_of (get_or new j no_sight)) old no_sight (all_at (λ s. list_any (shows (point_of s)) old ≡ true) new j no_sight (shown-in old new are) low)

    pub stands-at : place_in new (point_of (get_or new j no_sight)) ≡ j
    stands-at = place-is (point_of (get_or new j no_sight)) new no_sight are.new_once j low (shows-own (get_or new j no_sight))

    -- what goes to place j is its point
    goes-there : (s : Sight) → list_any (shows (point_of s)) new ≡ true → (place_in new (point_of s) == j) ≡ shows (point_of (get_or new j no_sight)) s
    goes-there s h = same_tests (place_in new (point_of s) == j) (shows (point_of (get_or new j no_sight)) s)
        (λ e. let there = shown-there (point_of s) new no_sight h in
        let here : shows (point_of s) (get_or new j no_sight) ≡ true = subst (λ k. shows (point_of s) (get_or new k no_sight) ≡ true) (eqb-true (place_in new (point_of s)) j e) there.1 in
        ap (λ q. shows q s) (sym (shows-true (point_of s) (get_or new j no_sight) here)) ∙ shows-own s)
        (λ e. eq-eqb (place_in new (point_of s)) j (ap (place_in new) (sym (shows-true (point_of (get_or new j no_sight)) s e)) ∙ stands-at))

    pub found-at : position_or_len (λ k. k == j) (moves_between old new) ≡ place_in old (point_of (get_or new j no_sight))
    unfolding moves_between
    found-at = position_map (λ k. k == j) (λ s. place_in new (point_of s)) old
        ∙ position_agree (λ s. place_in new (point_of s) == j) (shows (point_of (get_or new j no_sight))) old
        (all_weaker (λ s. list_any (shows (point_of s)) new ≡ true) (λ s. (place_in new (point_of s) == j) ≡ shows (point_of (get_or new j no_sight)) s) goes-there old (shown-in new old (turned old new are)))

    onto-there : list_any (λ k. k == j) (moves_between old new) ≡ true
    unfolding moves_between
    onto-there = any_map (λ k. k == j) (λ s. place_in new (point_of s)) old
        ∙ any_weaker (shows (point_of (get_or new j no_sight))) (λ s. place_in new (point_of s) == j)
        (λ s e. eq-eqb (place_in new (point_of s)) j (ap (place_in new) (sym (shows-true (point_of (get_or new j no_sight)) s e)) ∙ stands-at)) old
        (all_at (λ s. list_any (shows (point_of s)) old ≡ true) new j no_sight (shown-in old new are) low)

    -- a place goes to j just where its point stands there
    pub goes-to : (i : ℕ) → i < length old → (moved_place (moves_between old new) i == j) ≡ (i == place_in old (point_of (get_or new j no_sight)))
    goes-to i inside =
        let s = get_or old i no_sight in
        let seen : list_any (shows (point_of s)) new ≡ true = all_at (λ t. list_any (shows (point_of t)) new ≡ true) old i no_sight (shown-in new old (turned old new are)) inside in
        ap (λ k. k == j) (move-at i inside) ∙ goes-there s seen
        ∙ same_tests (shows (point_of (get_or new j no_sight)) s) (i == place_in old (point_of (get_or new j no_sight)))
        (λ e. eq-eqb i (place_in old (point_of (get_or new j no_sight))) (sym (place-is (point_of (get_or new j no_sight)) old no_sight are.old_once i inside e)))
        (λ e. subst (λ k. shows (point_of (get_or new j no_sight)) (get_or old k no_sight) ≡ true) (sym (eqb-true i (place_in old (point_of (get_or new j no_sight))) e)) came-from.1)

  pub no-more : length new ≤ length old
  no-more = let long = length-moves in let less = no-shorter (length new) (moves_between old new) onto-there in omega (arith, long, less)

-- there are as many points in both
pub same-length : (old new : List Sight) → AreSamePoints old new → length new ≡ length old
same-length old new are = omega (arith, no-more old new are, no-more new old (turned old new are))

-- and each place goes to one of its own
pub is-reordering : (old new : List Sight) → AreSamePoints old new → IsReordering (moves_between old new)
unfolding moves_between
is-reordering old new are = record {
  low = low-moves;
  onto = λ j less. onto-there old new are j (omega (arith, less, length-moves old new are, same-length old new are));
  once = λ i k in-i in-k same. once-moved i k (omega (arith, in-i, length-moves old new are)) (omega (arith, in-k, length-moves old new are)) same;
}
  where
    low-moves : AllByRecursion (λ j. j < length (moves_between old new)) (moves_between old new)
    low-moves = all_map (λ j. j < length (moves_between old new)) (λ s. place_in new (point_of s)) old
        (all_weaker (λ s. list_any (shows (point_of s)) new ≡ true) (λ s. place_in new (point_of s) < length (moves_between old new)) (λ s h. let there = shown-there (point_of s) new no_sight h in omega (arith, there.0, length-moves old new are, same-length old new are)) old (shown-in new old (turned old new are)))

    once-moved : (i k : ℕ) → i < length old → k < length old → moved_place (moves_between old new) i ≡ moved_place (moves_between old new) k → i ≡ k
    once-moved i k in-i in-k same =
        let j = moved_place (moves_between old new) k in
        let seen : list_any (shows (point_of (get_or old k no_sight))) new ≡ true = all_at (λ t. list_any (shows (point_of t)) new ≡ true) old k no_sight (shown-in new old (turned old new are)) in-k in
        let low : j < length new = let there = shown-there (point_of (get_or old k no_sight)) new no_sight seen in omega (arith, there.0, move-at old new are k in-k) in
        eqb-true i (place_in old (point_of (get_or new j no_sight))) (sym (goes-to old new are j low i in-i) ∙ eq-eqb (moved_place (moves_between old new) i) j same)
        ∙ sym (eqb-true k (place_in old (point_of (get_or new j no_sight))) (sym (goes-to old new are j low k in-k) ∙ eq-eqb j j refl))
