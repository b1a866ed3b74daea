-- Lists that are sorted by number.
use Rattle.std.proofs.Common.{◌≡◌, ◌≢◌, ℕ, zero, suc, ◌+◌, ◌<◌, ◌≤◌, Bool, true, false, ◌==◌, List, [], ◌∷◌, ◌++◌, map, length, get_or, refl, sym, ◌∙◌, subst, arith}
use Rattle.std.specs.Prelude.{IsPermutation, filter}
use Rattle.std.specs.List.{list_any, AllByRecursion, IsDistinct}
use Rattle.std.specs.List.Sorted.{IsNonDecreasingBy}
use Rattle.std.proofs.lemmas.Bool.{both_ways, eq-eqb, eqb-true, ne_eqb}
use Rattle.std.proofs.lemmas.Map.Keys.{IsDistinct-IsPermutation, IsDistinct-from_apart, IsDistinct-head, IsDistinct-tail}
use Rattle.std.proofs.lemmas.List.{map-append}
use Rattle.std.proofs.lemmas.List.Elements.{All-from_recursion, recursion_from_All}
use Rattle.std.proofs.lemmas.List.Sorted.{All-permutation, IsPermutation-sym}
use Rattle.plain_lists.specs.Lists.{below}
use Rattle.plain_lists.proofs.Below.{below-all}
use Rattle.plain_lists.proofs.Each.{all_append, all_at, all_both, all_map, all_weaker}
use Rattle.plain_lists.proofs.Finding.{each_fails, none_passes, same_tests}
use Rattle.rank_laws.proofs.orient_laws.Rising.{rising-filter}
use Rattle.rank_chart_laws.specs.key_laws.Places.{run}
use Rattle.sf_defs.specs.Asks.{IsRising}

-- what stands at each place
pub all-places : {X : Type 0} (P : X → Type 0) (xs : List X) (d : X) → ((k : ℕ) → k < length xs → P (get_or xs k d)) → AllByRecursion P xs
all-places P [] d h = tt
all-places P (x ∷ xs) d h = (h 0 (omega arith), all-places P xs d (λ k low. h (suc k) (omega (arith, low))))

module _ {X : Type 0} (number : X → ℕ) where
  abbrev same_number : X → X → Bool
  same_number x y = number x == number y

  rising : (xs : List X) → IsNonDecreasingBy number xs → IsDistinct same_number xs → IsRising (map number xs)
  rising [] up apart = tt
  rising (x ∷ xs) up apart = (
    all_map (λ k. number x < k) number xs
        (all_both (λ y. number x ≤ number y) (λ y. same_number x y ≡ false) (λ y. number x < number y) above xs
        (all-places (λ y. number x ≤ number y) xs x (λ k low. up 0 (suc k) x (omega arith) (omega (arith, low))))
        (IsDistinct-head same_number x xs apart)),
    rising xs (λ i j d le low. up (suc i) (suc j) d (omega (arith, le)) (omega (arith, low))) (IsDistinct-tail same_number x xs apart),
  )
    where
      above : (y : X) → number x ≤ number y → same_number x y ≡ false → number x < number y
      above y le other =
          let ne : number x ≢ number y = λ e. both_ways (same_number x y) other (eq-eqb (number x) (number y) e) in
          omega (arith, le, ne)

  -- a list that is put in order by numbers that differ
  pub put-rising : (xs ys : List X) → IsPermutation xs ys → IsNonDecreasingBy number ys → ((i j : ℕ) (d : X) → i < j → j < length xs → number (get_or xs i d) ≢ number (get_or xs j d)) → IsRising (map number ys)
  put-rising xs ys same up apart = rising ys up
      (IsDistinct-IsPermutation same_number (λ x y. same_tests (same_number x y) (same_number y x) (λ e. turned x y e) (λ e. turned y x e)) xs ys same
      (IsDistinct-from_apart same_number xs (λ i j d lt low. ne_eqb (number (get_or xs i d)) (number (get_or xs j d)) (apart i j d lt low))))
    where
      turned : (x y : X) → same_number x y ≡ true → same_number y x ≡ true
      turned x y e = eq-eqb (number y) (number x) (sym (eqb-true (number x) (number y) e))

-- ---- in another order

-- what all of some things have, they have in another order
pub all-permutation : {X : Type 0} (P : X → Type 0) (xs ys : List X) → IsPermutation xs ys → AllByRecursion P xs → AllByRecursion P ys
all-permutation P xs ys h all = recursion_from_All P ys (All-permutation P xs ys h (All-from_recursion P xs all))

-- what passes among some things passes among them in another order
pub any-permutation : {X : Type 0} (p : X → Bool) (xs ys : List X) → IsPermutation xs ys → list_any p xs ≡ list_any p ys
any-permutation {X} p xs ys h = go (list_any p xs) refl (list_any p ys) refl
  where
    fails : (us vs : List X) → IsPermutation us vs → list_any p us ≡ false → list_any p vs ≡ false
    fails us vs k e = none_passes p vs (all-permutation (λ x. p x ≡ false) us vs k (each_fails p us e))

    go : (b : Bool) → list_any p xs ≡ b → (c : Bool) → list_any p ys ≡ c → list_any p xs ≡ list_any p ys
    go true e true f = e ∙ sym f
    go false e c f = e ∙ sym (fails xs ys h e)
    go true e false f = absurd (both_ways (list_any p xs) (fails ys xs (IsPermutation-sym xs ys h) f) e)

-- ---- rising numbers

-- of rising numbers an earlier one is lower
pub earlier-lower : (xs : List ℕ) → IsRising xs → (i j : ℕ) (d : ℕ) → i < j → j < length xs → get_or xs i d < get_or xs j d
earlier-lower [] h i j d lt low = absurd (omega (arith, low))
earlier-lower (x ∷ xs) h i zero d lt low = absurd (omega (arith, lt))
earlier-lower (x ∷ xs) h zero (suc j) d lt low = all_at (λ k. x < k) xs j d h.0 (omega (arith, low))
earlier-lower (x ∷ xs) h (suc i) (suc j) d lt low = earlier-lower xs h.1 i j d (omega (arith, lt)) (omega (arith, low))

pub same-numbers : (xs : List ℕ) → map (λ n. n) xs ≡ xs
same-numbers [] = refl
same-numbers (x ∷ xs) = λ i. x ∷ same-numbers xs i

-- a choice from rising numbers
pub chosen-rising : (p : ℕ → Bool) (xs : List ℕ) → IsRising xs → IsRising (filter p xs)
chosen-rising p xs h = subst IsRising (same-numbers (filter p xs)) (rising-filter (λ n. n) p xs (subst IsRising (sym (same-numbers xs)) h))

-- the numbers of a run are between its ends
pub run-within : (first count : ℕ) → AllByRecursion (λ i. (first ≤ i) × (i < first + count)) (run first count)
run-within first count = all_map (λ i. (first ≤ i) × (i < first + count)) (λ k. first + k) (below count)
    (all_weaker (λ k. k < count) (λ k. (first ≤ first + k) × (first + k < first + count)) (λ k low. (omega arith, omega (arith, low))) (below count) (below-all count))

-- and rise
pub run-rising : (first count : ℕ) → IsRising (run first count)
run-rising first zero = tt
run-rising first (suc count) =
    subst IsRising (sym (map-append (λ k. first + k) (below count) (count ∷ [])))
    (last-rising (run first count) (first + count) (run-rising first count) (all_weaker (λ i. (first ≤ i) × (i < first + count)) (λ i. i < first + count) (λ i h. h.1) (run first count) (run-within first count)))
  where
    last-rising : (xs : List ℕ) (y : ℕ) → IsRising xs → AllByRecursion (λ x. x < y) xs → IsRising (xs ++ y ∷ [])
    last-rising [] y h b = (tt, tt)
    last-rising (x ∷ xs) y h b = (all_append (λ k. x < k) xs (y ∷ []) h.0 (b.0, tt), last-rising xs y h.1 b.1)
