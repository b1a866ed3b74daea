-- Orders of keys: what a sort of keys with their places leaves, and where each place goes.
use Rattle.std.proofs.Common.{◌≡◌, ◌≢◌, ℕ, ◌+◌, ◌<◌, ◌≤◌, Bool, true, false, cond, ◌==◌, nat_lt, List, map, length, get_or, IsPermutation, refl, sym, ap, ◌∙◌, subst, ⊎_elim, arith, is_lt, nat_cmp, Contains}
use Rattle.std.specs.declared.cmp.Ordering.{Ordering}
use Rattle.std.specs.declared.cmp.Ordering.TheVariants.{Less, Equal, Greater}
use Rattle.std.specs.Ordering.{ordering_then}
use Rattle.std.specs.List.{AllByRecursion, swap}
use Rattle.std.specs.List.Sorted.{IsSortedBy, IsNonDecreasingBy}
use Rattle.std.proofs.lemmas.Bool.{true≢false, ltb-false, cases_eq}
use Rattle.std.proofs.lemmas.List.{length-map, get_or-map, map-id}
use Rattle.std.proofs.lemmas.List.Edits.{Swapped, swapped_from_swap, length-swap}
use Rattle.std.proofs.lemmas.List.Elements.{All-from_recursion, recursion_from_All}
use Rattle.std.proofs.lemmas.List.Sorted.{IsPermutation-map, IsPermutation-keeps, All-permutation, Contains-permutation, length_permutation, IsNonDecreasingBy-from_all_adjacent}
use Rattle.plain_lists.specs.Lists.{below}
use Rattle.plain_lists.proofs.Below.{length-below, below-all, get_or-below}
use Rattle.plain_lists.proofs.Each.{all_at, all_from, all_map}
use Rattle.plain_lists.proofs.Filters.{map_map_same}
use Rattle.rank_cones.specs.held_points.Order.{IsOrder, placed}

-- ---- lists without repetition

-- different places have different numbers
abbrev pub AreApart : {X : Type 0} → (X → ℕ) → X → List X → Type 0
AreApart f d xs = (i j : ℕ) → i < length xs → j < length xs → i ≢ j → f (get_or xs i d) ≢ f (get_or xs j d)

-- where what stands at a place after a swap stood before
source : {X : Type 0} (f g : ℕ → X) (a b n : ℕ) → Swapped f g a b → a < n → b < n → (i : ℕ) → i < n → (s : ℕ) × (s < n) × (g i ≡ f s) × (i ≡ a → s ≡ b) × (i ≡ b → s ≡ a) × (i ≢ a → i ≢ b → s ≡ i)
source f g a b n h la lb i li = ⊎_elim
    (λ (ea : i ≡ a). (b, lb, ap g ea ∙ h.0, λ _. refl, λ eb. sym eb ∙ ea, λ na. absurd (na ea)))
    (λ (na : i ≢ a). ⊎_elim
    (λ (eb : i ≡ b). (a, la, ap g eb ∙ h.1, λ ea. absurd (na ea), λ _. refl, λ _ nb. absurd (nb eb)))
    (λ (nb : i ≢ b). (i, li, h.2 i na nb, λ ea. absurd (na ea), λ eb. absurd (nb eb), λ _ _. refl))
    (cases_eq i b))
    (cases_eq i a)

-- a list in another order is without repetition too
pub apart-permutation : {X : Type 0} (f : X → ℕ) (d : X) (xs ys : List X) → AreApart f d xs → IsPermutation xs ys → AreApart f d ys
apart-permutation {X} f d xs ys start h = IsPermutation-keeps xs (AreApart f d) start step ys h
  where
    step : (l : List X) (a b : ℕ) → a < length l → b < length l → AreApart f d l → AreApart f d (swap l a b)
    step l a b la lb apart i j li lj ne same =
        let same_long = length-swap l a b in
        let moved = swapped_from_swap l (swap l a b) a b d la lb refl in
        let (s, ls, es, s1, s2, s3) = source (λ k. get_or l k d) (λ k. get_or (swap l a b) k d) a b (length l) moved la lb i (omega arith) in
        let (t, lt, et, t1, t2, t3) = source (λ k. get_or l k d) (λ k. get_or (swap l a b) k d) a b (length l) moved la lb j (omega arith) in
        let differ : s ≢ t = λ e. ⊎_elim
        (λ (ia : i ≡ a). ⊎_elim (λ (ja : j ≡ a). ne (ia ∙ sym ja)) (λ (ja : j ≢ a). ⊎_elim (λ (jb : j ≡ b). let p = s1 ia in let q = t2 jb in ne (ia ∙ sym q ∙ sym e ∙ p ∙ sym jb)) (λ (jb : j ≢ b). let p = s1 ia in let q = t3 ja jb in jb (sym q ∙ sym e ∙ p)) (cases_eq j b)) (cases_eq j a))
        (λ (ia : i ≢ a). ⊎_elim
        (λ (ib : i ≡ b). ⊎_elim (λ (jb : j ≡ b). ne (ib ∙ sym jb)) (λ (jb : j ≢ b). ⊎_elim (λ (ja : j ≡ a). let p = s2 ib in let q = t1 ja in ne (ib ∙ sym q ∙ sym e ∙ p ∙ sym ja)) (λ (ja : j ≢ a). let p = s2 ib in let q = t3 ja jb in ja (sym q ∙ sym e ∙ p)) (cases_eq j a)) (cases_eq j b))
        (λ (ib : i ≢ b). let p = s3 ia ib in ⊎_elim (λ (ja : j ≡ a). let q = t1 ja in ib (sym p ∙ e ∙ q)) (λ (ja : j ≢ a). ⊎_elim (λ (jb : j ≡ b). let q = t2 jb in ia (sym p ∙ e ∙ q)) (λ (jb : j ≢ b). ne (sym p ∙ e ∙ t3 ja jb)) (cases_eq j b)) (cases_eq j a))
        (cases_eq i b))
        (cases_eq i a) in
        apart s t ls lt differ (ap f (sym es) ∙ same ∙ ap f et)

-- ---- orders

module _ (keys order : List ℕ) (is : IsOrder keys order) where
  -- as many places as keys
  pub order-long : length order ≡ length keys
  order-long = length_permutation (below (length keys)) order is.same ∙ length-below (length keys)

  -- each is the place of a key
  pub order-low : AllByRecursion (λ k. k < length keys) order
  order-low = recursion_from_All (λ k. k < length keys) order (All-permutation (λ k. k < length keys) (below (length keys)) order is.same (All-from_recursion (λ k. k < length keys) (below (length keys)) (below-all (length keys))))

  -- none stands there twice
  pub order-apart : AreApart (λ n. n) 0 order
  order-apart = apart-permutation (λ n. n) 0 (below (length keys)) order
      (λ i j li lj ne same. ne (sym (get_or-below (length keys) i 0 (omega (arith, length-below (length keys)))) ∙ same ∙ get_or-below (length keys) j 0 (omega (arith, length-below (length keys))))) is.same

  -- each place stands somewhere
  pub order-has : (k : ℕ) → k < length keys → Contains order k
  order-has k low = Contains-permutation (below (length keys)) order k is.same (k, omega (arith, length-below (length keys)), get_or-below (length keys) k k low)

-- ---- sorts

-- how keys with their places are compared
abbrev pub pair_cmp : ℕ × ℕ → ℕ × ℕ → Ordering
pair_cmp p q = ordering_then (nat_cmp p.0 q.0) (nat_cmp p.1 q.1)

-- what does not come before has no smaller key
not-before : (p q : ℕ × ℕ) → is_lt (pair_cmp p q) ≡ false → q.0 ≤ p.0
not-before p q = go (nat_lt p.0 q.0) refl
  where
    go : (b : Bool) → nat_lt p.0 q.0 ≡ b → is_lt (ordering_then (cond b Less (cond (p.0 == q.0) Equal Greater)) (nat_cmp p.1 q.1)) ≡ false → q.0 ≤ p.0
    go true e h = absurd (true≢false h)
    go false e h = ltb-false p.0 q.0 e

-- the places of sorted keys
pub sorted-order : (keys : List ℕ) (pairs : List (ℕ × ℕ)) → IsPermutation (placed keys) pairs → IsSortedBy (λ p q. is_lt (pair_cmp p q)) pairs → IsOrder keys (map (λ (p : ℕ × ℕ). p.1) pairs)
sorted-order keys pairs moved sorted = record { same = same; rising = rising }
  where
    keyed : AllByRecursion (λ (p : ℕ × ℕ). get_or keys p.1 0 ≡ p.0) pairs
    keyed = recursion_from_All (λ (p : ℕ × ℕ). get_or keys p.1 0 ≡ p.0) pairs (All-permutation (λ (p : ℕ × ℕ). get_or keys p.1 0 ≡ p.0) (placed keys) pairs moved
        (All-from_recursion (λ (p : ℕ × ℕ). get_or keys p.1 0 ≡ p.0) (placed keys) (all_map (λ (p : ℕ × ℕ). get_or keys p.1 0 ≡ p.0) (λ k. (get_or keys k 0, k)) (below (length keys)) (all_from (λ k. get_or keys k 0 ≡ get_or keys k 0) (λ k. refl) (below (length keys))))))

    same : IsPermutation (below (length keys)) (map (λ (p : ℕ × ℕ). p.1) pairs)
    same = subst (λ l. IsPermutation l (map (λ (p : ℕ × ℕ). p.1) pairs)) (map_map_same (λ (p : ℕ × ℕ). p.1) (λ k. (get_or keys k 0, k)) (λ k. k) (below (length keys)) (all_from (λ k. k ≡ k) (λ k. refl) (below (length keys))) ∙ map-id (below (length keys)))
        (IsPermutation-map (λ (p : ℕ × ℕ). p.1) (placed keys) pairs moved)

    at : (k d : ℕ) → k < length pairs → get_or keys (get_or (map (λ (p : ℕ × ℕ). p.1) pairs) k d) 0 ≡ (get_or pairs k (0, 0)).0
    at k d low = ap (λ j. get_or keys j 0) (get_or-map (λ (p : ℕ × ℕ). p.1) pairs k (0, 0) d low) ∙ all_at (λ (p : ℕ × ℕ). get_or keys p.1 0 ≡ p.0) pairs k (0, 0) keyed low

    rising : IsNonDecreasingBy (λ k. get_or keys k 0) (map (λ (p : ℕ × ℕ). p.1) pairs)
    rising = IsNonDecreasingBy-from_all_adjacent (λ k. get_or keys k 0) (map (λ (p : ℕ × ℕ). p.1) pairs)
        (λ k d low.
        let long = length-map pairs (λ (p : ℕ × ℕ). p.1) in
        let here = at k d (omega arith) in
        let next = at (k + 1) d (omega arith) in
        let step = not-before (get_or pairs (k + 1) (0, 0)) (get_or pairs k (0, 0)) (sorted k (0, 0) (omega arith) (omega arith)) in
        omega arith)
