-- A rising list with the numbers of another one is that one sorted.
use Rattle.std.proofs.Common.{◌≡◌, ℕ, suc, ◌+◌, ◌<◌, ◌≤◌, Bool, true, false, cond, ◌==◌, nat_le, List, [], ◌∷◌, length, get_or, refl, sym, ap, ap₂, ◌∙◌, ⊎_elim, arith}
use Rattle.std.specs.List.{AllByRecursion, sum_by}
use Rattle.std.specs.List.Sorted.{IsPermutation, IsSorted, IsNonDecreasing}
use Rattle.std.specs.Ordering.{nat_cmp}
use Rattle.std.proofs.lemmas.Bool.{leb-true, leb-false, eq-eqb, ne_eqb, cases_order}
use Rattle.std.proofs.lemmas.List.Sums.{sum_by-cons}
use Rattle.std.proofs.lemmas.List.Sorted.{IsNonDecreasingBy-from_sort, sum_by-IsPermutation}
use Rattle.plain_lists.specs.Lists.{inserted, sorted}
use Rattle.plain_lists.proofs.Each.{all_weaker}
use Rattle.plain_lists.proofs.Sorted.{all_inserted}

-- no number is below one before it
abbrev Rises : List ℕ → Type 0
Rises [] = Unit {0}
Rises (x ∷ xs) = AllByRecursion (λ y. x ≤ y) xs × Rises xs

inserted-rises : (x : ℕ) (ys : List ℕ) → Rises ys → Rises (inserted x ys)
inserted-rises x [] up = (tt, tt)
inserted-rises x (y ∷ ys) up = go (nat_le x y) refl (inserted-rises x ys up.1)
  where
    go : (b : Bool) → nat_le x y ≡ b → Rises (inserted x ys) → Rises (cond b (x ∷ y ∷ ys) (y ∷ inserted x ys))
    go true e r = let low = leb-true x y e in ((low, all_weaker (λ z. y ≤ z) (λ z. x ≤ z) (λ z h. omega arith) ys up.0), up)
    go false e r = let high = leb-false x y e in (all_inserted (λ z. y ≤ z) x ys (omega arith) up.0, r)

sorted-rises : (xs : List ℕ) → Rises (sorted xs)
unfolding sorted
sorted-rises [] = tt
sorted-rises (x ∷ xs) = inserted-rises x (sorted xs) (sorted-rises xs)

-- ---- how often a number stands in a list

abbrev is : ℕ → ℕ → ℕ
is v x = cond (x == v) 1 0

abbrev times : ℕ → List ℕ → ℕ
times v [] = 0
times v (x ∷ xs) = is v x + times v xs

times-sum : (v : ℕ) (xs : List ℕ) → sum_by (is v) xs ≡ times v xs
times-sum v [] = refl
times-sum v (x ∷ xs) = sum_by-cons (is v) x xs ∙ ap (λ n. is v x + n) (times-sum v xs)

times-inserted : (v x : ℕ) (ys : List ℕ) → times v (inserted x ys) ≡ is v x + times v ys
times-inserted v x [] = refl
times-inserted v x (y ∷ ys) = go (nat_le x y) (times-inserted v x ys)
  where
    go : (b : Bool) → times v (inserted x ys) ≡ is v x + times v ys → times v (cond b (x ∷ y ∷ ys) (y ∷ inserted x ys)) ≡ is v x + (is v y + times v ys)
    go true r = refl
    go false r = let e : times v (y ∷ inserted x ys) ≡ is v y + times v (inserted x ys) = refl in omega (arith, e, r)

times-sorted : (v : ℕ) (xs : List ℕ) → times v (sorted xs) ≡ times v xs
unfolding sorted
times-sorted v [] = refl
times-sorted v (x ∷ xs) = times-inserted v x (sorted xs) ∙ ap (λ n. is v x + n) (times-sorted v xs)

-- a number below all others does not stand there
times-low : (v : ℕ) (xs : List ℕ) → AllByRecursion (λ y. v < y) xs → times v xs ≡ 0
times-low v [] all = refl
times-low v (x ∷ xs) all = let low = all.0 in ap₂ (λ (b : Bool) n. cond b 1 0 + n) (ne_eqb x v (λ e. omega arith)) (times-low v xs all.1)

times-head : (v : ℕ) (xs : List ℕ) → times v (v ∷ xs) ≡ 1 + times v xs
times-head v xs = ap (λ (b : Bool). cond b 1 0 + times v xs) (eq-eqb v v refl)

-- rising lists with the same numbers are one
same-rising : (xs ys : List ℕ) → Rises xs → Rises ys → ((v : ℕ) → times v xs ≡ times v ys) → xs ≡ ys
same-rising [] [] up up' h = refl
same-rising [] (y ∷ ys) up up' h = let a = h y in let b = times-head y ys in absurd (omega arith)
same-rising (x ∷ xs) [] up up' h = let a = h x in let b = times-head x xs in absurd (omega arith)
same-rising (x ∷ xs) (y ∷ ys) up up' h = ⊎_elim
    (λ (same : x ≡ y). ap₂ (λ z zs. z ∷ zs) same (same-rising xs ys up.1 up'.1 (λ v.
    let a : is v x + times v xs ≡ is v y + times v ys = h v in
    let b : is v x ≡ is v y = ap (is v) same in
    omega (arith, a, b))))
    (λ other. ⊎_elim
    (λ (low : x < y). let none = times-low x (y ∷ ys) (low, all_weaker (λ z. y ≤ z) (λ z. x < z) (λ z g. omega arith) ys up'.0) in let a = h x in let b = times-head x xs in absurd (omega arith))
    (λ (low : y < x). let none = times-low y (x ∷ xs) (low, all_weaker (λ z. x ≤ z) (λ z. y < z) (λ z g. omega arith) xs up.0) in let a = h y in let b = times-head y ys in absurd (omega arith))
    other)
    (cases_order x y)

-- ---- what a sort leaves

rises-by_index : (xs : List ℕ) → ((i j : ℕ) → i ≤ j → j < length xs → get_or xs i 0 ≤ get_or xs j 0) → Rises xs
rises-by_index [] h = tt
rises-by_index (x ∷ xs) h = (above xs (λ j low. h 0 (suc j) (omega arith) (omega arith)), rises-by_index xs (λ i j le low. h (suc i) (suc j) (omega arith) (omega arith)))
  where
    above : (ys : List ℕ) → ((j : ℕ) → j < length ys → x ≤ get_or ys j 0) → AllByRecursion (λ y. x ≤ y) ys
    above [] g = tt
    above (y ∷ ys) g = (g 0 (omega arith), above ys (λ j low. g (suc j) (omega arith)))

-- a sorted permutation is the sorted list
pub sorted-unique : (xs ys : List ℕ) → IsPermutation xs ys → IsSorted nat_cmp ys → ys ≡ sorted xs
sorted-unique xs ys same up =
    let rising : IsNonDecreasing ys = IsNonDecreasingBy-from_sort (λ x. x) ys up in
    same-rising ys (sorted xs) (rises-by_index ys (λ i j le low. rising i j 0 le low)) (sorted-rises xs)
    (λ v. sym (times-sum v ys) ∙ sum_by-IsPermutation (is v) xs ys same ∙ times-sum v xs ∙ sym (times-sorted v xs))
