-- Sums of numbers by their classes.
use Rattle.std.proofs.Common.{◌≡◌, ℕ, zero, suc, ◌+◌, ◌*◌, ◌<◌, ◌≤◌, Bool, true, false, cond, ◌==◌, List, [], ◌∷◌, length, map, get_or, sum_by, refl, ap, sym, ◌∙◌, ⊎_elim, arith}
use Rattle.std.specs.Prelude.{filter}
use Rattle.std.specs.List.{AllByRecursion, enumerate_from}
use Rattle.std.proofs.lemmas.Bool.{cases_lt, eq-eqb, ne_eqb}
use Rattle.std.proofs.lemmas.List.Sums.{sum_by-cons, sum_by_push}
use Rattle.plain_lists.specs.Lists.{below}
use Rattle.plain_lists.proofs.Below.{below-all}
use Rattle.plain_lists.proofs.Each.{all_weaker}

-- zeros add up to 0
pub sum-zeros : {X : Type 0} (g : X → ℕ) (xs : List X) → AllByRecursion (λ x. g x ≡ 0) xs → sum_by g xs ≡ 0
sum-zeros g [] h = refl
sum-zeros g (x ∷ xs) h = let r = sum-zeros g xs h.1 in let c = sum_by-cons g x xs in let here = h.0 in omega arith

-- two sums in one
pub sum-both : {X : Type 0} (g h : X → ℕ) (xs : List X) → sum_by (λ x. g x + h x) xs ≡ sum_by g xs + sum_by h xs
sum-both g h [] = refl
sum-both g h (x ∷ xs) = let r = sum-both g h xs in let a = sum_by-cons (λ y. g y + h y) x xs in let b = sum_by-cons g x xs in let c = sum_by-cons h x xs in omega arith

-- the same numbers have the same sum
pub sum-same : {X : Type 0} (g h : X → ℕ) (xs : List X) → AllByRecursion (λ x. g x ≡ h x) xs → sum_by g xs ≡ sum_by h xs
sum-same g h [] e = refl
sum-same g h (x ∷ xs) e = let r = sum-same g h xs e.1 in let a = sum_by-cons g x xs in let b = sum_by-cons h x xs in let here = e.0 in omega arith

-- a sum of what passes
pub sum-filter : {X : Type 0} (q : X → Bool) (g : X → ℕ) (xs : List X) → sum_by g (filter q xs) ≡ sum_by (λ x. cond (q x) (g x) 0) xs
sum-filter q g [] = refl
sum-filter q g (x ∷ xs) = go (q x) (sum-filter q g xs) ∙ sym (sum_by-cons (λ y. cond (q y) (g y) 0) x xs)
  where
    go : (b : Bool) → sum_by g (filter q xs) ≡ sum_by (λ y. cond (q y) (g y) 0) xs → sum_by g (cond b (x ∷ filter q xs) (filter q xs)) ≡ cond b (g x) 0 + sum_by (λ y. cond (q y) (g y) 0) xs
    go true r = sum_by-cons g x (filter q xs) ∙ ap (λ n. g x + n) r
    go false r = r ∙ omega arith

-- a sum over images
pub sum-map : {X Y : Type 0} (g : Y → ℕ) (h : X → Y) (xs : List X) → sum_by g (map h xs) ≡ sum_by (λ x. g (h x)) xs
sum-map g h [] = refl
sum-map g h (x ∷ xs) = sum_by-cons g (h x) (map h xs) ∙ (ap (λ n. g (h x) + n) (sum-map g h xs) ∙ sym (sum_by-cons (λ y. g (h y)) x xs))

-- one number below n
pub sum-one : (g : ℕ → ℕ) (n k : ℕ) → k < n → sum_by (λ r. cond (k == r) (g r) 0) (below n) ≡ g k
sum-one g zero k h = absurd (omega arith)
sum-one g (suc n) k h = sum_by_push (λ r. cond (k == r) (g r) 0) (below n) n ∙ ⊎_elim
    (λ (lt : k < n). let r = sum-one g n k lt in let none : cond (k == n) (g n) 0 ≡ 0 = ap (λ b. cond b (g n) 0) (ne_eqb k n (λ e. absurd (omega arith))) in omega arith)
    (λ (ge : n ≤ k).
    let same : k ≡ n = omega arith in
    let none = sum-zeros (λ r. cond (k == r) (g r) 0) (below n) (all_weaker (λ r. r < n) (λ r. cond (k == r) (g r) 0 ≡ 0) (λ r low. ap (λ b. cond b (g r) 0) (ne_eqb k r (λ e. absurd (omega arith)))) (below n) (below-all n)) in
    let here : cond (k == n) (g n) 0 ≡ g k = ap (λ b. cond b (g n) 0) (eq-eqb k n same) ∙ ap g (sym same) in
    omega arith)
    (cases_lt k n)

-- a sum by classes below n
pub sum-classes : {X : Type 0} (class : X → ℕ) (w : X → ℕ) (n : ℕ) (xs : List X) → AllByRecursion (λ x. class x < n) xs → sum_by w xs ≡ sum_by (λ r. sum_by w (filter (λ x. class x == r) xs)) (below n)
sum-classes class w n [] h = sym (sum-zeros (λ r. 0) (below n) (all_weaker (λ r. r < n) (λ r. 0 ≡ 0) (λ r low. refl) (below n) (below-all n)))
sum-classes class w n (x ∷ xs) h =
    let rest = sum-classes class w n xs h.1 in
    let one = sum-one (λ r. w x) n (class x) h.0 in
    let both = sum-both (λ r. cond (class x == r) (w x) 0) (λ r. sum_by w (filter (λ y. class y == r) xs)) (below n) in
    let parts : sum_by (λ r. sum_by w (filter (λ y. class y == r) (x ∷ xs))) (below n) ≡ sum_by (λ r. cond (class x == r) (w x) 0 + sum_by w (filter (λ y. class y == r) xs)) (below n) = (λ i. sum_by (λ r. go r (class x == r) i) (below n)) in
    let cons = sum_by-cons w x xs in
    omega arith
  where
    go : (r : ℕ) (b : Bool) → sum_by w (cond b (x ∷ filter (λ y. class y == r) xs) (filter (λ y. class y == r) xs)) ≡ cond b (w x) 0 + sum_by w (filter (λ y. class y == r) xs)
    go r true = sum_by-cons w x (filter (λ y. class y == r) xs)
    go r false = omega arith

-- values at numbered things are values of the things
pub sum-numbered : {X : Type 0} (q : X → Bool) (h : X → ℕ) (values : List ℕ) (n : ℕ) (xs : List X) (d : X) → ((k : ℕ) → k < length xs → get_or values (n + k) 0 ≡ h (get_or xs k d)) → sum_by (λ (x : ℕ × X). cond (q x.1) (get_or values x.0 0) 0) (enumerate_from n xs) ≡ sum_by (λ x. cond (q x) (h x) 0) xs
sum-numbered q h values n [] d e = refl
sum-numbered {X} q h values n (x ∷ xs) d e =
    let here : get_or values n 0 ≡ h x = ap (λ k. get_or values k 0) (let z : n ≡ n + 0 = omega arith in z) ∙ e 0 (omega arith) in
    let rest = sum-numbered q h values (n + 1) xs d (λ k low. ap (λ j. get_or values j 0) (let z : n + 1 + k ≡ n + suc k = omega arith in z) ∙ e (suc k) (omega arith)) in
    sum_by-cons (λ (y : ℕ × X). cond (q y.1) (get_or values y.0 0) 0) (n, x) (enumerate_from (n + 1) xs) ∙ ((λ i. cond (q x) (here i) 0 + rest i) ∙ sym (sum_by-cons (λ y. cond (q y) (h y) 0) x xs))

-- a sum of numbers below a bound
pub sum-bound : {X : Type 0} (g : X → ℕ) (bound : ℕ) (xs : List X) → AllByRecursion (λ x. g x ≤ bound) xs → sum_by g xs ≤ length xs * bound
sum-bound g bound [] h = omega arith
sum-bound g bound (x ∷ xs) h =
    let r = sum-bound g bound xs h.1 in
    let c = sum_by-cons g x xs in
    let here = h.0 in
    let step : suc (length xs) * bound ≡ length xs * bound + bound = grind arith in
    omega arith

-- a part of a sum
pub sum-filter-le : {X : Type 0} (q : X → Bool) (g : X → ℕ) (xs : List X) → sum_by g (filter q xs) ≤ sum_by g xs
sum-filter-le q g [] = omega arith
sum-filter-le q g (x ∷ xs) = go (q x) (sum-filter-le q g xs)
  where
    go : (b : Bool) → sum_by g (filter q xs) ≤ sum_by g xs → sum_by g (cond b (x ∷ filter q xs) (filter q xs)) ≤ sum_by g (x ∷ xs)
    go true r = let a = sum_by-cons g x (filter q xs) in let b = sum_by-cons g x xs in omega arith
    go false r = let b = sum_by-cons g x xs in omega arith

-- what all elements have, and what stands for those past the last one
pub all-or : {X : Type 0} (P : X → Type 0) (xs : List X) (k : ℕ) (d : X) → AllByRecursion P xs → P d → P (get_or xs k d)
all-or P [] k d h e = e
all-or P (x ∷ xs) zero d h e = h.0
all-or P (x ∷ xs) (suc k) d h e = all-or P xs k d h.1 e

-- the places of enumerated elements are below the end
pub enumerated-low : {X : Type 0} (n : ℕ) (xs : List X) (bound : ℕ) → n + length xs ≤ bound → AllByRecursion (λ (c : ℕ × X). c.0 + 1 ≤ bound) (enumerate_from n xs)
enumerated-low n [] bound h = tt
enumerated-low n (x ∷ xs) bound h = (omega arith, enumerated-low (n + 1) xs bound (omega arith))
