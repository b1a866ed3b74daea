-- Numbers of which each below a bound stands once.
use Rattle.std.proofs.Common.{◌≡◌, ◌⊎◌, inl, inr, ℕ, zero, suc, ◌+◌, ◌<◌, ◌≤◌, Bool, true, false, cond, ◌==◌, nat_lt, List, [], ◌∷◌, length, count_by, arith, refl, ap, sym, ◌∙◌, ⊎_elim}
use Rattle.std.specs.List.{AllByRecursion}
use Rattle.std.proofs.lemmas.Bool.{cases_lt, eq-eqb, ne_eqb, lt-ltb, le-ltb, ltb-true}
use Rattle.std.proofs.lemmas.List.Sums.{sum_by-cons, count_by-le-length}
use Rattle.plain_lists.proofs.Each.{all_weaker}

abbrev pub one_if : Bool → ℕ
one_if b = cond b 1 0

-- one more where the first passes
pub count-cons : {X : Type 0} (p : X → Bool) (x : X) (xs : List X) → count_by p (x ∷ xs) ≡ cond (p x) 1 0 + count_by p xs
count-cons p x xs = sum_by-cons (λ y. cond (p y) 1 0) x xs

-- those below the next bound are those below this one and those at it
count-below-more : (k : ℕ) (xs : List ℕ) → count_by (λ d. nat_lt d (suc k)) xs ≡ count_by (λ d. nat_lt d k) xs + count_by (λ d. d == k) xs
count-below-more k [] = refl
count-below-more k (x ∷ xs) =
    let a = count-cons (λ d. nat_lt d (suc k)) x xs in
    let b = count-cons (λ d. nat_lt d k) x xs in
    let c = count-cons (λ d. d == k) x xs in
    let r = count-below-more k xs in
    let h = here (cases_lt x k) in
    omega arith
  where
    mark : Bool → ℕ
    mark b = cond b 1 0

    here : ((x < k) ⊎ (k ≤ x)) → mark (nat_lt x (suc k)) ≡ mark (nat_lt x k) + mark (x == k)
    here (inl lt) = λ i. lemma (ap mark (lt-ltb x (suc k) (omega arith))) (ap mark (lt-ltb x k lt)) (ap mark (ne_eqb x k (λ e. omega arith))) i
      where
        lemma : mark (nat_lt x (suc k)) ≡ 1 → mark (nat_lt x k) ≡ 1 → mark (x == k) ≡ 0 → mark (nat_lt x (suc k)) ≡ mark (nat_lt x k) + mark (x == k)
        lemma a b c = omega arith
    here (inr ge) = ⊎_elim
        (λ lt. more (ap mark (le-ltb x (suc k) lt)) (ap mark (le-ltb x k ge)) (ap mark (ne_eqb x k (λ e. omega arith))))
        (λ le. let same : x ≡ k = omega arith in once (ap mark (lt-ltb x (suc k) (omega arith))) (ap mark (le-ltb x k ge)) (ap mark (eq-eqb x k same)))
        (cases_lt k x)
      where
        more : mark (nat_lt x (suc k)) ≡ 0 → mark (nat_lt x k) ≡ 0 → mark (x == k) ≡ 0 → mark (nat_lt x (suc k)) ≡ mark (nat_lt x k) + mark (x == k)
        more a b c = omega arith

        once : mark (nat_lt x (suc k)) ≡ 1 → mark (nat_lt x k) ≡ 0 → mark (x == k) ≡ 1 → mark (nat_lt x (suc k)) ≡ mark (nat_lt x k) + mark (x == k)
        once a b c = omega arith

-- where each below the bound stands once, there are as many as the bound says
count-below : (k : ℕ) (xs : List ℕ) → ((n : ℕ) → n < k → count_by (λ d. d == n) xs ≡ 1) → count_by (λ d. nat_lt d k) xs ≡ k
count-below zero xs once = nothing xs
  where
    nothing : (ys : List ℕ) → count_by (λ d. nat_lt d 0) ys ≡ 0
    nothing [] = refl
    nothing (y ∷ ys) = let a = count-cons (λ d. nat_lt d 0) y ys in let r = nothing ys in let none : one_if (nat_lt y 0) ≡ 0 = ap one_if (le-ltb y 0 (omega arith)) in omega arith
count-below (suc k) xs once = let a = count-below-more k xs in let b = count-below k xs (λ n h. once n (omega arith)) in let c = once k (omega arith) in omega arith

-- where all are counted, all pass
all-counted : {X : Type 0} (p : X → Bool) (xs : List X) → count_by p xs ≡ length xs → AllByRecursion (λ x. p x ≡ true) xs
all-counted p [] e = tt
all-counted {X} p (x ∷ xs) e = let a = count-cons p x xs in let b = count_by-le-length p xs in go (p x) refl (omega arith) (all-counted p xs)
  where
    go : (b : Bool) → p x ≡ b → cond b 1 0 + count_by p xs ≡ suc (length xs) → (count_by p xs ≡ length xs → AllByRecursion (λ y. p y ≡ true) xs) → AllByRecursion (λ y. p y ≡ true) (x ∷ xs)
    go true f h k = (f, k (omega arith))
    go false f h k = let b = count_by-le-length p xs in absurd (omega arith)

-- so all are below the bound where there are no more
pub all-below : (k : ℕ) (xs : List ℕ) → length xs ≡ k → ((n : ℕ) → n < k → count_by (λ d. d == n) xs ≡ 1) → AllByRecursion (λ d. d < k) xs
all-below k xs size once = all_weaker (λ d. nat_lt d k ≡ true) (λ d. d < k) (λ d h. ltb-true d k h) xs (all-counted (λ d. nat_lt d k) xs (count-below k xs once ∙ sym size))
