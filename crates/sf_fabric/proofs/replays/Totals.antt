-- Sums over the numbers below one.
use Rattle.std.proofs.Common.{◌≡◌, ◌⊎◌, ℕ, zero, suc, ◌+◌, ◌<◌, ◌≤◌, Bool, true, false, cond, ◌==◌, List, [], ◌∷◌, length, refl, sym, ap, ◌∙◌, ⊎_elim, arith}
use Rattle.std.specs.Prelude.{filter}
use Rattle.std.specs.List.{AllByRecursion}
use Rattle.std.proofs.lemmas.Bool.{eqb-true, eq-eqb, ne_eqb, cases_lt}
use Rattle.sf_fabric.specs.replays.Right.{total}

-- equal numbers have equal sums
pub total-same : (f g : ℕ → ℕ) (n : ℕ) → ((k : ℕ) → k < n → f k ≡ g k) → total f n ≡ total g n
total-same f g zero h = refl
total-same f g (suc n) h = let last : f n ≡ g n = h n (omega arith) in let rest = total-same f g n (λ k lt. h k (omega arith)) in omega arith

-- no greater numbers have no greater sum
pub total-le : (f g : ℕ → ℕ) (n : ℕ) → ((k : ℕ) → k < n → f k ≤ g k) → total f n ≤ total g n
total-le f g zero h = omega arith
total-le f g (suc n) h = let last : f n ≤ g n = h n (omega arith) in let rest = total-le f g n (λ k lt. h k (omega arith)) in omega arith

-- and where the sums are equal, the numbers are
pub total-tight : (f g : ℕ → ℕ) (n : ℕ) → ((k : ℕ) → k < n → f k ≤ g k) → total f n ≡ total g n → (k : ℕ) → k < n → f k ≡ g k
total-tight f g zero h e k lt = absurd (omega arith)
total-tight f g (suc n) h e k lt =
    let last : f n ≤ g n = h n (omega arith) in
    let rest = total-le f g n (λ j less. h j (omega arith)) in
    let same : total f n ≡ total g n = omega arith in
    let here : f n ≡ g n = omega arith in
    ⊎_elim (λ below. total-tight f g n (λ j less. h j (omega arith)) same k below) (λ above. let at : k ≡ n = omega arith in ap f at ∙ here ∙ sym (ap g at)) (cases_lt k n)

-- a front of the numbers has no greater sum
pub total-front : (f : ℕ → ℕ) (m n : ℕ) → m ≤ n → total f m ≤ total f n
total-front f m zero h = let none : m ≡ 0 = omega arith in let same = ap (total f) none in omega arith
total-front f m (suc n) h = ⊎_elim (λ below. let rest = total-front f m n (omega arith) in omega arith) (λ above. let all : m ≡ suc n = omega arith in let same = ap (total f) all in omega arith) (cases_lt m (suc n))

total-sum : (f g : ℕ → ℕ) (n : ℕ) → total (λ k. f k + g k) n ≡ total f n + total g n
total-sum f g zero = refl
total-sum f g (suc n) = let rest = total-sum f g n in omega arith

total-nothing : (n : ℕ) → total (λ k. 0) n ≡ 0
total-nothing zero = refl
total-nothing (suc n) = let rest = total-nothing n in omega arith

-- rows and columns have one sum
pub total-turned : (f : ℕ → ℕ → ℕ) (m n : ℕ) → total (λ i. total (f i) n) m ≡ total (λ j. total (λ i. f i j) m) n
total-turned f zero n = sym (total-nothing n)
total-turned f (suc m) n = ap (λ t. t + total (f m) n) (total-turned f m n) ∙ sym (total-sum (λ j. total (λ i. f i j) m) (f m) n)

-- 1 where it is so
abbrev one : Bool → ℕ
one b = cond b 1 0

-- 1 at one number, 0 at all others
total-one : (x n : ℕ) → x < n → total (λ k. one (x == k)) n ≡ 1
total-one x zero h = absurd (omega arith)
total-one x (suc n) h = ⊎_elim
    (λ below. let here : one (x == n) ≡ 0 = ap one (ne_eqb x n (λ e. omega arith)) in let rest : total (λ k. one (x == k)) n ≡ 1 = total-one x n below in (λ i. rest i + here i))
    (λ above. let here : one (x == n) ≡ 1 = ap one (eq-eqb x n (omega arith)) in let rest : total (λ k. one (x == k)) n ≡ 0 = total-same (λ k. one (x == k)) (λ k. 0) n (λ k lt. ap one (ne_eqb x k (λ e. omega arith))) ∙ total-nothing n in (λ i. rest i + here i))
    (cases_lt x n)

length-cond : {X : Type 0} (b : Bool) (x : X) (xs : List X) → length (cond b (x ∷ xs) xs) ≡ one b + length xs
length-cond true x xs = omega arith
length-cond false x xs = omega arith

-- a list split by a number below n has its length
pub total-split : {X : Type 0} (key : X → ℕ) (xs : List X) (n : ℕ) → AllByRecursion (λ x. key x < n) xs → total (λ k. length (filter (λ x. key x == k) xs)) n ≡ length xs
total-split key [] n h = total-nothing n
total-split {X = X} key (x ∷ xs) n h =
    total-same (λ k. length (filter (λ y. key y == k) (x ∷ xs))) (λ k. one (key x == k) + length (filter (λ y. key y == k) xs)) n (λ k lt. length-cond (key x == k) x (filter (λ y. key y == k) xs))
    ∙ total-sum (λ k. one (key x == k)) (λ k. length (filter (λ y. key y == k) xs)) n
    ∙ (let one = total-one (key x) n h.0 in let rest = total-split key xs n h.1 in omega arith)
