-- The least of some numbers.
use Rattle.std.proofs.Common.{◌≡◌, ℕ, ◌<◌, ◌≤◌, min, true, false, ◌==◌, List, [], ◌∷◌, fold, refl, ⊎_elim, arith}
use Rattle.std.specs.List.{list_any, AllByRecursion}
use Rattle.std.proofs.lemmas.Bool.{eq-eqb, eqb-true, cases_lt, or_left, or_right, or_cases}

-- the least number is one of them
pub least-among : (x : ℕ) (xs : List ℕ) → list_any (λ y. y == fold min x xs) (x ∷ xs) ≡ true
least-among x [] = or_left (x == x) false (eq-eqb x x refl)
least-among x (y ∷ ys) = ⊎_elim
    (λ h. ⊎_elim
    (λ (le : x < y). or_left (x == F) (list_any (λ z. z == F) (y ∷ ys)) (let e = eqb-true (min x y) F h in eq-eqb x F (omega arith)))
    (λ (le : y ≤ x). or_right (x == F) (list_any (λ z. z == F) (y ∷ ys)) (or_left (y == F) (list_any (λ z. z == F) ys) (let e = eqb-true (min x y) F h in eq-eqb y F (omega arith))))
    (cases_lt x y))
    (λ h. or_right (x == F) (list_any (λ z. z == F) (y ∷ ys)) (or_right (y == F) (list_any (λ z. z == F) ys) h))
    (or_cases (min x y == F) (list_any (λ z. z == F) ys) (least-among (min x y) ys))
  where
    F : ℕ
    F = fold min (min x y) ys

-- a number among them below which there is none is the least
pub least-is : (k x : ℕ) (xs : List ℕ) → list_any (λ y. y == k) (x ∷ xs) ≡ true → AllByRecursion (λ y. k ≤ y) (x ∷ xs) → fold min x xs ≡ k
least-is k x [] h b = ⊎_elim (λ a. eqb-true x k a) (λ a. absurd (cc a)) (or_cases (x == k) false h)
least-is k x (y ∷ ys) h b = least-is k (min x y) ys
    (⊎_elim (λ a. let e = eqb-true x k a in or_left (min x y == k) (list_any (λ z. z == k) ys) (eq-eqb (min x y) k (omega (arith, b.1.0))))
    (λ a. ⊎_elim (λ c. let e = eqb-true y k c in or_left (min x y == k) (list_any (λ z. z == k) ys) (eq-eqb (min x y) k (omega (arith, b.0))))
    (λ c. or_right (min x y == k) (list_any (λ z. z == k) ys) c)
    (or_cases (y == k) (list_any (λ z. z == k) ys) a))
    (or_cases (x == k) (list_any (λ z. z == k) (y ∷ ys)) h))
    (omega (arith, b.0, b.1.0), b.1.1)

-- no number is below the least
pub least-bound : (x : ℕ) (xs : List ℕ) → AllByRecursion (λ y. fold min x xs ≤ y) (x ∷ xs)
least-bound x [] = (omega arith, tt)
least-bound x (y ∷ ys) = let rest = least-bound (min x y) ys in (omega (arith, rest.0), (omega (arith, rest.0), rest.1))
