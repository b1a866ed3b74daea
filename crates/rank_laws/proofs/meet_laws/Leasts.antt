-- The least of some numbers.
use Rattle.std.proofs.Common.{◌≡◌, ℕ, ◌≤◌, min, true, ◌==◌, List, fold, subst, ⊎_elim, arith}
use Rattle.std.specs.List.{list_any, AllByRecursion}
use Rattle.std.proofs.lemmas.Bool.{eqb-true, or_left, or_right, or_cases}
use Rattle.plain_lists.proofs.Each.{all_weaker}
use Rattle.plain_lists.proofs.Finding.{among}
use Rattle.plain_lists.proofs.Least.{least-among, least-bound, least-is}

-- numbers that each stand among others
abbrev pub StandIn : List ℕ → List ℕ → Type 0
StandIn xs ys = AllByRecursion (λ x. list_any (λ y. y == x) ys ≡ true) xs

-- what is among some numbers is among those in which they stand
stands-on : (n : ℕ) (xs ys : List ℕ) → StandIn xs ys → list_any (λ y. y == n) xs ≡ true → list_any (λ y. y == n) ys ≡ true
stands-on n xs ys all h = let (x, there, same) = among (λ x. list_any (λ y. y == x) ys ≡ true) (λ y. y == n) xs all h in subst (λ k. list_any (λ y. y == k) ys ≡ true) (eqb-true x n same) there

-- the bound of some numbers bounds each among them
bounded : (n : ℕ) (xs ys : List ℕ) → StandIn xs ys → AllByRecursion (λ y. n ≤ y) ys → AllByRecursion (λ x. n ≤ x) xs
bounded n xs ys all low = all_weaker (λ x. list_any (λ y. y == x) ys ≡ true) (λ x. n ≤ x) (λ x h. let (y, bound, same) = among (λ y. n ≤ y) (λ y. y == x) ys low h in let e = eqb-true y x same in omega arith) xs all

-- the least is the same of numbers that stand among each other
pub least-same : (a : ℕ) (xs ys : List ℕ) → StandIn xs ys → StandIn ys xs → fold min a xs ≡ fold min a ys
least-same a xs ys there back = let low = least-bound a ys in least-is F a xs
    (⊎_elim (λ h. or_left (a == F) (list_any (λ y. y == F) xs) h)
    (λ h. or_right (a == F) (list_any (λ y. y == F) xs) (stands-on F ys xs back h))
    (or_cases (a == F) (list_any (λ y. y == F) ys) (least-among a ys)))
    (low.0, bounded F xs ys there low.1)
  where
    F : ℕ
    F = fold min a ys
