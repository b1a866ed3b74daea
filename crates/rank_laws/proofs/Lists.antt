-- The least of the ranks that hold something.
use Rattle.std.proofs.Common.{◌≡◌, ℕ, ◌≤◌, true, ◌==◌, List, [], ◌∷◌, Some, ap}
use Rattle.std.specs.List.{list_any, AllByRecursion}
use Rattle.plain_lists.proofs.Least.{least-is}
use Rattle.rank_defs.specs.Ranks.{least}

-- a number among some below which there is none is the least
pub least-some : (k : ℕ) (xs : List ℕ) → list_any (λ y. y == k) xs ≡ true → AllByRecursion (λ y. k ≤ y) xs → least xs ≡ Some k
least-some k [] h b = absurd (cc h)
least-some k (x ∷ xs) h b = ap Some (least-is k x xs h b)
