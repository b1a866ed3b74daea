-- On one rank each cell is on rank 0.
use Rattle.std.proofs.Common.{◌≡◌, ℕ, ◌<◌, List, [], ◌∷◌, map, length, refl, sym, ap₂, ◌∙◌, arith}
use Rattle.std.specs.List.{AllByRecursion}
use Rattle.mesh_defs.specs.Mesh.{Mesh}
use Rattle.rank_defs.specs.Ranks.{IsRightAssignment}

zeros-are : {X : Type 0} (a : List ℕ) (xs : List X) → length a ≡ length xs → AllByRecursion (λ r. r < 1) a → a ≡ map (λ x. 0) xs
zeros-are [] [] n low = refl
zeros-are [] (x ∷ xs) n low = absurd (cc n)
zeros-are (r ∷ a) [] n low = absurd (cc n)
zeros-are (r ∷ a) (x ∷ xs) n low = let zero_first : r ≡ 0 = omega (arith, low.0) in ap₂ (λ h t. h ∷ t) zero_first (zeros-are a xs (omega (arith, n)) low.1)

-- there is one assignment to one rank
pub assigned-one : (m : Mesh) (a b : List ℕ) → IsRightAssignment m 1 a → IsRightAssignment m 1 b → a ≡ b
assigned-one m a b is other = zeros-are a m.cells is.each.count is.each.in_range ∙ sym (zeros-are b m.cells other.each.count other.each.in_range)
