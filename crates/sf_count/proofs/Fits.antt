-- Leaves of four ranks whose local indices are below one number.
use Rattle.std.proofs.Common.{ℕ, zero, suc, ◌<◌, List, [], ◌∷◌, get_or, slice_index}
use Rattle.std.specs.List.{AllByRecursion}
use Rattle.sf_defs.specs.declared.Leaf.{Leaf}

pub four-fit : (n : ℕ) (a b c d : List Leaf) → AllByRecursion (λ (l : Leaf). l.local < n) a → AllByRecursion (λ (l : Leaf). l.local < n) b → AllByRecursion (λ (l : Leaf). l.local < n) c → AllByRecursion (λ (l : Leaf). l.local < n) d → (rank : ℕ) → AllByRecursion (λ (l : Leaf). l.local < slice_index (n ∷ n ∷ n ∷ n ∷ []) rank) (get_or (a ∷ b ∷ c ∷ d ∷ []) rank [])
four-fit n a b c d p q r s zero = p
four-fit n a b c d p q r s (suc zero) = q
four-fit n a b c d p q r s (suc (suc zero)) = r
four-fit n a b c d p q r s (suc (suc (suc zero))) = s
four-fit n a b c d p q r s (suc (suc (suc (suc rank)))) = tt
