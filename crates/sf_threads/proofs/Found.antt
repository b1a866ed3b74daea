-- What stands at a place of a list.
use Rattle.std.proofs.Common.{◌≡◌, ℕ, zero, suc, ◌<◌, List, [], ◌∷◌, length, get_or, sym, arith}
use mathlib.Core.Option.{some, some-injective, some-ne-none}
use lib.ListN.{get_elem?}

pub found-at : {A : Type 0} (l : List A) (i : ℕ) (a d : A) → get_elem? l i ≡ some a → get_or l i d ≡ a
found-at [] i a d e = absurd (some-ne-none a (sym e))
found-at (x ∷ xs) zero a d e = some-injective x a e
found-at (x ∷ xs) (suc i) a d e = found-at xs i a d e

pub found-within : {A : Type 0} (l : List A) (i : ℕ) (a : A) → get_elem? l i ≡ some a → i < length l
found-within [] i a e = absurd (some-ne-none a (sym e))
found-within (x ∷ xs) zero a e = omega arith
found-within (x ∷ xs) (suc i) a e = omega (arith, found-within xs i a e)
