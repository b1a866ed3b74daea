-- Short arrays by their elements.
use Rattle.std.proofs.Common.{◌≡◌, ℕ, List, [], ◌∷◌, ◌++◌, length, get_or, take, refl, arith}

-- two elements
pub two-of : (l : List ℕ) → length l ≡ 2 → l ≡ get_or l 0 0 ∷ get_or l 1 0 ∷ []
two-of [] h = absurd (omega arith)
two-of (a ∷ []) h = absurd (omega arith)
two-of (a ∷ b ∷ []) h = refl
two-of (a ∷ b ∷ c ∷ l) h = absurd (omega arith)

-- four elements
pub four-of : (l : List ℕ) → length l ≡ 4 → l ≡ get_or l 0 0 ∷ get_or l 1 0 ∷ get_or l 2 0 ∷ get_or l 3 0 ∷ []
four-of [] h = absurd (omega arith)
four-of (a ∷ []) h = absurd (omega arith)
four-of (a ∷ b ∷ []) h = absurd (omega arith)
four-of (a ∷ b ∷ c ∷ []) h = absurd (omega arith)
four-of (a ∷ b ∷ c ∷ d ∷ []) h = refl
four-of (a ∷ b ∷ c ∷ d ∷ e ∷ l) h = absurd (omega arith)

-- three elements
pub three-of : (l : List ℕ) → length l ≡ 3 → l ≡ get_or l 0 0 ∷ get_or l 1 0 ∷ get_or l 2 0 ∷ []
three-of [] h = absurd (omega arith)
three-of (a ∷ []) h = absurd (omega arith)
three-of (a ∷ b ∷ []) h = absurd (omega arith)
three-of (a ∷ b ∷ c ∷ []) h = refl
three-of (a ∷ b ∷ c ∷ d ∷ l) h = absurd (omega arith)

-- three elements and the last one
pub three-and-last : (l : List ℕ) → length l ≡ 4 → l ≡ take 3 l ++ get_or l 3 0 ∷ []
three-and-last [] h = absurd (omega arith)
three-and-last (a ∷ []) h = absurd (omega arith)
three-and-last (a ∷ b ∷ []) h = absurd (omega arith)
three-and-last (a ∷ b ∷ c ∷ []) h = absurd (omega arith)
three-and-last (a ∷ b ∷ c ∷ d ∷ []) h = refl
three-and-last (a ∷ b ∷ c ∷ d ∷ e ∷ l) h = absurd (omega arith)
