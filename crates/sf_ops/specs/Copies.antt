-- What a broadcast leaves.
use Rattle.std.specs.Prelude.{◌≡◌, ℕ, ◌==◌, if◌then◌else◌, List, [], ◌∷◌, get_or, Option, Some, None}
use Rattle.sf_defs.specs.declared.Leaf.{Leaf}
use Rattle.sf_defs.specs.Forest.{Forest, root_of}

-- the value of a root, or another one where there is no root
abbrev pub value_or : List (List ℕ) → ℕ → Option (ℕ × ℕ) → ℕ
value_or roots other None = other
value_or roots other (Some root) = get_or (get_or roots root.0 []) root.1 0

-- the place of each leaf has its root's value, every other place what it had
abbrev pub AreCopies : Forest → List (List ℕ) → List (List ℕ) → List (List ℕ) → Type 0
AreCopies f roots before after = (rank local : ℕ) → get_or (get_or after rank []) local 0 ≡ value_or roots (get_or (get_or before rank []) local 0) (root_of f rank local)

-- of values that these leaves are handed, the one for a local index, or another one where no leaf has it
abbrev pub handed : List Leaf → List ℕ → ℕ → ℕ → ℕ
handed [] got other local = other
handed (l ∷ ls) [] other local = other
handed (l ∷ ls) (g ∷ gs) other local = if l.local == local then g else handed ls gs other local
