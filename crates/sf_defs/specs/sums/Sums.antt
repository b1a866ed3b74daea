-- Words of the places of ranks, added up over the copies of a point. In a star forest of points each place is a root, and a leaf is a
-- copy of the point at its root.
use Rattle.std.specs.Prelude.{◌≡◌, ℕ, ◌+◌, ◌^◌, ◌<◌, List, [], length, map, filter, sum_by, get_or, unwrap_or}
use Rattle.std.specs.List.{enumerate_from}
use Rattle.sf_defs.specs.declared.Leaf.{Leaf}
use Rattle.sf_defs.specs.Forest.{Forest, is_on_root, root_of}

-- the word at a place of a rank
abbrev pub word_at : List (List ℕ) → ℕ → ℕ → ℕ
word_at words rank local = get_or (get_or words rank []) local 0

-- the root of a place: that of the leaf there, and where no leaf is the place itself
abbrev pub home : Forest → ℕ → ℕ → ℕ × ℕ
home f rank local = unwrap_or (root_of f rank local) (rank, local)

-- the sum of the words of the leaves of one rank on a root
abbrev pub own_sum : List (List ℕ) → ℕ × ℕ → ℕ × List Leaf → ℕ
own_sum words root r = sum_by (λ (l : Leaf). word_at words r.0 l.local) (filter (is_on_root root) r.1)

-- the sum of the words of a root and of all leaves on it
unfoldable pub sum_at : Forest → List (List ℕ) → ℕ × ℕ → ℕ
sum_at f words root = word_at words root.0 root.1 + sum_by (own_sum words root) (enumerate_from 0 f.leaves)

-- the sums are words
abbrev pub SumsFit : Forest → List (List ℕ) → Type 0
SumsFit f words = (rank index : ℕ) → sum_at f words (rank, index) < 2 ^ 64

-- each place has the sum over all copies of its point
pub record AreSums (f : Forest) (words sums : List (List ℕ)) : Type 0 where
  pub shape : map length sums ≡ map length words
  pub each : (rank local : ℕ) → local < length (get_or words rank []) → word_at sums rank local ≡ sum_at f words (home f rank local)
