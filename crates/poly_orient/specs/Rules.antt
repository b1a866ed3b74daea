-- The rules by which the orientations of the solids are numbered.
use Rattle.std.specs.Prelude.{◌≡◌, ℕ, ◌+◌, ◌%◌, ◌<◌, Bool, ◌==◌, nat_lt, List, [], ◌∷◌, length, get_or, count_by}
use Rattle.std.specs.List.{All}
use Rattle.std.specs.Ordering.{nat_cmp}
use Rattle.std.specs.List.Sorted.{IsStrictlySortedBy}
use Rattle.std.specs.Cmp.Lexicographic.{slice_cmp}
use Rattle.mesh_defs.specs.Orientation.{is_hex_edge}
use Rattle.poly_orient.specs.Group.{Differ}

-- the numbers from 0 to n - 1 in some order
pub record IsOrder (n : ℕ) (corners : List ℕ) : Type 0 where
  pub all : length corners ≡ n
  pub in_range : All (λ c. c < n) corners
  pub differ : Differ corners

-- the lists rise as words of a dictionary do
abbrev pub AreRising : List (List ℕ) → Type 0
AreRising lists = IsStrictlySortedBy (slice_cmp nat_cmp) lists

-- ---- the tetrahedron

-- how many pairs of entries stand with the greater one first
abbrev pub inversions : List ℕ → ℕ
inversions [] = 0
inversions (x ∷ xs) = count_by (λ y. nat_lt y x) xs + inversions xs

abbrev pub is_even : List ℕ → Bool
is_even corners = inversions corners % 2 == 0

-- ---- the hexahedron

-- the corners, listed so, carry the set of edges to itself
abbrev pub KeepsEdges : List ℕ → Type 0
KeepsEdges corners = (a b : ℕ) → a < 8 → b < 8 → is_hex_edge (get_or corners a 0) (get_or corners b 0) ≡ is_hex_edge a b
