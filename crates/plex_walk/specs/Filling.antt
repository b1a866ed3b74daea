-- How the supports of all points are counted and filled into one list. The number of point p stands at place p + 1.
use Rattle.std.specs.Prelude.{◌≡◌, ◌≢◌, ℕ, ◌+◌, ◌<◌, Bool, true, false, List, length, get_or, filter}
use Rattle.mesh_defs.specs.declared.ConeEntry.{ConeEntry}
use Rattle.plain_lists.specs.Lists.{below}
use Rattle.mesh_defs.specs.Diagram.{Diagram}
use Rattle.plex_defs.specs.Closure.{point_in, covers}

abbrev pub one_if : Bool → ℕ
one_if true = 1
one_if false = 0

-- the points below q whose cone has p
abbrev pub support_below : Diagram → ℕ → ℕ → List ℕ
support_below x p q = filter (λ r. covers (point_in x r).covers p) (below q)

-- how many points have p in their cones
abbrev pub support_size : Diagram → ℕ → ℕ
support_size x p = length (support_below x p (length x.points))

-- ---- counting

-- the number of each point that the cone has is one more
pub record IsCounted (cone : List ConeEntry) (old new : List ℕ) : Type 0 where
  pub size : length new ≡ length old
  pub first : get_or new 0 0 ≡ get_or old 0 0
  pub points : (p : ℕ) → p + 1 < length old → get_or new (p + 1) 0 ≡ get_or old (p + 1) 0 + one_if (covers cone p)

-- the number of each point is how many of the points below q have it in their cones
pub record AreSizes (x : Diagram) (q : ℕ) (counts : List ℕ) : Type 0 where
  pub size : length counts ≡ length x.points + 1
  pub first : get_or counts 0 0 ≡ 0
  pub points : (p : ℕ) → p < length x.points → get_or counts (p + 1) 0 ≡ length (support_below x p q)

-- each number is the sum of the old ones before it
pub record AreSums (old new : List ℕ) (total : ℕ) : Type 0 where
  pub size : length new ≡ length old
  pub first : get_or new 0 0 ≡ 0
  pub next : (j : ℕ) → j + 1 < length old → get_or new (j + 1) 0 ≡ get_or new j 0 + get_or old j 0
  pub last : (j : ℕ) → j + 1 ≡ length old → total ≡ get_or new j 0 + get_or old j 0

-- ---- filling

-- there is room for all supports, one after the other
pub record HasRoom (x : Diagram) (starts : List ℕ) (room : ℕ) : Type 0 where
  pub size : length starts ≡ length x.points + 1
  pub none : get_or starts 0 0 ≡ 0
  pub first : 0 < length x.points → get_or starts 1 0 ≡ 0
  pub next : (p : ℕ) → p + 1 < length x.points → get_or starts (p + 1 + 1) 0 ≡ get_or starts (p + 1) 0 + support_size x p
  pub last : (p : ℕ) → p + 1 ≡ length x.points → room ≡ get_or starts (p + 1) 0 + support_size x p

-- one more point may be put at the end of each support that the cone names
pub record CanPut (cone : List ConeEntry) (ends : List ℕ) (room : ℕ) : Type 0 where
  pub within : (p : ℕ) → covers cone p ≡ true → get_or ends (p + 1) 0 < room
  pub apart : (p r : ℕ) → covers cone p ≡ true → covers cone r ≡ true → p ≢ r → get_or ends (p + 1) 0 ≢ get_or ends (r + 1) 0

-- q is at the end of each support that the cone names
pub record IsPut (q : ℕ) (cone : List ConeEntry) (ends points new_ends new_points : List ℕ) : Type 0 where
  pub counted : IsCounted cone ends new_ends
  pub size : length new_points ≡ length points
  pub there : (p : ℕ) → covers cone p ≡ true → get_or new_points (get_or ends (p + 1) 0) 0 ≡ q
  pub kept : (i : ℕ) → ((p : ℕ) → covers cone p ≡ true → get_or ends (p + 1) 0 ≢ i) → get_or new_points i 0 ≡ get_or points i 0

-- each support is there as far as the points below q, from its start on
pub record IsFilled (x : Diagram) (q : ℕ) (starts : List ℕ) (room : ℕ) (ends points : List ℕ) : Type 0 where
  pub size : length ends ≡ length starts
  pub all : length points ≡ room
  pub first : get_or ends 0 0 ≡ get_or starts 0 0
  pub so_far : (p : ℕ) → p < length x.points → get_or ends (p + 1) 0 ≡ get_or starts (p + 1) 0 + length (support_below x p q)
  pub there : (p j : ℕ) → p < length x.points → j < length (support_below x p q) → get_or points (get_or starts (p + 1) 0 + j) 0 ≡ get_or (support_below x p q) j 0
