-- Labels, after DMLabel: sets of pairs of a point and a value, kept as lists by rising point and value.
use Rattle.std.specs.Prelude.{ℕ, Bool, ◌&&◌, ◌||◌, ◌==◌, if◌then◌else◌, nat_lt, int_lt, List, [], ◌∷◌, map, filter, flat_map, fold, ℤ}
use Rattle.std.specs.List.{list_any, enumerate_from}
use Rattle.std.specs.Ordering.{int_eq}
use Rattle.mesh_defs.specs.Tables.{dim_of}
use Rattle.mesh_defs.specs.Mesh.{Mesh, Mark}
use Rattle.mesh_defs.specs.Points.{Point, Sight, same_point, point_of, marked_point}

abbrev pub same_pair : ℕ × ℤ → ℕ × ℤ → Bool
same_pair a b = (a.0 == b.0) && int_eq a.1 b.1

abbrev pub comes_before : ℕ × ℤ → ℕ × ℤ → Bool
comes_before a b = nat_lt a.0 b.0 || ((a.0 == b.0) && int_lt a.1 b.1)

-- the point has the value
abbrev pub has_pair : List (ℕ × ℤ) → ℕ × ℤ → Bool
has_pair label pair = list_any (same_pair pair) label

-- the label with one more pair, or as it is where the pair is there
abbrev pub with_pair : List (ℕ × ℤ) → ℕ × ℤ → List (ℕ × ℤ)
with_pair [] pair = pair ∷ []
with_pair (a ∷ label) pair = if comes_before pair a then pair ∷ a ∷ label else if same_pair pair a then a ∷ label else a ∷ with_pair label pair

-- the label of these pairs
abbrev pub label_of : List (ℕ × ℤ) → List (ℕ × ℤ)
label_of pairs = fold with_pair [] pairs

-- the points with a value, and the values of a point, both rising
abbrev pub points_with : List (ℕ × ℤ) → ℤ → List ℕ
points_with label value = map (λ (a : ℕ × ℤ). a.0) (filter (λ (a : ℕ × ℤ). int_eq a.1 value) label)

abbrev pub values_at : List (ℕ × ℤ) → ℕ → List ℤ
values_at label p = map (λ (a : ℕ × ℤ). a.1) (filter (λ (a : ℕ × ℤ). a.0 == p) label)

-- ---- the labels of a mesh

-- the values that the marks of a mesh put on a point, by their order
abbrev pub marks_on : Mesh → Point → List ℤ
marks_on m p = map (λ (k : Mark). k.value) (filter (λ k. same_point p (marked_point k)) m.marks)

-- the label of one dimension on points that are numbered by their places
unfoldable pub mesh_label : Mesh → ℕ → List Sight → List (ℕ × ℤ)
mesh_label m dim points = label_of (flat_map (λ (s : ℕ × Sight). map (λ value. (s.0, value)) (marks_on m (point_of s.1))) (filter (λ (s : ℕ × Sight). dim_of s.1.poly == dim) (enumerate_from 0 points)))
