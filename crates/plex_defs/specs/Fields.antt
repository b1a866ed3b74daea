-- Fields: words on points, laid out by sections, after PetscSection.
use Rattle.std.specs.Prelude.{◌≡◌, ℕ, ◌≤◌, ◌+◌, ◌-◌, ◌*◌, ◌/◌, ◌^◌, ◌==◌, if◌then◌else◌, List, [], ◌++◌, length, map, reverse, take, slice_index, slice_range, filter, find, sum, sum_by, ℤ, pos, negsuc, Option, Some, None, option_map, option_and_then, unwrap_or}
use Rattle.std.specs.List.{AllByRecursion}
use Rattle.mesh_defs.specs.declared.Place.{Place}
use Rattle.mesh_defs.specs.declared.Place.TheVariants.{Node, Element}
use Rattle.plain_lists.specs.Lists.{below}
use Rattle.mesh_defs.specs.Tables.{dim_of}
use Rattle.mesh_defs.specs.Mesh.{Mesh, Cell, Row, Section, placed_cells}
use Rattle.mesh_defs.specs.Points.{Point, Sight, point_of, contains}

-- ---- sections: how many words each point has

-- where the words of point p begin: after those of the points before it
abbrev pub offset : List ℕ → ℕ → ℕ
offset dofs p = sum (take p dofs)

-- the words of point p
unfoldable pub words_at : List ℕ → List ℕ → ℕ → List ℕ
words_at dofs words p = slice_range words (offset dofs p) (offset dofs p + slice_index dofs p)

-- a signed value as a word of 64 bits, its two's complement
abbrev pub word_of : ℤ → ℕ
word_of (pos n) = n
word_of (negsuc n) = 2 ^ 64 - 1 - n

-- ---- data sections

-- the values of the last row with this number; none where there is no such row
unfoldable pub row_values : Section → ℕ → Option (List ℤ)
row_values f number = option_map (λ (r : Row). r.values) (find (λ (r : Row). r.number == number) (reverse f.rows))

-- the number under which a data section names a point: the position of a vertex, or the place of a cell
abbrev pub number_on : Mesh → Place → Sight → Option ℕ
number_on m Node s = if dim_of s.poly == 0 then Some s.key else None
number_on m Element s = if dim_of s.poly == m.dim then Some (s.key / 64) else None

-- the words of a point in a data section
unfoldable pub data_words : Mesh → Section → Sight → List ℕ
data_words m f s = map word_of (unwrap_or (option_and_then (row_values f) (number_on m f.on s)) [])

-- ---- dofs: a formula that gives each point of a dimension as many words as its line says

-- the sum of c + 1 over the cells c that contain a point
abbrev pub weight : Mesh → Point → ℕ
weight m p = sum_by (λ (c : ℕ × Cell). c.0 + 1) (filter (λ (c : ℕ × Cell). contains c.1 p) (placed_cells m))

-- the counts of `dofs` lines: at most eight lines, each with four counts, of dimension 0 to 3, of at most 16
pub record AreRightDofs (dofs : List (List ℕ)) : Type 0 where
  pub few_lines : length dofs ≤ 8
  pub four_counts : AllByRecursion (λ (counts : List ℕ). length counts ≡ 4) dofs
  pub small_counts : AllByRecursion (AllByRecursion (λ n. n ≤ 16)) dofs

-- the words of a point, of which `counts` gives the number by dimension: word i is i + 1 times the weight
unfoldable pub dof_words : Mesh → List ℕ → Sight → List ℕ
dof_words m counts s = map (λ i. (i + 1) * weight m (point_of s)) (below (slice_index counts (dim_of s.poly)))

-- ---- all fields

-- the words that each point has in each field: the data sections in file order, and then the dofs by their lines
unfoldable pub fields : Mesh → List (List ℕ) → List Sight → List (List (List ℕ))
fields m dofs points = map (λ f. map (data_words m f) points) m.fields ++ map (λ counts. map (dof_words m counts) points) dofs
