-- Tables and rows, one after another.
use Rattle.std.proofs.Common.{◌≡◌, ℕ, zero, suc, ◌+◌, ◌-◌, ◌<◌, ◌≤◌, ℤ, List, [], ◌∷◌, ◌++◌, length, map, get_or, take, Option, Some, None, refl, sym, ap, ap₂, ◌∙◌, subst, arith}
use Rattle.std.specs.Prelude.{slice_index}
use Rattle.std.specs.List.{slice_get, AllByRecursion}
use Rattle.std.proofs.lemmas.Option.{slice_get_within, get_or_from_slice_get}
use Rattle.std.proofs.lemmas.List.{take_more, map-append, map_more}
use Rattle.plain_lists.proofs.Each.{all_at}
use Rattle.mesh_defs.specs.declared.Place.{Place}
use Rattle.mesh_defs.specs.declared.Place.TheVariants.{Node, Element}
use Rattle.mesh_defs.specs.Mesh.{Mesh, Row, Section}
use Rattle.mesh_defs.specs.RightMesh.{IsRightRow, IsRightSection, count_on}
use Rattle.plain_lists.proofs.Each.{all_weaker}
use Rattle.plex_defs.specs.Fields.{row_values}
use Rattle.dist_state.specs.scatter_state.Parts.{given_row, given_rows}
use Rattle.dist_seed.specs.declared.section_rows.tables.RowTable.{RowTable}
use Rattle.dist_seed.specs.section_rows.Last.{last_values, values_by, HasLastRows, AreTablesOf, numbers_on}
use Rattle.dist_seed.proofs.section_rows.LastRows.{no_row}

-- the last values are those of the definition
pub last-values : (f : Section) (n : ℕ) → last_values f.rows n ≡ row_values f n
unfolding last_values row_values
last-values f n = refl

-- ---- tables

-- one section more
pub tables-push : (m : Mesh) (fields : List Section) (tables : List RowTable) (f : Section) (table : RowTable) → AreTablesOf m fields tables → HasLastRows f.rows (count_on m f.on) table.places.items → AreTablesOf m (fields ++ f ∷ []) (tables ++ table ∷ [])
tables-push m [] [] f table all h = (h, tt)
tables-push m [] (t ∷ tables) f table all h = absurd all
tables-push m (g ∷ fields) [] f table all h = absurd all
tables-push m (g ∷ fields) (t ∷ tables) f table all h = (all.0, tables-push m fields tables f table all.1 h)

pub tables-more : (m : Mesh) (fields : List Section) (i : ℕ) (tables : List RowTable) (f : Section) (table : RowTable) → slice_get fields i ≡ Some f → AreTablesOf m (take i fields) tables → HasLastRows f.rows (count_on m f.on) table.places.items → AreTablesOf m (take (i + 1) fields) (tables ++ table ∷ [])
tables-more m fields i tables f table e all h =
    let next : take i fields ++ f ∷ [] ≡ take (i + 1) fields = ap (λ (x : Section). take i fields ++ x ∷ []) (sym (get_or_from_slice_get fields i f f e)) ∙ sym (take_more fields i f (slice_get_within fields i f e)) in
    subst (λ l. AreTablesOf m l (tables ++ table ∷ [])) next (tables-push m (take i fields) tables f table all h)

pub length-tables : (m : Mesh) (fields : List Section) (tables : List RowTable) → AreTablesOf m fields tables → length tables ≡ length fields
length-tables m [] [] all = refl
length-tables m [] (t ∷ tables) all = absurd all
length-tables m (g ∷ fields) [] all = absurd all
length-tables m (g ∷ fields) (t ∷ tables) all = ap suc (length-tables m fields tables all.1)

pub table-at : (m : Mesh) (fields : List Section) (tables : List RowTable) (i : ℕ) (f : Section) (table : RowTable) → AreTablesOf m fields tables → slice_get fields i ≡ Some f → table ≡ get_or tables i table → HasLastRows f.rows (count_on m f.on) table.places.items
table-at m [] tables i f table all e is = absurd (cc e)
table-at m (g ∷ fields) [] i f table all e is = absurd all
table-at m (g ∷ fields) (t ∷ tables) zero f table all e is =
    let same : g ≡ f = cc e in coe 0 1 (k. HasLastRows (same k).rows (count_on m (same k).on) (sym is k).places.items) all.0
table-at m (g ∷ fields) (t ∷ tables) (suc i) f table all e is = table-at m fields tables i f table all.1 e is

-- the numbers of a right section's rows are below what it is on
pub numbers-right : (m : Mesh) (i : ℕ) (f : Section) → AllByRecursion (IsRightSection m) m.fields → slice_get m.fields i ≡ Some f → AllByRecursion (λ (row : Row). row.number < count_on m f.on) f.rows
numbers-right m i f all e = all_weaker (IsRightRow m f) (λ (row : Row). row.number < count_on m f.on) (λ row right. right.number) f.rows
    (subst (λ (g : Section). AllByRecursion (IsRightRow m g) g.rows) (get_or_from_slice_get m.fields i f f e) (all_at (IsRightSection m) m.fields i f all (slice_get_within m.fields i f e)).rows)

-- ---- rows

-- values are a row
pub row-there : (rows : List Row) (place : ℕ) (r : Row) → 0 < place → slice_get rows (place - 1) ≡ Some r → 1 ≤ length r.values → given_row r.values ≡ values_by rows place
row-there rows zero r some e one = absurd (omega (arith, some))
row-there rows (suc i) r some e one = present r.values one ∙ ap (λ (s : Row). Some s.values) (sym (get_or_from_slice_get rows i r no_row (ap (slice_get rows) (let forth : i ≡ suc i - 1 = omega arith in forth) ∙ e)))
  where
    present : (vs : List ℤ) → 1 ≤ length vs → given_row vs ≡ Some vs
    present [] one = absurd (omega (arith, one))
    present (v ∷ vs) one = refl

-- one row more
pub given-push : (old new : List (List ℤ)) (values : List ℤ) (row : Option (List ℤ)) → new ≡ old ++ values ∷ [] → given_row values ≡ row → given_rows new ≡ given_rows old ++ row ∷ []
given-push old new values row is same = ap given_rows is ∙ map-append given_row old (values ∷ []) ∙ ap (λ r. given_rows old ++ r ∷ []) same

pub given-none : (rows : List Row) (place : ℕ) → place ≡ 0 → given_row [] ≡ values_by rows place
given-none rows place is = ap (values_by rows) (sym is)

-- the numbers by which sections name these are low
pub numbers-low : (m : Mesh) (on : Place) (cells vertices : List ℕ) → AllByRecursion (λ c. c < length m.cells) cells → AllByRecursion (λ v. v < length m.at) vertices → AllByRecursion (λ n. n < count_on m on) (numbers_on on cells vertices)
numbers-low m Node cells vertices low_cells low_vertices = low_vertices
numbers-low m Element cells vertices low_cells low_vertices = low_cells

-- one section more
pub rows-more : (g : Section → List (Option (List ℤ))) (fields : List Section) (i : ℕ) (f : Section) (all : List (List (List ℤ))) (new : List (List ℤ)) → slice_get fields i ≡ Some f → map given_rows all ≡ map g (take i fields) → given_rows new ≡ g f
    → map given_rows (all ++ new ∷ []) ≡ map g (take (i + 1) fields)
rows-more g fields i f all new e before is =
    map-append given_rows all (new ∷ [])
    ∙ ap₂ (λ xs x. xs ++ x ∷ []) before (is ∙ ap g (sym (get_or_from_slice_get fields i f f e)))
    ∙ sym (map_more g fields i f (slice_get_within fields i f e))

-- the rows of numbers are those of the definition
pub rows-defined : (f : Section) (numbers : List ℕ) → map (last_values f.rows) numbers ≡ map (row_values f) numbers
rows-defined f numbers = ap (λ g. map g numbers) (λ i n. last-values f n i)

-- one number more
pub numbers-more : (rows : List Row) (size : ℕ) (table : List ℕ) (old new : List (List ℤ)) (numbers : List ℕ) (k n place : ℕ) → HasLastRows rows size table → k < length numbers → n ≡ get_or numbers k 0 → n < size → place ≡ slice_index table n
    → given_rows old ≡ map (last_values rows) (take k numbers) → given_rows new ≡ given_rows old ++ values_by rows place ∷ [] → given_rows new ≡ map (last_values rows) (take (k + 1) numbers)
numbers-more rows size table old new numbers k n place h low is within at before pushed =
    pushed
    ∙ ap₂ (λ xs x. xs ++ x ∷ []) before (ap (values_by rows) at ∙ h.last n within ∙ ap (last_values rows) is)
    ∙ sym (map_more (last_values rows) numbers k 0 low)
