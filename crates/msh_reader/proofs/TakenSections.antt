-- A section that is taken over, from the reader of its body.
use Rattle.std.proofs.Common.{◌≡◌, ◌≢◌, ℕ, zero, suc, ◌-◌, ◌∷◌, ◌++◌, [], List, take, Bool, Ok, Err, refl, sym, ap, ◌∙◌, ◌≤◌, length, pos, arith}
use Rattle.std.specs.Prelude.{Result, Some, is_some, not, get_or, nat_le, if◌then◌else◌}
use Rattle.std.specs.List.{slice_get}
use Rattle.input_defs.specs.scan_defs.Items.{Spot}
use Rattle.input_defs.specs.scan_defs.Numbers.{uint_of, int_of}
use Rattle.mesh_defs.specs.declared.Place.{Place}
use Rattle.mesh_defs.specs.Mesh.{Section}
use Rattle.input_defs.specs.Content.{Element}
use Rattle.input_defs.specs.declared.DataFault.{DataFault}
use Rattle.input_defs.specs.declared.DataFault.TheVariants as data_fault
use Rattle.input_defs.specs.declared.What.TheVariants as what
use Rattle.input_defs.specs.declared.MshFault.{MshFault}
use Rattle.input_defs.specs.declared.MshFault.TheVariants.{BadCount, ElementType, UnknownNode, RepeatedNode}
use Rattle.input_defs.specs.Causes.{map_ok, ok_where}
use Rattle.input_defs.specs.Bodies.{Lexeme, Reader, give, ◌>>=◌, many, tested, uint, int, fixed, quoted, whole}
use Rattle.input_defs.specs.Sections.{faults_of, has_number, count, poly_of_type, corners_of_type, corner, corners_after, element, elements}
use Rattle.input_defs.specs.DataSections.{faults_at, real, comps_on, rows_on, row, section, section_of}
use Rattle.input_defs.specs.Files.{of_data}
use Rattle.input_laws.specs.reading_laws.Lexemes.{lexemes, beyond, end_line}
use Rattle.input_laws.specs.reading_laws.Going.{closed}
use Rattle.input_laws.proofs.reading_laws.Readers.{bind-same, whole-ok, whole-err}
use Rattle.msh_reader.specs.declared.trouble.Trouble.{Trouble}
use Rattle.msh_reader.specs.Going.{trouble_of, fault_where, no_memory, Goes}
use Rattle.msh_reader.specs.Taking.{ReadsField, TakesField}
use Rattle.msh_reader.specs.Views.{element_numbers}
use Rattle.msh_reader.proofs.NumberSets.{tested-same}
use Rattle.msh_reader.proofs.Earlier.{SameNumbers}

-- ---- a whole body

pub taken-ok : {A P : Type 0} (r : Reader MshFault A) (f : A → P) {old new : Spot} {x : A} → Goes (closed BadCount r) old (Ok x) new → (ended : MshFault) → map_ok f (whole BadCount r (faults_of ended) (lexemes old)) ≡ Ok (f x)
taken-ok r f {old = old} {new = new} {x = x} first ended = ap (map_ok f) (whole-ok BadCount r (faults_of ended) (lexemes old) (lexemes new) x (first.reads ended))

pub taken-err : {A P : Type 0} (r : Reader MshFault A) (f : A → P) {old new : Spot} {t : Trouble} → Goes (closed BadCount r) old (Err t) new → t ≢ no_memory → (ended : MshFault) → map_ok f (whole BadCount r (faults_of ended) (lexemes old)) ≡ Err (fault_where ended t)
taken-err r f {old = old} {t = t} first ne ended = ap (map_ok f) (whole-err BadCount r (faults_of ended) (lexemes old) (fault_where ended t) (first.reads ne ended))

-- ---- known nodes

corners-known : (a b : List ℕ) → SameNumbers a b → (earlier : List ℕ) (n : ℕ) → corners_after a earlier n ≡ corners_after b earlier n
corners-known a b each earlier zero = refl
corners-known a b each earlier (suc n) =
    ap (λ (r : Reader MshFault ℕ). r >>= (λ x. corners_after a (x ∷ earlier) n >>= (λ xs. give (x ∷ xs))))
    (tested-same (λ (has : ℕ → Bool). tested uint_of (λ line m. if has m then ok_where (not (has_number earlier m)) m (RepeatedNode line m) else Err (UnknownNode line m))) a b each)
    ∙ bind-same (corner b earlier) (λ x. ap (λ (r : Reader MshFault (List ℕ)). r >>= (λ xs. give (x ∷ xs))) (corners-known a b each (x ∷ earlier) n))

element-known : (a b : List ℕ) → SameNumbers a b → element a ≡ element b
unfolding element
element-known a b each =
    bind-same uint (λ number. bind-same (tested uint_of (λ line n. ok_where (is_some (poly_of_type n)) n (ElementType line n))) (λ kind. bind-same uint (λ tag_count. bind-same (many tag_count int) (λ tags.
    ap (λ (r : Reader MshFault (List ℕ)). r >>= (λ corners. give (record { number = number; kind = kind; physical = get_or tags 0 (pos 0); nodes = corners }))) (corners-known a b each [] (corners_of_type kind))))))

pub elements-known : (a b : List ℕ) → SameNumbers a b → elements a ≡ elements b
unfolding elements
elements-known a b each = bind-same (count 1000000 what.Elements) (λ n. ap (many n) (element-known a b each))

-- ---- data sections

abbrev section_by : Place → (ℕ → Bool) → Reader DataFault Section
section_by on has = do
  string_count ← uint
  strings ← many string_count quoted
  real_count ← uint
  reals ← many real_count real
  int_count ← tested uint_of (λ line n. ok_where (nat_le 3 n) n (data_fault.BadCount line))
  step ← int
  comps ← tested int_of comps_on
  row_count ← tested int_of rows_on
  further ← many (int_count - 3) int
  rows ← many row_count (tested uint_of (λ line n. ok_where (has n) n (data_fault.UnknownNumber line n)) >>= (λ number. many comps fixed >>= (λ values. give (record { number = number; values = values }))))
  give (record { on = on; name = get_or strings 0 []; comps = comps; rows = rows })

pub section-known : (on : Place) (a b : List ℕ) (end : ℕ) (body : List Lexeme) → SameNumbers a b → section_of on a end body ≡ section_of on b end body
unfolding section_of section row
section-known on a b end body each = tested-same (λ (has : ℕ → Bool). whole data_fault.BadCount (section_by on has) (faults_at end) body) a b each

-- a fault of a data section is trouble of the file
pub data-err : {A : Type 0} (ended : MshFault) (e : DataFault) → of_data {A = A} ended (Err e) ≡ Err (fault_where ended (trouble_of e))
data-err ended (data_fault.BadNumber line) = refl
data-err ended (data_fault.BadCount line) = refl
data-err ended (data_fault.BadName line) = refl
data-err ended (data_fault.Components line got) = refl
data-err ended (data_fault.UnknownNumber line number) = refl
data-err ended (data_fault.OutOfRange line) = refl
data-err ended (data_fault.Ended line) = refl
data-err ended data_fault.NoMemory = refl

-- the same numbers are known
reads-known : (on : Place) (a b : List ℕ) (old : Spot) (answer : Result Section Trouble) → SameNumbers a b → ReadsField on a old answer → ReadsField on b old answer
reads-known on a b old (Ok x) each first = λ ended. ap (of_data ended) (sym (section-known on a b (end_line (beyond old)) (lexemes old) each)) ∙ first ended
reads-known on a b old (Err t) each first = λ ne ended. ap (of_data ended) (sym (section-known on a b (end_line (beyond old)) (lexemes old) each)) ∙ first ne ended

pub field-known : {on : Place} (a b : List ℕ) {old new : Spot} {answer : Result Section Trouble} → SameNumbers a b → TakesField on a old answer new → TakesField on b old answer new
field-known {on = on} a b {old = old} {answer = answer} each first = record { stays = first.stays; reads = reads-known on a b old answer each first.reads }

-- ---- the numbers of the elements up to a place

pub take-get : {A : Type 0} (xs : List A) (i : ℕ) (x : A) → slice_get xs i ≡ Some x → take (suc i) xs ≡ take i xs ++ x ∷ []
take-get [] i x is = absurd (cc is)
take-get (y ∷ xs) zero x is = let same : y ≡ x = cc is in ap (λ z. z ∷ []) same
take-get (y ∷ xs) (suc i) x is = ap (λ ys. y ∷ ys) (take-get xs i x is)

pub numbers-more : (es : List Element) (e : Element) → element_numbers (es ++ e ∷ []) ≡ element_numbers es ++ e.number ∷ []
numbers-more [] e = refl
numbers-more (x ∷ es) e = ap (λ ns. x.number ∷ ns) (numbers-more es e)

pub take-past : {A : Type 0} (xs : List A) (i : ℕ) → length xs ≤ i → take i xs ≡ xs
take-past [] zero past = refl
take-past [] (suc i) past = refl
take-past (x ∷ xs) zero past = absurd (omega arith)
take-past (x ∷ xs) (suc i) past = ap (λ ys. x ∷ ys) (take-past xs i (omega arith))
