-- A whole data section by its pieces.
use Rattle.std.proofs.Common.{◌≡◌, ◌≢◌, ℕ, ◌-◌, List, [], Ok, Err, sym, ap, ◌∙◌}
use Rattle.input_defs.specs.scan_defs.Items.{Spot}
use Rattle.input_defs.specs.scan_defs.Numbers.{int_of}
use Rattle.mesh_defs.specs.declared.Place.{Place}
use Rattle.mesh_defs.specs.Mesh.{Section}
use Rattle.input_defs.specs.declared.DataFault.{DataFault}
use Rattle.input_defs.specs.declared.DataFault.TheVariants.{BadCount, NoMemory}
use Rattle.input_defs.specs.Bodies.{Reader, give, ◌>>=◌, many, tested, uint, int, quoted}
use Rattle.input_defs.specs.DataSections.{faults_at, real, comps_on, rows_on, row, section, section_of}
use Rattle.input_laws.specs.reading_laws.Lexemes.{lexemes, beyond, end_line}
use Rattle.input_laws.specs.reading_laws.Going.{passed, first_of, end_of_body, closed, Goes}
use Rattle.input_laws.proofs.reading_laws.Readers.{bind-same, bind-assoc, bind-pull, first-used, passed-used, whole-ok, whole-err}
use Rattle.msh_data.specs.declared.head.Shape.{Shape}
use Rattle.msh_data.specs.Pieces.{field_name, reals, int_count, shape}

abbrev rows_part : Place → List ℕ → List ℕ → Shape → Reader DataFault Section
rows_part on known name s = many s.rows (row known s.comps) >>= (λ rows. give (record { on = on; name = name; comps = s.comps; rows = rows }))

abbrev tags_part : Place → List ℕ → List ℕ → Reader DataFault Section
tags_part on known name = do
  count ← int_count
  step ← int
  comps ← tested int_of comps_on
  rows ← tested int_of rows_on
  further ← many (count - 3) int
  rows_part on known name (record { comps = comps; rows = rows })

abbrev reals_part : Place → List ℕ → List ℕ → Reader DataFault Section
reals_part on known name = do
  count ← uint
  tags ← many count real
  tags_part on known name

tags-shape : (on : Place) (known name : List ℕ) → tags_part on known name ≡ (shape >>= rows_part on known name)
unfolding shape
tags-shape on known name =
    bind-pull int_count _ (rows_part on known name) (λ count.
    bind-pull int _ (rows_part on known name) (λ step.
    bind-pull (tested int_of comps_on) _ (rows_part on known name) (λ comps.
    bind-pull (tested int_of rows_on) _ (rows_part on known name) (λ rows.
    passed-used (many (count - 3) int) (rows_part on known name (record { comps = comps; rows = rows }))
    ∙ sym (bind-assoc (passed (many (count - 3) int)) (λ _. give (record { comps = comps; rows = rows })) (rows_part on known name))))))

reals-tags : (on : Place) (known name : List ℕ) → reals_part on known name ≡ (reals >>= (λ _. shape >>= rows_part on known name))
unfolding reals
reals-tags on known name =
    bind-pull uint (λ count. passed (many count real)) (λ _. shape >>= rows_part on known name) (λ count.
    passed-used (many count real) (tags_part on known name)
    ∙ bind-same (passed (many count real)) (λ _. tags-shape on known name))

-- a section by its pieces
section-pieces : (on : Place) (known : List ℕ) → section on known ≡ (field_name >>= (λ name. reals >>= (λ _. shape >>= rows_part on known name)))
unfolding section field_name
section-pieces on known =
    bind-pull uint (λ count. first_of [] count quoted) (λ name. reals >>= (λ _. shape >>= rows_part on known name)) (λ count.
    first-used [] quoted count (reals_part on known)
    ∙ bind-same (first_of [] count quoted) (λ name. reals-tags on known name))

-- a whole section, as it is read
abbrev pub read_parts : Place → List ℕ → Reader DataFault Section
read_parts on known = do
  name ← field_name
  tags ← reals
  s ← shape
  rows ← many s.rows (row known s.comps)
  end ← end_of_body BadCount
  give (record { on = on; name = name; comps = s.comps; rows = rows })

abbrev closing : Section → Reader DataFault Section
closing section = end_of_body BadCount >>= (λ _. give section)

closed-parts : (on : Place) (known : List ℕ) → closed BadCount (section on known) ≡ read_parts on known
closed-parts on known =
    ap (λ (r : Reader DataFault Section). r >>= closing) (section-pieces on known)
    ∙ bind-assoc field_name (λ name. reals >>= (λ _. shape >>= rows_part on known name)) closing
    ∙ bind-same field_name (λ name.
    bind-assoc reals (λ _. shape >>= rows_part on known name) closing
    ∙ bind-same reals (λ _.
    bind-assoc shape (rows_part on known name) closing
    ∙ bind-same shape (λ s. bind-assoc (many s.rows (row known s.comps)) (λ rows. give (record { on = on; name = name; comps = s.comps; rows = rows })) closing)))

-- ---- the answer of a call that reads the pieces

pub section-read : (on : Place) (known : List ℕ) {old new : Spot} (x : Section) → Goes (read_parts on known) old (Ok x) new → section_of on known (end_line (beyond old)) (lexemes old) ≡ Ok x
unfolding section_of
section-read on known {old = old} x first =
    whole-ok BadCount (section on known) (faults_at (end_line (beyond old))) (lexemes old) _ x (ap (λ (r : Reader DataFault Section). r (faults_at (end_line (beyond old))) (lexemes old)) (closed-parts on known) ∙ first.reads)

pub section-fault : (on : Place) (known : List ℕ) {old new : Spot} {e : DataFault} → Goes (read_parts on known) old (Err e) new → e ≢ NoMemory → section_of on known (end_line (beyond old)) (lexemes old) ≡ Err e
unfolding section_of
section-fault on known {old = old} {e = e} first ne =
    whole-err BadCount (section on known) (faults_at (end_line (beyond old))) (lexemes old) e (ap (λ (r : Reader DataFault Section). r (faults_at (end_line (beyond old))) (lexemes old)) (closed-parts on known) ∙ first.reads ne)
