-- Rows in flat lists are rows.
use Rattle.std.proofs.Common.{◌≡◌, ℕ, zero, suc, ◌*◌, List, [], ◌∷◌, ◌++◌, map, take, drop, length, ℤ, Ok, Err, refl, sym, ap, ap₂, subst, ◌∙◌, append_assoc, arith}
use Rattle.std.specs.Prelude.{Result, flat_map}
use Rattle.std.specs.List.{AllByRecursion}
use Rattle.std.proofs.lemmas.List.{append-nil, length-append}
use Rattle.std.proofs.Math.Seq.{take-append_seam, drop-append_seam}
use Rattle.std.proofs.Math.Nat.{zero-mul, suc-mul}
use Rattle.input_defs.specs.scan_defs.Items.{Spot}
use Rattle.mesh_defs.specs.Mesh.{Row}
use Rattle.input_defs.specs.declared.DataFault.{DataFault}
use Rattle.input_defs.specs.Bodies.{Lexeme, Faults, Reader, give, read_on, ◌>>=◌, many, fixed}
use Rattle.input_defs.specs.DataSections.{row}
use Rattle.plex_base.specs.FlatRows.{with_rows}
use Rattle.plex_base.specs.DataFields.{rows_of_values}
use Rattle.input_laws.specs.reading_laws.Going.{repeated, Goes}
use Rattle.input_laws.proofs.reading_laws.Readers.{same, bind-same, bind-pull, bind-assoc, bind-ok, many-onto, many-length, many-all}
use Rattle.msh_data.specs.Pieces.{known_number, Flat, row_onto}

abbrev pub no_rows : Flat
no_rows = record { numbers = []; values = [] }

-- flat rows with further ones
abbrev pub flat_with : Flat → List Row → Flat
flat_with flat rows = record { numbers = flat.numbers ++ map (λ (r : Row). r.number) rows; values = flat.values ++ flat_map (λ (r : Row). r.values) rows }

flat-nil : (flat : Flat) → flat_with flat [] ≡ flat
flat-nil flat = ap₂ (λ ns vs. record { numbers = ns; values = vs }) (append-nil flat.numbers) (append-nil flat.values)

flat-cons : (flat : Flat) (r : Row) (rs : List Row) → flat_with (flat_with flat (r ∷ [])) rs ≡ flat_with flat (r ∷ rs)
flat-cons flat r rs =
    ap₂ (λ ns vs. record { numbers = ns; values = vs })
    (append_assoc flat.numbers (r.number ∷ []) (map (λ (r : Row). r.number) rs))
    (ap (λ vs. (flat.values ++ vs) ++ flat_map (λ (r : Row). r.values) rs) (append-nil r.values) ∙ append_assoc flat.values r.values (flat_map (λ (r : Row). r.values) rs))

-- one row is put after others
row-flat : (known : List ℕ) (comps : ℕ) (flat : Flat) → row_onto known comps flat ≡ (row known comps >>= (λ r. give (flat_with flat (r ∷ []))))
unfolding row_onto row
row-flat known comps flat =
    bind-pull (known_number known) (λ n. many comps fixed >>= (λ vs. give (record { number = n; values = vs }))) (λ (r : Row). give (flat_with flat (r ∷ []))) (λ n.
    ap (λ (r : Reader DataFault (List ℤ)). r >>= (λ vs. give (record { numbers = flat.numbers ++ n ∷ []; values = vs }))) (sym (many-onto fixed flat.values comps))
    ∙ bind-assoc (many comps fixed) (λ xs. give (flat.values ++ xs)) (λ vs. give (record { numbers = flat.numbers ++ n ∷ []; values = vs }))
    ∙ bind-same (many comps fixed) (λ xs. ap (λ ys. give (record { numbers = flat.numbers ++ n ∷ []; values = flat.values ++ ys })) (sym (append-nil xs)))
    ∙ sym (bind-assoc (many comps fixed) (λ vs. give (record { number = n; values = vs })) (λ (r : Row). give (flat_with flat (r ∷ [])))))

-- and so are many
rows-flat : (known : List ℕ) (comps n : ℕ) (flat : Flat) → repeated (row_onto known comps) flat n ≡ (many n (row known comps) >>= (λ rs. give (flat_with flat rs)))
rows-flat known comps zero flat = same (λ faults body. ap (λ f. Ok (f, body)) (sym (flat-nil flat)))
rows-flat known comps (suc n) flat =
    ap (λ (r : Reader DataFault Flat). r >>= (λ t. repeated (row_onto known comps) t n)) (row-flat known comps flat)
    ∙ bind-assoc (row known comps) (λ r. give (flat_with flat (r ∷ []))) (λ t. repeated (row_onto known comps) t n)
    ∙ bind-pull (row known comps) (λ r. many n (row known comps) >>= (λ rs. give (r ∷ rs))) (λ rs. give (flat_with flat rs)) (λ r.
    rows-flat known comps n (flat_with flat (r ∷ []))
    ∙ bind-pull (many n (row known comps)) (λ rs. give (r ∷ rs)) (λ rs. give (flat_with flat rs)) (λ rs. ap give (flat-cons flat r rs)))

-- as many values as components
row-length : (known : List ℕ) (comps : ℕ) (faults : Faults DataFault) (before after : List Lexeme) (r : Row) → row known comps faults before ≡ Ok (r, after) → length r.values ≡ comps
unfolding row
row-length known comps faults before after r h =
    let number = bind-ok (known_number known) (λ n. many comps fixed >>= (λ vs. give (record { number = n; values = vs }))) faults before after r h in
    let values = bind-ok (many comps fixed) (λ vs. give (record { number = number.0; values = vs })) faults number.1 after r number.3 in
    let read : Row × List Lexeme = (record { number = number.0; values = values.0 }, values.1) in
    let same : read ≡ (r, after) = cc values.3 in
    ap (λ (p : Row × List Lexeme). length p.0.values) (sym same) ∙ many-length fixed comps faults number.1 values.1 values.0 values.2

-- rows of one length are the rows of their flat lists
rows-same : (comps : ℕ) (rows : List Row) → AllByRecursion (λ (r : Row). length r.values ≡ comps) rows → rows_of_values comps (map (λ (r : Row). r.number) rows) (flat_map (λ (r : Row). r.values) rows) ≡ rows
unfolding with_rows
rows-same comps [] all = refl
rows-same comps (r ∷ rows) all =
    let rest = flat_map (λ (r : Row). r.values) rows in
    ap₂ (λ vs rs. record { number = r.number; values = vs } ∷ rs)
    (ap (λ n. take n (r.values ++ rest)) (sym all.0) ∙ take-append_seam r.values rest)
    (ap (rows_of_values comps (map (λ (r : Row). r.number) rows)) (ap (λ n. drop n (r.values ++ rest)) (sym all.0) ∙ drop-append_seam r.values rest) ∙ rows-same comps rows all.1)

rows-lengths : (comps : ℕ) (rows : List Row) → AllByRecursion (λ (r : Row). length r.values ≡ comps) rows → length (flat_map (λ (r : Row). r.values) rows) ≡ length (map (λ (r : Row). r.number) rows) * comps
rows-lengths comps [] all = sym (zero-mul comps)
rows-lengths comps (r ∷ rows) all =
    let more = suc-mul (length (map (λ (r : Row). r.number) rows)) comps in
    let both = length-append r.values (flat_map (λ (r : Row). r.values) rows) in
    let first = all.0 in
    let rest = rows-lengths comps rows all.1 in
    omega (arith, more, both, first, rest)

-- ---- what a reader of flat rows answers

-- the rows that were read
flat-read : (known : List ℕ) (comps n : ℕ) (faults : Faults DataFault) (before after : List Lexeme) (flat : Flat) → repeated (row_onto known comps) no_rows n faults before ≡ Ok (flat, after)
    → (many n (row known comps) faults before ≡ Ok (rows_of_values comps flat.numbers flat.values, after)) × (length flat.values ≡ length flat.numbers * comps)
flat-read known comps n faults before after flat h =
    let as_rows = ap (λ (r : Reader DataFault Flat). r faults before) (sym (rows-flat known comps n no_rows)) ∙ h in
    let read = bind-ok (many n (row known comps)) (λ rs. give (flat_with no_rows rs)) faults before after flat as_rows in
    let all = many-all (λ (r : Row). length r.values ≡ comps) (row known comps) n faults before read.1 read.0 (row-length known comps faults) read.2 in
    let got : Flat × List Lexeme = (flat_with no_rows read.0, read.1) in
    let is : got ≡ (flat, after) = cc read.3 in
    subst (λ (p : Flat × List Lexeme). (many n (row known comps) faults before ≡ Ok (rows_of_values comps p.0.numbers p.0.values, p.1)) × (length p.0.values ≡ length p.0.numbers * comps)) is
    (read.2 ∙ ap (λ rows. Ok (rows, read.1)) (sym (rows-same comps read.0 all)), rows-lengths comps read.0 all)

pub rows-read : (known : List ℕ) (comps n : ℕ) {old new : Spot} (flat : Flat) → Goes (repeated (row_onto known comps) no_rows n) old (Ok flat) new → Goes (many n (row known comps)) old (Ok (rows_of_values comps flat.numbers flat.values)) new
rows-read known comps n flat first = record { stays = first.stays; reads = (flat-read known comps n _ _ _ flat first.reads).0; stands = tt }

pub rows-fit : (known : List ℕ) (comps n : ℕ) {old new : Spot} (flat : Flat) → Goes (repeated (row_onto known comps) no_rows n) old (Ok flat) new → length flat.values ≡ length flat.numbers * comps
rows-fit known comps n flat first = (flat-read known comps n _ _ _ flat first.reads).1

flat-fault : (known : List ℕ) (comps n : ℕ) (faults : Faults DataFault) (before : List Lexeme) (e : DataFault) → repeated (row_onto known comps) no_rows n faults before ≡ Err e → many n (row known comps) faults before ≡ Err e
flat-fault known comps n faults before e h = go (many n (row known comps) faults before) (ap (λ (r : Reader DataFault Flat). r faults before) (sym (rows-flat known comps n no_rows)) ∙ h)
  where
    go : (answer : Result (List Row × List Lexeme) DataFault) → read_on (λ rs. give (flat_with no_rows rs)) faults answer ≡ Err e → answer ≡ Err e
    go (Ok got) g = absurd (cc g)
    go (Err f) g = let is : f ≡ e = cc g in ap Err is

pub rows-fault : (known : List ℕ) (comps n : ℕ) {old new : Spot} {e : DataFault} → Goes (repeated (row_onto known comps) no_rows n) old (Err e) new → Goes (many n (row known comps)) old (Err e) new
rows-fault known comps n {e = e} first = record { stays = first.stays; reads = λ ne. flat-fault known comps n _ _ e (first.reads ne); stands = first.stands }
