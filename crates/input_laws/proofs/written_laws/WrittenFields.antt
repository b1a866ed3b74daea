-- Written data sections are read back.
use Rattle.std.proofs.Common.{◌≡◌, ℕ, ◌+◌, ◌-◌, ◌<◌, ◌≤◌, nat_le, List, [], ◌∷◌, ◌++◌, map, length, get_or, pos, Ok, refl, sym, ap, ◌∙◌, subst, arith, ⊎_elim}
use Rattle.std.specs.Prelude.{Result, decimal, codes}
use Rattle.std.specs.List.{AllByRecursion}
use Rattle.std.proofs.lemmas.Int.{ints}
use Rattle.plain_lists.proofs.Each.{all_weaker, all_map}
use Rattle.input_defs.specs.line_defs.Numbers.{fixed_text}
use Rattle.mesh_defs.specs.declared.Place.{Place}
use Rattle.mesh_defs.specs.Mesh.{Row, Section}
use Rattle.input_defs.specs.scan_defs.Numbers.{uint_of, int_of, fixed_of}
use Rattle.input_defs.specs.declared.DataFault.{DataFault}
use Rattle.input_defs.specs.declared.DataFault.TheVariants.{BadCount, UnknownNumber}
use Rattle.input_defs.specs.Causes.{ok_where}
use Rattle.input_defs.specs.Bodies.{Lexeme, Faults, Reader, give, ◌>>=◌, many, tested, uint, int, fixed, quoted, nothing_left}
use Rattle.input_defs.specs.Sections.{has_number}
use Rattle.input_defs.specs.DataSections.{faults_at, real, comps_on, rows_on, row, section, section_of}
use Rattle.input_defs.specs.RightContent.{IsUnsigned, IsFixed, IsComponents, IsRightDataRow}
use Rattle.input_laws.specs.written_laws.Written.{spaced, counted, quote, row_line, field_lines}
use Rattle.input_laws.proofs.written_laws.NumberTexts.{uint-back, int-back, fixed-back}
use Rattle.input_laws.proofs.written_laws.PlainLines.{lexemes_on}
use Rattle.input_laws.proofs.written_laws.WrittenLines.{IsWord, decimal-word, fixed-word, lexeme, lexemes-last, word_lexemes, words-plain, Quoted, quote-lexemes, body_lines, body-later}
use Rattle.input_laws.proofs.written_laws.WrittenBodies.{then-ok, tested-reads, where-true, many-numbers, many-lines, count-line, quoted-reads, known-low}

abbrev row_test : List ℕ → ℕ → ℕ → Result ℕ DataFault
row_test known line n = ok_where (has_number known n) n (UnknownNumber line n)

row-reads : (faults : Faults DataFault) (known : List ℕ) (comps n : ℕ) (x : Row) (rest : List Lexeme) → AllByRecursion IsUnsigned known → IsRightDataRow known comps x → row known comps faults (lexemes_on n (row_line x) ++ rest) ≡ Ok (x, rest)
unfolding row
row-reads faults known comps n x rest low right =
    ap (λ ws. (tested uint_of (row_test known) >>= (λ number. many comps fixed >>= (λ values. give (record { number = number; values = values })))) faults (ws ++ rest)) (words-plain n (decimal x.number ∷ map fixed_text x.values) are_words)
    ∙ then-ok (tested uint_of (row_test known)) (λ number. many comps fixed >>= (λ values. give (record { number = number; values = values }))) faults (one ∷ last) last x.number
    (tested-reads uint_of (row_test known) faults one last x.number x.number (uint-back x.number number) (where-true (has_number known x.number) x.number (UnknownNumber n x.number) right.number))
    ∙ then-ok (many comps fixed) (λ values. give (record { number = x.number; values = values })) faults last rest x.values
    (ap (λ c. many c fixed faults last) (sym right.values) ∙ many-numbers fixed_of fixed_text n faults x.values rest (all_weaker IsFixed (λ v. fixed_of (fixed_text v) ≡ Ok v) fixed-back x.values right.in_range))
  where
    number : IsUnsigned x.number
    number = known-low known x.number low right.number

    are_words : AllByRecursion IsWord (decimal x.number ∷ map fixed_text x.values)
    are_words = (decimal-word x.number number, all_map IsWord fixed_text x.values (all_weaker IsFixed (λ v. IsWord (fixed_text v)) fixed-word x.values right.in_range))

    last : List Lexeme
    last = word_lexemes n (map fixed_text x.values) ++ rest

    one : Lexeme
    one = lexeme n (decimal x.number) (spaced (decimal x.number ∷ map fixed_text x.values))

-- ---- a section

-- what is left to read after the name, step by step
abbrev with_rows : Place → List ℕ → List (List ℕ) → ℕ → ℕ → Reader DataFault Section
with_rows on known strings comps row_count = many row_count (row known comps) >>= (λ rows. give (record { on = on; name = get_or strings 0 []; comps = comps; rows = rows }))

abbrev with_row_count : Place → List ℕ → List (List ℕ) → ℕ → ℕ → Reader DataFault Section
with_row_count on known strings int_count comps = tested int_of rows_on >>= (λ row_count. many (int_count - 3) int >>= (λ further. with_rows on known strings comps row_count))

abbrev with_comps : Place → List ℕ → List (List ℕ) → ℕ → Reader DataFault Section
with_comps on known strings int_count = tested int_of comps_on >>= with_row_count on known strings int_count

abbrev int_test : ℕ → ℕ → Result ℕ DataFault
int_test line n = ok_where (nat_le 3 n) n (BadCount line)

abbrev with_ints : Place → List ℕ → List (List ℕ) → Reader DataFault Section
with_ints on known strings = tested uint_of int_test >>= (λ int_count. int >>= (λ step. with_comps on known strings int_count))

abbrev with_strings : Place → List ℕ → List (List ℕ) → Reader DataFault Section
with_strings on known strings = uint >>= (λ real_count. many real_count real >>= (λ reals. with_ints on known strings))

components-pass : (line comps : ℕ) → IsComponents comps → comps_on line (pos comps) ≡ Ok comps
components-pass line comps h = ⊎_elim
    (λ e. subst (λ c. comps_on line (pos c) ≡ Ok c) (sym e) refl)
    (λ k. ⊎_elim (λ e. subst (λ c. comps_on line (pos c) ≡ Ok c) (sym e) refl) (λ e. subst (λ c. comps_on line (pos c) ≡ Ok c) (sym e) refl) k) h

pub components-low : (comps : ℕ) → IsComponents comps → comps ≤ 9
components-low comps h = ⊎_elim (λ e. omega (arith, e)) (λ k. ⊎_elim (λ e. omega (arith, e)) (λ e. omega (arith, e)) k) h

count-int : (k : ℕ) → k < 2147483648 → int_of (decimal k) ≡ Ok (pos k)
count-int k low = int-back (pos k) (omega (arith, ints, low), omega (arith, ints, low))

pub section-reads : (known : List ℕ) (end n : ℕ) (x : Section) → AllByRecursion IsUnsigned known → IsComponents x.comps → AllByRecursion (IsRightDataRow known x.comps) x.rows → length x.rows < 2147483648
    → section_of x.on known end (body_lines n (field_lines x)) ≡ Ok x
unfolding section_of section uint_of int_of
section-reads known end n x low comps rows few = ap (nothing_left BadCount) (
    ap (λ ws. (many 1 quoted >>= with_strings x.on known) faults (ws ++ after_name)) q.whole
    ∙ then-ok (many 1 quoted) (with_strings x.on known) faults (q.first ∷ (q.others ++ after_name)) after_name (x.name ∷ [])
    (then-ok quoted (λ y. many 0 quoted >>= (λ ys. give (y ∷ ys))) faults (q.first ∷ (q.others ++ after_name)) after_name x.name
    (quoted-reads faults (n + 1) x.name q.first q.others after_name q.quoted q.on_line q.others_on_line (body-later (n + 1) (n + 1 + 1) (codes "0" ∷ codes "3" ∷ codes "0" ∷ decimal x.comps ∷ counted row_line x.rows) (omega arith))))
    ∙ ap (λ ws. with_comps x.on known (x.name ∷ []) 3 faults (ws ++ after_comps)) (lexemes-last (n + 1 + 1 + 1 + 1 + 1) (decimal x.comps) (decimal-word x.comps comps_low))
    ∙ then-ok (tested int_of comps_on) (with_row_count x.on known (x.name ∷ []) 3) faults (lexeme (n + 1 + 1 + 1 + 1 + 1) (decimal x.comps) (decimal x.comps) ∷ after_comps) after_comps x.comps
    (tested-reads int_of comps_on faults (lexeme (n + 1 + 1 + 1 + 1 + 1) (decimal x.comps) (decimal x.comps)) after_comps (pos x.comps) x.comps (count-int x.comps (omega (arith, components-low x.comps comps))) (components-pass (n + 1 + 1 + 1 + 1 + 1) x.comps comps))
    ∙ ap (with_row_count x.on known (x.name ∷ []) 3 x.comps faults) (count-line (n + 1 + 1 + 1 + 1 + 1 + 1) (length x.rows) after_count count_low)
    ∙ then-ok (tested int_of rows_on) (λ row_count. many 0 int >>= (λ further. with_rows x.on known (x.name ∷ []) x.comps row_count)) faults (lexeme (n + 1 + 1 + 1 + 1 + 1 + 1) (decimal (length x.rows)) (decimal (length x.rows)) ∷ after_count) after_count (length x.rows)
    (tested-reads int_of rows_on faults (lexeme (n + 1 + 1 + 1 + 1 + 1 + 1) (decimal (length x.rows)) (decimal (length x.rows))) after_count (pos (length x.rows)) (length x.rows) (count-int (length x.rows) few) refl)
    ∙ then-ok (many (length x.rows) (row known x.comps)) (λ rs. give (record { on = x.on; name = x.name; comps = x.comps; rows = rs })) faults after_count [] x.rows
    (many-lines (IsRightDataRow known x.comps) (row known x.comps) row_line faults (λ m r rest h late. row-reads faults known x.comps m r rest low h) (n + 1 + 1 + 1 + 1 + 1 + 1 + 1) x.rows rows)
    )
  where
    faults : Faults DataFault
    faults = faults_at end

    q : Quoted (n + 1) x.name (lexemes_on (n + 1) (quote x.name))
    q = quote-lexemes (n + 1) x.name

    after_name : List Lexeme
    after_name = body_lines (n + 1 + 1) (codes "0" ∷ codes "3" ∷ codes "0" ∷ decimal x.comps ∷ counted row_line x.rows)

    after_comps : List Lexeme
    after_comps = body_lines (n + 1 + 1 + 1 + 1 + 1 + 1) (counted row_line x.rows)

    after_count : List Lexeme
    after_count = body_lines (n + 1 + 1 + 1 + 1 + 1 + 1 + 1) (map row_line x.rows)

    comps_low : IsUnsigned x.comps
    comps_low = omega (arith, components-low x.comps comps)

    count_low : IsUnsigned (length x.rows)
    count_low = omega (arith, few)
