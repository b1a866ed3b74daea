-- Rows that are kept, one after the other.
use Rattle.std.proofs.Common.{◌≡◌, ℕ, ◌+◌, ◌*◌, ◌<◌, List, [], ◌∷◌, ◌++◌, length, take, ℤ, Option, Some, sym, ap, ap₂, ◌∙◌, arith, length-append}
use Rattle.std.specs.Prelude.{filter_map}
use Rattle.std.specs.List.{slice_get, cons_option}
use Rattle.std.proofs.lemmas.List.Elements.{filter_map-append}
use Rattle.std.proofs.Math.Nat.{zero-mul, suc-mul}
use Rattle.plex_base.specs.FlatRows.{with_rows}
use Rattle.plex_base.specs.DataFields.{rows_of_values}
use Rattle.plex_base.proofs.FlatRows.{rows-push, widths-same}
use Rattle.mesh_check.proofs.mesh_vertices.Listing.{take-next}

-- no rows yet
pub rows-start : (comps : ℕ) (ns : List ℕ) (vs : List ℤ) → ns ≡ [] → vs ≡ [] → (rows_of_values comps ns vs ≡ []) × (length vs ≡ length ns * comps)
unfolding with_rows
rows-start comps ns vs no_ns no_vs = (ap₂ (rows_of_values comps) no_ns no_vs, ap length no_vs ∙ sym (zero-mul comps) ∙ ap (λ (l : List ℕ). length l * comps) (sym no_ns))

-- one row more
pub rows-next : (comps : ℕ) (ns : List ℕ) (vs : List ℤ) (n : ℕ) (row : List ℤ) → length vs ≡ length ns * comps → length row ≡ comps → rows_of_values comps (ns ++ n ∷ []) (vs ++ row) ≡ rows_of_values comps ns vs ++ record { number = n; values = row } ∷ []
rows-next comps ns vs n row full wide = rows-push (λ (m : ℕ). comps) (λ number values. record { number = number; values = values }) ns vs n row (full ∙ sym (widths-same comps ns)) wide

pub full-next : (comps : ℕ) (ns : List ℕ) (vs : List ℤ) (n : ℕ) (row : List ℤ) → length vs ≡ length ns * comps → length row ≡ comps → length (vs ++ row) ≡ length (ns ++ n ∷ []) * comps
full-next comps ns vs n row full wide =
    let more = suc-mul (length ns) comps in
    let sum : length (vs ++ row) ≡ length ns * comps + comps = length-append vs row ∙ ap₂ (λ a b. a + b) full wide in
    sum ∙ (let e : length ns * comps + comps ≡ (length ns + 1) * comps = grind arith in e) ∙ ap (λ k. k * comps) (sym (length-append ns (n ∷ [])))

-- what a filter keeps of one more
pub filter_map-next : {X Y : Type 0} (h : X → Option Y) (xs : List X) (i : ℕ) (x : X) (o : Option Y) → i < length xs → slice_get xs i ≡ Some x → h x ≡ o → filter_map h (take i xs) ++ cons_option o [] ≡ filter_map h (take (i + 1) xs)
filter_map-next h xs i x o low at is = sym (ap (filter_map h) (take-next xs i x low at) ∙ filter_map-append h (take i xs) (x ∷ []) ∙ ap (λ p. filter_map h (take i xs) ++ cons_option p []) is)
