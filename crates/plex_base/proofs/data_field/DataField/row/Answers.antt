use Rattle.std.proofs.Common.{◌≡◌, ◌<◌, ◌≤◌, ◌+◌, ◌*◌, ℕ, List, ℤ, take, drop, sym, ap, ap₂, ◌∙◌, length, arith}
use Rattle.std.proofs.lemmas.List.{length-take-le, length-drop}
use Rattle.mesh_defs.specs.Mesh.{Row}
use Rattle.std.specs.Prelude.{Option, Some}
use Rattle.std.specs.List.{slice_get}
use Rattle.plex_base.specs.DataFields.{FieldRows, rows_of_values}
use Rattle.plex_base.proofs.FlatRows.{rows-length, row-within, rows-get-same}
use Rattle.plex_base.proofs.data_field.DataField.row.Goals as goal

-- a row of a field is one of its numbers
inside : (f : FieldRows) (comps : ℕ) (numbers : List ℕ) (values : List ℤ) (name : List ℕ) (i : ℕ) → record { name = name; comps = comps; rows = rows_of_values comps numbers values } ≡ f → i < length f.rows → i < length numbers
inside f comps numbers values name i is below =
    let counts = rows-length {R = Row} (λ (n : ℕ). comps) (λ n vs. record { number = n; values = vs }) numbers values in
    let same : length (rows_of_values comps numbers values) ≡ length f.rows = ap (λ (g : FieldRows). length g.rows) is in
    omega (arith, counts, same)

-- and its values are in the list
within : (comps i : ℕ) (numbers : List ℕ) (values : List ℤ) → length values ≡ length numbers * comps → i < length numbers → i * comps + comps ≤ length values
within comps i numbers values lengths below = let fits = row-within i (length numbers) comps below in omega (arith, fits, lengths)

pub index-requires : goal.index-requires
index-requires c = let below = inside c.args.self.now _ _ _ _ _ c.self.view_is c.requires in rw c.self.inside.numbers.ok.0 below

pub row_of-requires : goal.row_of-requires
row_of-requires c =
    let below = inside c.args.self.now _ _ _ _ _ c.self.view_is c.requires in
    rw c.deref.ensures.value (within c.self.inside.comps c.args.i c.self.inside.numbers.items c.self.inside.values.items c.self.invariant.1 below)

pub returns-clause-row : goal.returns-clause-row
returns-clause-row c =
    let below = inside c.args.self.now _ _ _ _ _ c.self.view_is c.requires in
    ap (λ (f : FieldRows). slice_get f.rows c.args.i) (sym c.self.view_is)
    ∙ rows-get-same {R = Row} c.self.inside.comps (λ n vs. record { number = n; values = vs }) c.self.inside.numbers.items c.self.inside.values.items c.args.i c.index.result.now below
    ∙ ap₂ {C = Option Row} (λ n vs. Some (record { number = n; values = vs })) (sym c.index.ensures) (ap (λ vs. take c.self.inside.comps (drop (c.args.i * c.self.inside.comps) vs)) (sym c.deref.ensures.value) ∙ sym c.row_of.ensures)

pub returns-clause-comps : goal.returns-clause-comps
returns-clause-comps c =
    let below = inside c.args.self.now _ _ _ _ _ c.self.view_is c.requires in
    let fits = within c.self.inside.comps c.args.i c.self.inside.numbers.items c.self.inside.values.items c.self.invariant.1 below in
    let left : c.self.inside.comps ≤ length (drop (c.args.i * c.self.inside.comps) c.deref.result.now) = rw (length-drop, c.deref.ensures.value) (omega (arith, fits)) in
    ap length c.row_of.ensures ∙ length-take-le c.self.inside.comps _ left ∙ ap (λ (f : FieldRows). f.comps) c.self.view_is
