use Rattle.std.proofs.Common.{◌≡◌, ◌<◌, ◌*◌, ◌++◌, ◌∷◌, [], List, ℕ, ℤ, Some, None, length, take, sym, ap, ap₂, ◌∙◌, arith}
use Rattle.std.specs.Prelude.{filter_map, option_map}
use Rattle.std.proofs.Math.Seq.{take-length}
use Rattle.std.proofs.lemmas.List.{append-nil}
use Rattle.mesh_defs.specs.Mesh.{Row}
use Rattle.input_defs.specs.Meshes.{row_of, section_on}
use Rattle.plex_base.specs.DataFields.{rows_of_values}
use Rattle.plex_base.specs.DataFields as kept
use Rattle.mesh_check.proofs.data_rows.KeptRows.{rows-start, rows-next, full-next, filter_map-next}
use Rattle.mesh_check.proofs.data_rows.rows.field_on_mesh.Goals as goal
use Rattle.mesh_check.proofs.data_rows.rows.field_on_mesh.Goals.{in-Some+in_ok-push+in_ok-extend_from_slice, in_default}

pub loop-i-init : goal.loop-i-init
loop-i-init c = let start = rows-start c.args.field.now.comps c.new-named.result.items c.new-values.result.items c.new-named.ensures.items c.new-values.ensures.items in record { rows = start.0; full = start.1 }

pub loop-i-preserved : goal.loop-i-preserved
loop-i-preserved c =
    let rows : List Row = c.args.field.now.rows in
    let comps : ℕ = c.args.field.now.comps in
    let low : c.loop-i.i < length rows = omega (arith, c.rows-i-end.ensures) in
    let row : Row = record { number = c.row-number.result.0; values = c.row-number.result.1.now } in
    elim c.match-place_named.branch [
      | in-Some+in_ok-push+in_ok-extend_from_slice w ↦
          let named : List ℕ = c.loop-i.named.items in
          let values : List ℤ = c.loop-i.values.items in
          let new_named = ap (λ v. v.items) w.named-is ∙ w.in_ok-push.ensures.items in
          let new_values = ap (λ v. v.items) w.values-is ∙ w.in_ok-extend_from_slice.ensures.items in
          let moved : row_of c.args.places.now c.args.on row ≡ Some (record row { number = w.in-Some.place }) = ap (option_map (λ place. record row { number = place })) (sym c.place_named.ensures ∙ w.in-Some.is) in
          record {
            rows = ap₂ (rows_of_values comps) new_named new_values ∙ rows-next comps named values w.in-Some.place row.values c.loop-i.invariant.full c.row-number.ensures.comps
                ∙ ap (λ l. l ++ record row { number = w.in-Some.place } ∷ []) c.loop-i.invariant.rows ∙ filter_map-next (row_of c.args.places.now c.args.on) rows c.loop-i.i row _ low c.row-number.ensures.row moved;
            full = ap length new_values ∙ full-next comps named values w.in-Some.place row.values c.loop-i.invariant.full c.row-number.ensures.comps ∙ ap (λ l. length l * comps) (sym new_named);
          }
      | in_default w ↦
          let dropped : row_of c.args.places.now c.args.on row ≡ None = ap (option_map (λ place. record row { number = place })) (sym c.place_named.ensures ∙ w.in_default.is) in
          record {
            rows = ap₂ (rows_of_values comps) (ap (λ v. v.items) w.named-is) (ap (λ v. v.items) w.values-is) ∙ c.loop-i.invariant.rows ∙ sym (append-nil (filter_map (row_of c.args.places.now c.args.on) (take c.loop-i.i rows))) ∙ filter_map-next (row_of c.args.places.now c.args.on) rows c.loop-i.i row None low c.row-number.ensures.row dropped;
            full = ap (λ v. length v.items) w.values-is ∙ c.loop-i.invariant.full ∙ ap (λ v. length v.items * comps) (sym w.named-is);
          }
    ]

pub returns : goal.returns
unfolding section_on
returns c =
    let rows : List Row = c.args.field.now.rows in
    let all : c.loop-i.i ≡ length rows = omega (arith, c.rows-i-end.ensures) in
    let name : c.in_ok-name.name.items ≡ c.args.field.now.name = c.in_ok-name.ensures.items ∙ c.name.ensures in
    let comps : c.comps.result ≡ c.args.field.now.comps = c.comps.ensures.comps in
    let kept_rows : rows_of_values c.comps.result c.loop-i.named.items c.loop-i.values.items ≡ filter_map (row_of c.args.places.now c.args.on) rows =
    ap (λ n. rows_of_values n c.loop-i.named.items c.loop-i.values.items) comps ∙ c.loop-i.invariant.rows ∙ ap (filter_map (row_of c.args.places.now c.args.on)) (ap (λ n. take n rows) all ∙ take-length rows) in
    ap (kept.section_on c.args.on) c.new.ensures ∙ (λ i. record { on = c.args.on; name = name i; comps = comps i; rows = kept_rows i })
