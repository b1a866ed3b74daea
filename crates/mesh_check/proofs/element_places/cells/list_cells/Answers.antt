use Rattle.std.proofs.Common.{◌≡◌, ◌<◌, [], ◌∷◌, ◌++◌, ◌&&◌, get_or, length, nat_eq, sym, ap, ap₂, ◌∙◌, arith}
use Rattle.std.specs.Prelude.{filter}
use Rattle.std.specs.List.{position_or_len}
use Rattle.std.proofs.lemmas.Bool.{cond-true, cond-false}
use Rattle.input_defs.specs.Meshes.{same_place, dim, is_top, kept_after, kept, cell_elements}
use Rattle.input_laws.specs.place_laws.Places.{element_at}
use Rattle.mesh_check.proofs.element_places.Steps.{element-is, first-at, cells-step, take-whole}
use Rattle.mesh_check.proofs.element_places.cells.list_cells.Goals as goal
use Rattle.mesh_check.proofs.element_places.cells.list_cells.Goals.{then-becomes_cell+in_ok-push-2, else-becomes_cell}

pub loop-i-preserved : goal.loop-i-preserved
loop-i-preserved c =
    let es = c.args.text.now.elements in
    let low : c.loop-i.i < length es = omega arith in
    let first : get_or c.args.firsts.now c.loop-i.i 0 ≡ position_or_len (same_place (element_at es c.loop-i.i)) es = ap (λ xs. get_or xs c.loop-i.i 0) c.requires.firsts ∙ first-at es c.loop-i.i low in
    let e = element-is es c.loop-i.i _ c.element.ensures in
    let is : c.becomes_cell.result ≡ (nat_eq (position_or_len (same_place (element_at es c.loop-i.i)) es) c.loop-i.i && is_top c.args.text.now (element_at es c.loop-i.i)) =
    c.becomes_cell.ensures ∙ ap₂ (λ m b. nat_eq m c.loop-i.i && b) first (ap₂ nat_eq (c.dim_of_type-dim.ensures ∙ ap dim (sym e)) c.requires.greatest) in
    let step = λ (cells : _). cells-step c.args.text.now c.loop-i.i c.loop-i.places.items c.loop-i.before.items cells c.push.new.self.items c.becomes_cell.result c.loop-i.invariant low (c.in_ok-push.ensures.items ∙ ap (λ n. c.loop-i.before.items ++ n ∷ []) (c.len.ensures ∙ c.loop-i.places.ok.0)) is in
    elim c.if-becomes_cell.branch [
      | then-becomes_cell+in_ok-push-2 w ↦ step _ (ap (λ v. v.items) w.places-is ∙ w.in_ok-push-2.ensures.items ∙ sym (cond-true c.becomes_cell.result _ _ w.if-becomes_cell.true))
      | else-becomes_cell w ↦ step _ (ap (λ v. v.items) w.places-is ∙ sym (cond-false c.becomes_cell.result _ _ w.if-becomes_cell.false))
    ]

pub returns-clause-cells : goal.returns-clause-cells
unfolding cell_elements kept
returns-clause-cells c = c.loop-i.invariant.cells_are ∙ ap (λ xs. filter (is_top c.args.text.now) (kept_after [] xs)) (take-whole c.args.text.now.elements c.loop-i.i (omega arith) (omega arith))
