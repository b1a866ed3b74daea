use Rattle.std.proofs.Common.{◌≡◌, ◌<◌, Bool, true, false, not, ◌&&◌, length, get_or, refl, sym, ap, ◌∙◌, arith}
use Rattle.std.specs.Prelude.{Some}
use Rattle.std.specs.List.{slice_get}
use Rattle.std.proofs.lemmas.Bool.{eq-eqb}
use Rattle.input_defs.specs.Content.{Element, Content}
use Rattle.input_defs.specs.Sections.{has_number}
use Rattle.input_defs.specs.Meshes.{is_top}
use Rattle.mesh_check.proofs.element_points.Marking.{marks-next, written_back}
use Rattle.mesh_check.proofs.element_points.marks.lower_nodes.Goals as goal
use Rattle.mesh_check.proofs.element_points.marks.lower_nodes.Goals.{then-number-top, else-number-top}

and-false : (a : Bool) → (a && false) ≡ false
and-false true = refl
and-false false = refl

pub loop-i-preserved : goal.loop-i-preserved
loop-i-preserved c n h =
    let content : Content = c.args.places.now in
    let e : Element = record { number = c.element-element.result.number; kind = c.element-element.result.kind; physical = c.element-element.result.physical; nodes = c.element-element.result.nodes.now } in
    let low : c.loop-i.i < length content.elements = omega (arith, c.elements-i-end.ensures, ap (λ (t : Content). length t.elements) c.text-text.ensures) in
    let at : slice_get content.elements c.loop-i.i ≡ Some e = ap (λ (t : Content). slice_get t.elements c.loop-i.i) (sym c.text-text.ensures) ∙ c.element-element.ensures in
    elim c.if-number-top.branch [
      | then-number-top w ↦
          let long : length w.mark.new.flags ≡ c.loop-i.flags.len = omega (arith, w.mark.auto.flags, w.deref_mut.ensures.len) in
          let new = ap (λ v. v.items) w.flags-is ∙ written_back c.loop-i.flags.len w.mark.new.flags c.loop-i.flags.items long in
          let both = w.mark.ensures n (ap (λ flags. get_or flags n true) (sym new) ∙ h) in
          marks-next content c.loop-i.i e n low at (ap (λ t. not (is_top content e) && t) both.1 ∙ and-false (not (is_top content e))) (c.loop-i.invariant n (ap (λ flags. get_or flags n true) (sym w.deref_mut.ensures.value) ∙ both.0))
      | else-number-top w ↦
          let top : is_top content e ≡ true = eq-eqb _ _ (sym (c.number.ensures ∙ c.dim_of_type.ensures) ∙ w.if-number-top.false ∙ c.number-top.ensures ∙ c.greatest_dim.ensures) in
          marks-next content c.loop-i.i e n low at (ap (λ t. not t && has_number e.nodes n) top) (c.loop-i.invariant n (ap (λ v. get_or v.items n true) (sym w.flags-is) ∙ h))
    ]
