use Rattle.std.proofs.Common.{◌≡◌, ◌<◌, ℕ, ◌+◌, Bool, [], take, length, cond, get_or, sym, ap, ◌∙◌, arith}
use Rattle.std.proofs.lemmas.Bool.{eq-eqb, ne_eqb}
use Rattle.std.proofs.lemmas.List.{length-map}
use Rattle.std.specs.List.{position_or_len}
use Rattle.input_defs.specs.Meshes.{kept, kept_after, same_place}
use Rattle.input_laws.specs.place_laws.Places.{element_at}
use Rattle.input_laws.proofs.place_laws.Firsts.{kept-count, kept-few}
use Rattle.mesh_check.proofs.element_places.Steps.{take-whole, first-at}
use Rattle.mesh_check.proofs.element_places.cells.count_kept.Goals as goal
use Rattle.mesh_check.proofs.element_places.cells.count_kept.Goals.{then-first-i, else-first-i}

none-more : (n : ℕ) → n ≡ n + 0
none-more n = omega arith

pub overflow_add-kept : goal.overflow_add-kept
overflow_add-kept c =
    let few = kept-few c.args.text.now.elements c.loop-i.i in
    let count = ap (λ xs. length xs) c.requires ∙ length-map c.args.text.now.elements _ in
    let limit = c.nodes-nodes.ensures.right.limits.elements in
    record { fits = omega (arith, c.loop-i.invariant) }

pub loop-i-preserved : goal.loop-i-preserved
loop-i-preserved c =
    let es = c.args.text.now.elements in
    let count : length c.args.firsts.now ≡ length es = ap (λ xs. length xs) c.requires ∙ length-map es _ in
    let low : c.loop-i.i < length es = omega arith in
    let first : get_or c.args.firsts.now c.loop-i.i 0 ≡ position_or_len (same_place (element_at es c.loop-i.i)) es = ap (λ xs. get_or xs c.loop-i.i 0) c.requires ∙ first-at es c.loop-i.i low in
    let more = kept-count es c.loop-i.i low in
    elim c.if-first-i.branch [
      | then-first-i w ↦ w.kept-is ∙ ap (λ n. n + 1) c.loop-i.invariant ∙ ap (λ (b : Bool). length (kept_after [] (take c.loop-i.i es)) + cond b 1 0) (sym (eq-eqb _ c.loop-i.i (sym first ∙ w.if-first-i.true))) ∙ sym more
      | else-first-i w ↦ let none = ne_eqb (position_or_len (same_place (element_at es c.loop-i.i)) es) c.loop-i.i (λ e. w.if-first-i.false (first ∙ e)) in w.kept-is ∙ c.loop-i.invariant ∙ none-more _ ∙ ap (λ (b : Bool). length (kept_after [] (take c.loop-i.i es)) + cond b 1 0) (sym none) ∙ sym more
    ]

pub returns : goal.returns
unfolding kept
returns c =
    let es = c.args.text.now.elements in
    let count : length c.args.firsts.now ≡ length es = ap (λ xs. length xs) c.requires ∙ length-map es _ in
    c.loop-i.invariant ∙ ap (λ xs. length (kept_after [] xs)) (take-whole es c.loop-i.i (omega arith) (omega arith))
