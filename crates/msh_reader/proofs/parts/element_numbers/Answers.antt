use Rattle.std.proofs.Common.{◌≤◌, take, length, sym, ap, ◌∙◌, add-one}
use Rattle.input_defs.specs.Content.{Element}
use Rattle.input_defs.specs.Sections.{has_number}
use Rattle.msh_reader.specs.NumberSets.{numbers_of}
use Rattle.msh_reader.specs.Views.{element_numbers}
use Rattle.msh_reader.proofs.NumberSets.{has-more}
use Rattle.msh_reader.proofs.TakenSections.{take-get, take-past, numbers-more}
use Rattle.msh_reader.proofs.parts.element_numbers.Goals as goal

pub loop-i-preserved : goal.loop-i-preserved
loop-i-preserved c =
    let es = c.args.elements.now in
    let e : Element = record { number = c.get.result.number; kind = c.get.result.kind; physical = c.get.result.physical; nodes = c.get.result.nodes.now } in
    λ n. c.in_ok-insert.ensures n
    ∙ has-more (numbers_of c.loop-i.numbers) (element_numbers (take c.loop-i.i es)) c.get.result.number c.loop-i.invariant n
    ∙ ap (λ ys. has_number ys n) (sym (ap (λ k. element_numbers (take k es)) (add-one c.loop-i.i) ∙ ap element_numbers (take-get es c.loop-i.i e c.get.ensures) ∙ numbers-more (take c.loop-i.i es) e))

pub returns : goal.returns
returns c =
    let past : length c.args.elements.now ≤ c.loop-i.i = rw (← c.len-i-end.ensures) c.loop-i-test.false in
    λ n. c.loop-i.invariant n ∙ ap (λ es. has_number (element_numbers es) n) (take-past c.args.elements.now c.loop-i.i past)
