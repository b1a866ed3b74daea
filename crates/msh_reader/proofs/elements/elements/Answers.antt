use Rattle.std.proofs.Common.{◌≡◌, ◌+◌, ◌-◌, suc, arith}
use Rattle.std.proofs.lemmas.Result.{err_from_is_err_and}
use Rattle.input_defs.specs.Sections.{element, elements}
use Rattle.input_laws.proofs.reading_laws.Readers.{many-nothing}
use Rattle.msh_reader.specs.NumberSets.{numbers_of}
use Rattle.msh_reader.proofs.ElementRows.{laid-more, views-more, views-none, laid-none}
use Rattle.msh_reader.proofs.Going.{goes-then, goes-fault, goes-same, resumes-start, onto-step, onto-fault, onto-done}
use Rattle.msh_reader.proofs.elements.elements.Goals as goal

pub returns-in_err-count : goal.returns-in_err-count
unfolding elements
returns-in_err-count c =
    let p = err_from_is_err_and c.from_residual.result c.from_residual.ensures.1 in
    rw (p.1, p.2) (goes-fault _ c.in_err-count.ensures)

pub loop-init : goal.loop-init
loop-init c =
    let whole : c.in_ok-count.count - 0 ≡ c.in_ok-count.count = omega arith in
    rw (c.new-elements.ensures.items, c.new-corners.ensures.items) (record { left = rw (views-none, whole) (resumes-start _ _); laid = laid-none })

pub returns-in_err-element : goal.returns-in_err-element
unfolding elements
returns-in_err-element c =
    let p = err_from_is_err_and c.from_residual-in_err-element.result c.from_residual-in_err-element.ensures.1 in
    let one : c.in_ok-count.count - c.loop.counter ≡ suc (c.in_ok-count.count - (c.loop.counter + 1)) = omega arith in
    rw (p.1, p.2) (goes-then _ c.in_ok-count.ensures (goes-same (many-nothing (element (numbers_of c.args.known.now)) _) (onto-fault (λ _. element (numbers_of c.args.known.now)) _ _ _ one c.loop.invariant.left c.in_err-element.ensures.goes)))

pub loop-preserved : goal.loop-preserved
loop-preserved c =
    let one : c.in_ok-count.count - c.loop.counter ≡ suc (c.in_ok-count.count - (c.loop.counter + 1)) = omega arith in
    let more = views-more c.loop.elements.items c.in_ok-element.field-0 c.loop.corners.items c.element.new.corners.items c.loop.invariant.laid c.in_ok-element.ensures.lies c.element.ensures.front in
    rw c.in_ok-push.ensures.items (record {
      left = rw more (onto-step (λ _. element (numbers_of c.args.known.now)) _ _ _ one c.loop.invariant.left c.in_ok-element.ensures.goes);
      laid = laid-more c.loop.elements.items c.in_ok-element.field-0 c.loop.corners.items c.element.new.corners.items c.loop.invariant.laid c.in_ok-element.ensures.lies;
    })

pub returns : goal.returns
unfolding elements
returns c =
    let none : c.in_ok-count.count - c.loop.counter ≡ 0 = omega arith in
    rw c.new.ensures (goes-then _ c.in_ok-count.ensures (goes-same (many-nothing (element (numbers_of c.args.known.now)) _) (onto-done (λ _. element (numbers_of c.args.known.now)) _ _ none c.loop.invariant.left)))
