use Rattle.std.proofs.Common.{◌≡◌, ◌+◌, ◌-◌, suc, arith}
use Rattle.std.proofs.lemmas.Result.{err_from_is_err_and}
use Rattle.std.proofs.lemmas.List.{map-append}
use Rattle.input_defs.specs.Sections.{name, names}
use Rattle.input_laws.proofs.reading_laws.Readers.{many-nothing}
use Rattle.msh_reader.proofs.Going.{goes-then, goes-fault, goes-same, onto-step, onto-fault, onto-done}
use Rattle.msh_reader.proofs.names.names.Goals as goal

pub returns-in_err-count : goal.returns-in_err-count
unfolding names
returns-in_err-count c =
    let p = err_from_is_err_and c.from_residual.result c.from_residual.ensures.1 in
    rw (p.1, p.2) (goes-fault _ c.in_err-count.ensures)

pub returns-in_err-name : goal.returns-in_err-name
unfolding names
returns-in_err-name c =
    let p = err_from_is_err_and c.from_residual-in_err-name.result c.from_residual-in_err-name.ensures.1 in
    let one : c.in_ok-count.count - c.loop.counter ≡ suc (c.in_ok-count.count - (c.loop.counter + 1)) = omega arith in
    rw (p.1, p.2) (goes-then _ c.in_ok-count.ensures (goes-same (many-nothing name _) (onto-fault (λ _. name) _ _ _ one c.loop.invariant c.in_err-name.ensures)))

pub loop-preserved : goal.loop-preserved
loop-preserved c =
    let one : c.in_ok-count.count - c.loop.counter ≡ suc (c.in_ok-count.count - (c.loop.counter + 1)) = omega arith in
    rw (c.in_ok-push.ensures.items, map-append) (onto-step (λ _. name) _ _ _ one c.loop.invariant c.in_ok-name.ensures)

pub returns : goal.returns
unfolding names
returns c =
    let none : c.in_ok-count.count - c.loop.counter ≡ 0 = omega arith in
    goes-then _ c.in_ok-count.ensures (goes-same (many-nothing name _) (onto-done (λ _. name) _ _ none c.loop.invariant))
