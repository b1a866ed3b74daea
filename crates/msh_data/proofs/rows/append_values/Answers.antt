use Rattle.std.proofs.Common.{◌≡◌, ◌+◌, ◌-◌, suc, rules, arith}
use Rattle.std.proofs.lemmas.Result.{err_from_is_err_and}
use Rattle.std.proofs.lemmas.Int.{to_z-of_z}
use Rattle.std.specs.Int.{w64}
use mir.Val.{SFits}
use Rattle.input_defs.specs.scan_defs.Numbers.{fixed_of}
use Rattle.input_defs.specs.Bodies.{fixed}
use Rattle.input_laws.proofs.reading_laws.Going.{goes-number, onto-step, onto-fault}
use Rattle.msh_data.proofs.rows.append_values.Goals as goal

pub loop-preserved : goal.loop-preserved
loop-preserved c =
    let one : c.args.count - c.loop.counter ≡ suc (c.args.count - (c.loop.counter + 1)) = omega arith in
    let fits : SFits w64 c.in_ok-value.value = search rules in
    rw (c.in_ok-push.ensures.items, to_z-of_z w64 c.in_ok-value.value fits) (onto-step (λ _. fixed) _ _ _ one c.loop.invariant (goes-number fixed_of c.in_ok-value.ensures))

pub returns-in_err-value : goal.returns-in_err-value
returns-in_err-value c =
    let p = err_from_is_err_and c.from_residual.result c.from_residual.ensures.1 in
    let one : c.args.count - c.loop.counter ≡ suc (c.args.count - (c.loop.counter + 1)) = omega arith in
    rw (p.1, p.2) (onto-fault (λ _. fixed) _ _ _ one c.loop.invariant (goes-number fixed_of c.in_err-value.ensures))
