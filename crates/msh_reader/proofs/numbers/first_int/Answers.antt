use Rattle.std.proofs.Common.{◌≡◌, ◌-◌, pos, suc, rules, arith}
use Rattle.std.proofs.lemmas.Int.{to_z-of_z}
use Rattle.std.specs.Int.{w32}
use mir.Val.{SFits}
use Rattle.std.proofs.lemmas.Result.{err_from_is_err_and}
use Rattle.input_defs.specs.scan_defs.Numbers.{int_of}
use Rattle.input_defs.specs.Bodies.{int}
use Rattle.msh_reader.proofs.Going.{first-step, first-fault, others-fault, goes-number, goes-no_number}
use Rattle.msh_reader.proofs.numbers.first_int.Goals as goal

pub returns-in_err-first : goal.returns-in_err-first
returns-in_err-first c =
    let p = err_from_is_err_and c.from_residual.result c.from_residual.ensures.1 in
    let one : c.args.count ≡ suc (c.args.count - 1) = omega arith in
    rw (p.1, p.2) (first-fault (pos 0) int _ _ one (goes-no_number int_of c.in_err-first.ensures))

pub returns-in_err-pass_ints : goal.returns-in_err-pass_ints
returns-in_err-pass_ints c =
    let p = err_from_is_err_and c.from_residual-in_err-pass_ints.result c.from_residual-in_err-pass_ints.ensures.1 in
    let one : c.args.count ≡ suc (c.args.count - 1) = omega arith in
    rw (p.1, p.2) (others-fault (pos 0) int _ _ one (goes-number int_of c.in_ok-first.ensures) c.in_err-pass_ints.ensures)

pub returns : goal.returns
returns c =
    let one : c.args.count ≡ suc (c.args.count - 1) = omega arith in
    let fits : SFits w32 c.in_ok-first.first = search rules in
    rw (to_z-of_z w32 c.in_ok-first.first fits) (first-step (pos 0) int _ _ one (goes-number int_of c.in_ok-first.ensures) c.in_ok-pass_ints.ensures)
