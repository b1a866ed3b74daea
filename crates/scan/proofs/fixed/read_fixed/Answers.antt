use Rattle.std.proofs.Common.{sym, ap, ◌∙◌, rules, arith}
use Rattle.std.proofs.Common.{Ok, w64}
use Rattle.std.proofs.lemmas.Int.{to_z-of_z}
use Rattle.scan.proofs.Splits.{fixed-no, fixed-out, fixed-some}
use Rattle.scan.proofs.fixed.read_fixed.Goals as goal

pub returns-in_default : goal.returns-in_default
returns-in_default c = sym (fixed-no c.args.t.now c.in_default.ensures)

pub with_sign-requires : goal.with_sign-requires
with_sign-requires c = (fixed-some c.args.t.now c.in-Some.parts c.in-Some-magnitude.magnitude c.in-Some.ensures (omega arith) (sym c.in-Some-magnitude.is ∙ c.magnitude.ensures)).0

pub returns-in-Some-magnitude : goal.returns-in-Some-magnitude
returns-in-Some-magnitude c =
    let e = (fixed-some c.args.t.now c.in-Some.parts c.in-Some-magnitude.magnitude c.in-Some.ensures (omega arith) (sym c.in-Some-magnitude.is ∙ c.magnitude.ensures)).1 in
    ap Ok (to_z-of_z w64 c.with_sign.result (search rules)) ∙ ap Ok c.with_sign.ensures ∙ sym e

pub returns-in-None : goal.returns-in-None
returns-in-None c = sym (fixed-out c.args.t.now c.in-Some.parts c.in-Some.ensures (omega arith) (sym c.in-None.is ∙ c.magnitude.ensures))
