use Rattle.std.proofs.Common.{◌≡◌, ◌∙◌, sym, refl}
use Rattle.std.specs.Prelude.{Some, None}
use Rattle.std.specs.Result.{result_ok}
use Rattle.input_defs.specs.scan_defs.Numbers.{uint_of}
use Rattle.job_words.proofs.WordLemmas.{some_bytes, ok_some, ok_none, read_some, read_great, read_none}
use Rattle.job_words.proofs.made.size_of.Goals as goal

pub returns-in_err-n : goal.returns-in_err-n
returns-in_err-n c =
    let some = some_bytes c.args.digits.now (sym c.is_empty.ensures ∙ c.if-is_empty.false) in
    let none : result_ok (uint_of c.args.digits.now) ≡ None = rw (← c.read_uint.ensures) (sym c.ok.ensures.value ∙ c.in_err-n.was) in
    let fault = ok_none (uint_of c.args.digits.now) none in
    rw (c.from_residual.ensures, read_none c.args.kind c.args.digits.now fault.0 some c.if-digits-eq48.false fault.1) refl

pub returns-then-n-most : goal.returns-then-n-most
returns-then-n-most c =
    let some = some_bytes c.args.digits.now (sym c.is_empty.ensures ∙ c.if-is_empty.false) in
    let read : result_ok (uint_of c.args.digits.now) ≡ Some c.in_ok-n.n = rw (← c.read_uint.ensures) (sym c.ok.ensures.value ∙ c.in_ok-n.was) in
    sym (read_great c.args.kind c.args.digits.now c.in_ok-n.n some c.if-digits-eq48.false (ok_some _ _ read) (rw (← c.most.ensures) c.if-n-most.true))

pub returns-else-n-most : goal.returns-else-n-most
returns-else-n-most c =
    let some = some_bytes c.args.digits.now (sym c.is_empty.ensures ∙ c.if-is_empty.false) in
    let read : result_ok (uint_of c.args.digits.now) ≡ Some c.in_ok-n.n = rw (← c.read_uint.ensures) (sym c.ok.ensures.value ∙ c.in_ok-n.was) in
    sym (read_some c.args.kind c.args.digits.now c.in_ok-n.n some c.if-digits-eq48.false (ok_some _ _ read) (rw (← c.most.ensures) c.if-n-most.false))
