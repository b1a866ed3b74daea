use Rattle.std.proofs.Common.{◌≡◌, ◌+◌, true, false, sym, ◌∙◌, ap, subst, arith}
use Rattle.step_report.specs.Desks.{HasLeaf, has_line}
use Rattle.step_report.proofs.Placing.{leaf-there, count-shown, count-hidden, count-le}
use Rattle.step_report.proofs.desk.Desk.write_next.Goals as goal

pub write_point-requires-clause-leaf : goal.write_point-requires-clause-leaf
write_point-requires-clause-leaf g c =
    let shown : has_line c.args.kind c.args.self.now c.args.p ≡ true = sym c.has_line.ensures ∙ c.if-has_line.true in
    subst (HasLeaf c.args.kind c.args.self.now) (sym c.requires.before) (leaf-there c.args.kind c.args.self.now c.args.p c.requires.fits c.requires.p shown)

pub overflow_add-result : goal.overflow_add-result
overflow_add-result g c = omega (arith, c.requires.before, c.requires.last, count-le (has_line c.args.kind c.args.self.now) c.args.p)

pub returns-then-has_line-clause-next : goal.returns-then-has_line-clause-next
returns-then-has_line-clause-next g c =
    let shown : has_line c.args.kind c.args.self.now c.args.p ≡ true = sym c.has_line.ensures ∙ c.if-has_line.true in
    ap (λ n. n + 1) c.requires.before ∙ sym (count-shown (has_line c.args.kind c.args.self.now) c.args.p shown)

pub returns-clause-next : goal.returns-clause-next
returns-clause-next g c =
    let hidden : has_line c.args.kind c.args.self.now c.args.p ≡ false = sym c.has_line.ensures ∙ c.if-has_line.false in
    c.requires.before ∙ sym (count-hidden (has_line c.args.kind c.args.self.now) c.args.p hidden)
