use Rattle.std.proofs.Common.{◌≡◌, ◌+◌, length, sym, ◌∙◌, arith}
use Rattle.dist_state.proofs.shared_state.Joined.{fields-kept}
use Rattle.dist_state.proofs.shared_state.shared.Shared.fields.Goals as goal

pub overflow_add-result : goal.overflow_add-result
overflow_add-result c = omega (arith, c.sections.ensures, c.dofs.ensures, c.self.invariant.few_fields)

pub returns : goal.returns
returns c = λ rank low. fields-kept c.self.inside.scatter c.self.inside.points.items c.self.inside.forest c.args.self.now c.self.view_is c.self.invariant rank low ∙ sym (let a = c.sections.ensures in let b = c.dofs.ensures in let e : c.sections.result + c.dofs.result ≡ length c.self.inside.scatter.sections + length c.self.inside.scatter.dofs = omega arith in e)
