use Rattle.std.proofs.Common.{◌<◌, sym, ◌∙◌, arith}
use Rattle.msh_reader.proofs.NumberSets.{order-test, order-out, not-one}
use Rattle.msh_reader.proofs.number_set.NumberSet.is_in_order.Goals as goal

pub returns-then-number-ge1 : goal.returns-then-number-ge1
returns-then-number-ge1 c = order-test c.args.self.now.in_order c.args.number c.if-number-ge1.true

pub returns-else-number-ge1 : goal.returns-else-number-ge1
returns-else-number-ge1 c = let below : c.args.number < 1 = c.if-number-ge1.false in not-one c.args.number below ∙ sym (order-out c.args.self.now.in_order c.args.number (λ low high. absurd (omega arith)))
