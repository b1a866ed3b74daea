use Rattle.std.proofs.Common.{sym, arith}
use Rattle.std.proofs.lemmas.Grind.{common_steps}
use Rattle.sf_fabric.proofs.orders.ByWord.{below-zero}
use Rattle.sf_fabric.proofs.orders.orders.firsts_of.Goals as goal

pub loop-word-init : goal.loop-word-init
loop-word-init c = record { next = sym (below-zero c.args.places.now); count = grind (arith, common_steps); firsts = λ w h. absurd (omega arith) }
