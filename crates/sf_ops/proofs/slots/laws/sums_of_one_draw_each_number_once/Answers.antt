use Rattle.sf_ops.proofs.slots.Consequences.{ones-once}
use Rattle.sf_ops.proofs.slots.laws.sums_of_one_draw_each_number_once.Goals as goal

pub returns : goal.returns
returns c = ones-once
