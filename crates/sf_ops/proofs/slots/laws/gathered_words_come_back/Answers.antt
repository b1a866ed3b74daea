use Rattle.sf_ops.proofs.slots.Consequences.{words-back}
use Rattle.sf_ops.proofs.slots.laws.gathered_words_come_back.Goals as goal

pub returns : goal.returns
returns c = words-back
