use Rattle.input_laws.proofs.word_laws.Items.{listed_are_accepted}
use Rattle.input_laws.proofs.word_laws.listed_items_are_accepted.Goals as goal

pub returns : goal.returns
returns c = listed_are_accepted
