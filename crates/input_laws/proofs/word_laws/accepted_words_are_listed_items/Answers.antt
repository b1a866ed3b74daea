use Rattle.input_laws.proofs.word_laws.Items.{accepted_are_listed}
use Rattle.input_laws.proofs.word_laws.accepted_words_are_listed_items.Goals as goal

pub returns : goal.returns
returns c = accepted_are_listed
