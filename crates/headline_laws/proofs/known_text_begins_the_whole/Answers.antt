use Rattle.headline_laws.proofs.Begins.{known-begins}
use Rattle.headline_laws.proofs.known_text_begins_the_whole.Goals as goal

pub returns : goal.returns
returns c = known-begins
