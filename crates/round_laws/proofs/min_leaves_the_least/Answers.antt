use Rattle.round_laws.proofs.LoadsAndLeast.{legal-least}
use Rattle.round_laws.proofs.min_leaves_the_least.Goals as goal

pub returns : goal.returns
returns c = legal-least
