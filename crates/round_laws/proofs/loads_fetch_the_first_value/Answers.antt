use Rattle.round_laws.proofs.LoadsAndLeast.{legal-loads}
use Rattle.round_laws.proofs.loads_fetch_the_first_value.Goals as goal

pub returns : goal.returns
returns c = legal-loads
