use Rattle.round_laws.proofs.Sums.{legal-sums}
use Rattle.round_laws.proofs.sums_take_numbers_apart.Goals as goal

pub returns : goal.returns
returns c = legal-sums
