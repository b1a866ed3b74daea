use Rattle.headline_laws.proofs.seed_laws.Owners.{owners-last}
use Rattle.headline_laws.proofs.seed_laws.owners_are_the_least_holders.Goals as goal

pub returns : goal.returns
returns c = owners-last
