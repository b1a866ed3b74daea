use Rattle.headline_laws.proofs.seed_laws.Asking.{holders-meet}
use Rattle.headline_laws.proofs.seed_laws.holders_may_ask.Goals as goal

pub returns : goal.returns
returns c = holders-meet
