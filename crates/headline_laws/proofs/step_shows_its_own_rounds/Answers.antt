use Rattle.headline_laws.proofs.Steps.{step-own}
use Rattle.headline_laws.proofs.step_shows_its_own_rounds.Goals as goal

pub returns : goal.returns
returns c = step-own
