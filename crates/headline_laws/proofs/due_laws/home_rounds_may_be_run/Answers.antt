use Rattle.headline_laws.proofs.due_laws.Due.{home-meets}
use Rattle.headline_laws.proofs.due_laws.home_rounds_may_be_run.Goals as goal

pub returns : goal.returns
returns c = home-meets
