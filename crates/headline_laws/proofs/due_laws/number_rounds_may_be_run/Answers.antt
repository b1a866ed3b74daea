use Rattle.headline_laws.proofs.due_laws.Due.{number-meets}
use Rattle.headline_laws.proofs.due_laws.number_rounds_may_be_run.Goals as goal

pub returns : goal.returns
returns c = number-meets
