use Rattle.round_laws.proofs.Scripts.{scheduled-legal}
use Rattle.round_laws.proofs.scheduled_round_is_legal.Goals as goal

pub returns : goal.returns
returns c tag words asks events schedule conditions = scheduled-legal words asks events schedule tag conditions
