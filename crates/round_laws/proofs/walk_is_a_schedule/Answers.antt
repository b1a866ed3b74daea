use Rattle.round_laws.proofs.Scripts.{walk-schedule}
use Rattle.round_laws.proofs.walk_is_a_schedule.Goals as goal

pub returns : goal.returns
returns c = walk-schedule
