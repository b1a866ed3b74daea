use Rattle.headline_laws.proofs.Plain.{plain}
use Rattle.headline_laws.proofs.plain_plan_prints_the_full_text.Goals as goal

pub returns : goal.returns
returns c = plain
