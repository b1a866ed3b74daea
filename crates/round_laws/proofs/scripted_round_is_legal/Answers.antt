use Rattle.round_laws.proofs.Scripts.{scripted-legal}
use Rattle.round_laws.proofs.scripted_round_is_legal.Goals as goal

pub returns : goal.returns
returns c = scripted-legal
