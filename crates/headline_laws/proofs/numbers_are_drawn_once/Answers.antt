use Rattle.headline_laws.proofs.Numbers.{drawn-once}
use Rattle.headline_laws.proofs.numbers_are_drawn_once.Goals as goal

pub returns : goal.returns
returns c = drawn-once
