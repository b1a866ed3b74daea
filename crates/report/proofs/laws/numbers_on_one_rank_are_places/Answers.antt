use Rattle.report.proofs.Numbered.{number-place}
use Rattle.report.proofs.laws.numbers_on_one_rank_are_places.Goals as goal

pub returns : goal.returns
returns c = number-place
