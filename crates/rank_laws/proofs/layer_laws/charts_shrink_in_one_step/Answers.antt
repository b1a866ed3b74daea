use Rattle.rank_laws.proofs.layer_laws.Shrinking.{chart-shrinks}
use Rattle.rank_laws.proofs.layer_laws.charts_shrink_in_one_step.Goals as goal

pub returns : goal.returns
returns c = chart-shrinks
