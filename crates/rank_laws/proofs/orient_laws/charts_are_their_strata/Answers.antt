use Rattle.rank_laws.proofs.orient_laws.ByKey.{chart-strata}
use Rattle.rank_laws.proofs.orient_laws.charts_are_their_strata.Goals as goal

pub returns : goal.returns
returns c = chart-strata
