use Rattle.rank_laws.proofs.orient_laws.Tops.{stratum-rising, chart_stratum-rising}
use Rattle.rank_laws.proofs.orient_laws.keys_rise_along_strata.Goals as goal

pub returns-clause-whole : goal.returns-clause-whole
returns-clause-whole c = stratum-rising

pub returns-clause-charts : goal.returns-clause-charts
returns-clause-charts c = chart_stratum-rising
