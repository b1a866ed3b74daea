use Rattle.rank_laws.proofs.keyed_laws.Unions.{chart-same, stratum-same}
use Rattle.rank_laws.proofs.keyed_laws.charts_depend_on_which_cells.Goals as goal

pub returns-clause-charts : goal.returns-clause-charts
returns-clause-charts c = chart-same

pub returns-clause-strata : goal.returns-clause-strata
returns-clause-strata c = stratum-same
