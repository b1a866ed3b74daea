use Rattle.rank_laws.proofs.reach_laws.Charts.{chart-members}
use Rattle.rank_laws.proofs.reach_laws.charts_show_what_cells_contain.Goals as goal

pub returns : goal.returns
returns c = λ m cells p sound are. chart-members m cells sound are p
