use Rattle.rank_chart_laws.proofs.moved_laws.Places.{is-reordering, same-length}
use Rattle.rank_chart_laws.proofs.moved_laws.moves_between_charts_reorder.Goals as goal

pub returns-clause-order : goal.returns-clause-order
returns-clause-order c = is-reordering

pub returns-clause-as_many : goal.returns-clause-as_many
returns-clause-as_many c = same-length
