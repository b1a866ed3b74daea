use Rattle.rank_chart_laws.proofs.moved_laws.Moved.{moved-fields}
use Rattle.rank_chart_laws.proofs.moved_laws.fields_move.Goals as goal

pub returns : goal.returns
returns c = λ m dofs old new are numbers. moved-fields old new are m numbers dofs
