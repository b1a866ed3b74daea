use Rattle.rank_chart_laws.proofs.moved_laws.Labels.{moved-label}
use Rattle.rank_chart_laws.proofs.moved_laws.labels_move.Goals as goal

pub returns : goal.returns
returns c = λ m dim old new are. moved-label old new are m dim
