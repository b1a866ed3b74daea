use Rattle.rank_chart_laws.proofs.field_laws.Marks.{own-label}
use Rattle.rank_chart_laws.proofs.field_laws.kept_marks_make_the_labels.Goals as goal

pub returns : goal.returns
returns c = λ m cells dim flat sound are. own-label m cells flat sound are dim
