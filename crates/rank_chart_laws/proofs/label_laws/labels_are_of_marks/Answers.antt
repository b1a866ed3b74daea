use Rattle.rank_chart_laws.proofs.label_laws.Marked.{label-of-marks}
use Rattle.rank_chart_laws.proofs.label_laws.labels_are_of_marks.Goals as goal

pub returns : goal.returns
returns c = label-of-marks
