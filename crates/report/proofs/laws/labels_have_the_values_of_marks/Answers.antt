use Rattle.report.proofs.Labels.{label-marks}
use Rattle.report.proofs.laws.labels_have_the_values_of_marks.Goals as goal

pub returns : goal.returns
returns c = label-marks
