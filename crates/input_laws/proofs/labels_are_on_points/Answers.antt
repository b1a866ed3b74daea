use Rattle.input_laws.proofs.Labels.{labels-on_points}
use Rattle.input_laws.proofs.labels_are_on_points.Goals as goal

pub returns : goal.returns
returns c = labels-on_points
