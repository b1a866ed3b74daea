use Rattle.rank_laws.proofs.diagram_laws.Whole.{diagram-is}
use Rattle.rank_laws.proofs.diagram_laws.diagram_is_by_places.Goals as goal

pub returns : goal.returns
returns c m right = diagram-is m right.sound right.differ
