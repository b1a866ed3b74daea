use Rattle.rank_laws.proofs.diagram_laws.Cones.{turn-edge, turn-face}
use Rattle.rank_laws.proofs.diagram_laws.orientations_are_by_first_sights.Goals as goal

pub returns-clause-edges : goal.returns-clause-edges
returns-clause-edges c m right = turn-edge m right.sound right.differ

pub returns-clause-faces : goal.returns-clause-faces
returns-clause-faces c m right = turn-face m right.sound right.differ
