use Rattle.rank_laws.proofs.diagram_laws.Twists.{twist-is}
use Rattle.rank_laws.proofs.diagram_laws.twist_is_the_first_unrelated_face.Goals as goal

pub returns : goal.returns
returns c m right = twist-is m right.sound right.differ
