use Rattle.input_laws.proofs.made_laws.Made.{right-made}
use Rattle.input_laws.proofs.made_laws.made_meshes_are_right.Goals as goal

pub returns : goal.returns
returns c = right-made
