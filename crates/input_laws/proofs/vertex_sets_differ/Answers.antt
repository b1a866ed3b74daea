use Rattle.input_laws.proofs.RightFiles.{sets-apart}
use Rattle.input_laws.proofs.vertex_sets_differ.Goals as goal

pub returns : goal.returns
returns c = sets-apart
