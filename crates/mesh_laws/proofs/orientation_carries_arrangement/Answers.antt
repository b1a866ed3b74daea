use Rattle.mesh_laws.proofs.Keys.{seen_under-carries}
use Rattle.mesh_laws.proofs.orientation_carries_arrangement.Goals as goal

pub returns : goal.returns
returns c = seen_under-carries
