use Rattle.mesh_laws.proofs.Keys.{key-least}
use Rattle.mesh_laws.proofs.key_is_least.Goals as goal

pub returns : goal.returns
returns c = key-least
