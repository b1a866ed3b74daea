use Rattle.rank_laws.proofs.share_laws.Vertices.{shared-vertices}
use Rattle.rank_laws.proofs.share_laws.shared_points_have_shared_vertices.Goals as goal

pub returns : goal.returns
returns c = λ m a p v sound h e. shared-vertices m a sound p v h e
