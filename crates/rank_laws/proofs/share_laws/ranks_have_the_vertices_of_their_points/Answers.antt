use Rattle.rank_laws.proofs.share_laws.Vertices.{rank-vertices}
use Rattle.rank_laws.proofs.share_laws.ranks_have_the_vertices_of_their_points.Goals as goal

pub returns : goal.returns
returns c = λ m a r p v sound h e. rank-vertices m a sound r p v h e
