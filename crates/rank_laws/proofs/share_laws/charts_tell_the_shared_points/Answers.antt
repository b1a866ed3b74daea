use Rattle.rank_laws.proofs.share_laws.Owners.{own-forest}
use Rattle.rank_laws.proofs.share_laws.charts_tell_the_shared_points.Goals as goal

pub returns : goal.returns
returns c = own-forest
