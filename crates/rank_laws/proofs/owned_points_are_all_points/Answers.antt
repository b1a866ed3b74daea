use Rattle.rank_laws.proofs.Owning.{owned-all}
use Rattle.rank_laws.proofs.owned_points_are_all_points.Goals as goal

pub returns : goal.returns
returns c = λ m n a used parts. owned-all m used n a parts
