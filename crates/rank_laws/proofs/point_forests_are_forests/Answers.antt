use Rattle.rank_laws.proofs.PointForests.{point-forest-sound}
use Rattle.rank_laws.proofs.point_forests_are_forests.Goals as goal

pub returns : goal.returns
returns c = λ m n a k parts. point-forest-sound m n a parts k
