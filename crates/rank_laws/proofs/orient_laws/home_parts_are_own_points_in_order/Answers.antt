use Rattle.rank_laws.proofs.orient_laws.HomeParts.{home-sorted}
use Rattle.rank_laws.proofs.orient_laws.home_parts_are_own_points_in_order.Goals as goal

pub returns : goal.returns
returns c = λ m a r dim points sound middle order same. home-sorted m sound a r dim middle points order same
