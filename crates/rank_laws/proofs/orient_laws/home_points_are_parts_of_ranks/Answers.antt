use Rattle.rank_laws.proofs.orient_laws.HomeParts.{home-parts, flat-home}
use Rattle.rank_laws.proofs.orient_laws.home_points_are_parts_of_ranks.Goals as goal

pub returns-clause-parts : goal.returns-clause-parts
returns-clause-parts c = home-parts

pub returns-clause-flat : goal.returns-clause-flat
returns-clause-flat c = flat-home
