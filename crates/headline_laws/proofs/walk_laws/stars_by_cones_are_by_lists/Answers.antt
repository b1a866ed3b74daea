use Rattle.headline_laws.proofs.walk_laws.Stars.{star-arranged}
use Rattle.headline_laws.proofs.walk_laws.stars_by_cones_are_by_lists.Goals as goal

pub returns : goal.returns
returns c = star-arranged
