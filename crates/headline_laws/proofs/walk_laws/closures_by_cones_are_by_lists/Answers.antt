use Rattle.headline_laws.proofs.walk_laws.Closures.{closure-arranged}
use Rattle.headline_laws.proofs.walk_laws.closures_by_cones_are_by_lists.Goals as goal

pub returns : goal.returns
returns c = closure-arranged
