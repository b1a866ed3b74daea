use Rattle.rank_cones.proofs.arrangement_laws.Told.{all-told}
use Rattle.rank_cones.proofs.arrangement_laws.greatest_offers_tell_the_arrangements.Goals as goal

pub returns : goal.returns
returns c s m dofs a n keys orders is keys-are greatest = all-told s m dofs a n is keys keys-are orders greatest
