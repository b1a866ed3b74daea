use Rattle.interp_share.proofs.own_field_laws.Totals.{weights-low}
use Rattle.interp_share.proofs.own_field_laws.weights_are_low.Goals as goal

pub returns : goal.returns
returns c = weights-low
