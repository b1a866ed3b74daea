use Rattle.interp_share.proofs.own_field_laws.Totals.{own-roots, own-leaves, own-totals}
use Rattle.interp_share.proofs.own_field_laws.sums_of_own_weights_are_weights.Goals as goal

pub returns : goal.returns
returns c = record { roots = own-roots; leaves = own-leaves; sums = own-totals }
