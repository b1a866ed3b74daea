use Rattle.interp_share.proofs.own_field_laws.Points.{own-points, own-weights}
use Rattle.interp_share.proofs.own_field_laws.own_charts_are_of_parts.Goals as goal

pub returns : goal.returns
returns c = record { points = λ m a r right. own-points m right a r; weights = λ m a r right. own-weights m right a r }
