use Rattle.round_laws.proofs.LastValues.{last-after, legal-last}
use Rattle.round_laws.proofs.last_values_in_any_order.Goals as goal

pub returns : goal.returns
returns c = record { word = last-after; round = legal-last }
