use Rattle.round_laws.proofs.Legal.{legal-from-orders, legal-printed, legal-orders}
use Rattle.round_laws.proofs.replaying_orders_make_a_legal_round.Goals as goal

pub returns : goal.returns
returns c r = (λ h. legal-from-orders r h.0 h.1, λ l. (legal-printed r l, legal-orders r l))
