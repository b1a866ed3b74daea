use Rattle.round_laws.proofs.Legal.{legal-is-order}
use Rattle.round_laws.proofs.legal_order_has_each_entry_once.Goals as goal

pub returns : goal.returns
returns c = legal-is-order
