use Rattle.round_laws.proofs.Word.{printed-shuffled}
use Rattle.round_laws.proofs.printed_order_is_one.Goals as goal

pub returns : goal.returns
returns c = printed-shuffled
