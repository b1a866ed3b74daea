use Rattle.round_laws.proofs.Tests.{decides-legal, decides-conditions}
use Rattle.round_laws.proofs.legal_is_decided.Goals as goal

pub returns : goal.returns
returns c = record { legal = decides-legal; conditions = decides-conditions }
