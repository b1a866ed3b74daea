use Rattle.rank_laws.proofs.Forests.{compose-associative}
use Rattle.rank_laws.proofs.composition_is_associative.Goals as goal

pub returns : goal.returns
returns c = compose-associative
