use Rattle.rank_laws.proofs.Forests.{compose-map}
use Rattle.rank_laws.proofs.composition_is_of_maps.Goals as goal

pub returns : goal.returns
returns c = compose-map
