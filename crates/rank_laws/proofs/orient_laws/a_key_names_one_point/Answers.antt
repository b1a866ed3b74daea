use Rattle.rank_laws.proofs.orient_laws.Tops.{key-names}
use Rattle.rank_laws.proofs.orient_laws.a_key_names_one_point.Goals as goal

pub returns : goal.returns
returns c = key-names
