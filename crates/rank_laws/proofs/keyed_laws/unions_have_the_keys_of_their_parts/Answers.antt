use Rattle.rank_laws.proofs.keyed_laws.Unions.{union-keys}
use Rattle.rank_laws.proofs.keyed_laws.unions_have_the_keys_of_their_parts.Goals as goal

pub returns : goal.returns
returns c = union-keys
