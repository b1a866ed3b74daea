use Rattle.rank_laws.proofs.keyed_laws.Readings.{points-read}
use Rattle.rank_laws.proofs.keyed_laws.diagrams_and_keys_tell_points.Goals as goal

pub returns : goal.returns
returns c = points-read
