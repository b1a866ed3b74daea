use Rattle.local_points.proofs.Strata.{edges-stratum}
use Rattle.local_points.proofs.laws.edges_are_a_stratum.Goals as goal

pub returns : goal.returns
returns c = edges-stratum
