use Rattle.local_points.proofs.Strata.{faces-stratum}
use Rattle.local_points.proofs.laws.faces_are_a_stratum.Goals as goal

pub returns : goal.returns
returns c = faces-stratum
