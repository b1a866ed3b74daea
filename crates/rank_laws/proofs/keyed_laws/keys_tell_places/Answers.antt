use Rattle.rank_laws.proofs.reach_laws.Charts.{chart-members}
use Rattle.rank_laws.proofs.keyed_laws.Strata.{number-told}
use Rattle.rank_laws.proofs.keyed_laws.keys_tell_places.Goals as goal
use Rattle.std.proofs.Common.{◌∙◌}

pub returns : goal.returns
returns c = λ m cells p k sound are here named. number-told m cells sound.dim p k named (chart-members m cells sound are p ∙ here)
