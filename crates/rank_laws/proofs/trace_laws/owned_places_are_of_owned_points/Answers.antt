use Rattle.rank_laws.proofs.trace_laws.Traces.{places-owned}
use Rattle.rank_laws.proofs.trace_laws.owned_places_are_of_owned_points.Goals as goal

pub returns : goal.returns
returns c = places-owned
