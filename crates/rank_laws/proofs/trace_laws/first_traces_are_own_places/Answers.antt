use Rattle.rank_laws.proofs.trace_laws.Traces.{first-traced}
use Rattle.rank_laws.proofs.trace_laws.first_traces_are_own_places.Goals as goal

pub returns : goal.returns
returns c = first-traced
