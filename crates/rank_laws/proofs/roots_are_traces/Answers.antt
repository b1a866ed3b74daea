use Rattle.rank_laws.proofs.PointForests.{roots-are-traces}
use Rattle.rank_laws.proofs.roots_are_traces.Goals as goal

pub returns : goal.returns
returns c = roots-are-traces
