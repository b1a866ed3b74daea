use Rattle.rank_laws.proofs.trace_laws.Traces.{roots-counted, leaves-traced}
use Rattle.rank_laws.proofs.trace_laws.leaves_are_owned_points.Goals as goal

pub returns-clause-roots : goal.returns-clause-roots
returns-clause-roots c = roots-counted

pub returns-clause-leaves : goal.returns-clause-leaves
returns-clause-leaves c = leaves-traced
