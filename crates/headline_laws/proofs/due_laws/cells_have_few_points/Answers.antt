use Rattle.headline_laws.proofs.due_laws.Few.{vertices-few, strata-few}
use Rattle.headline_laws.proofs.due_laws.cells_have_few_points.Goals as goal

pub returns-clause-vertices : goal.returns-clause-vertices
returns-clause-vertices c = vertices-few

pub returns-clause-points : goal.returns-clause-points
returns-clause-points c = strata-few
