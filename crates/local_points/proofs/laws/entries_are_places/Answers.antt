use Rattle.std.proofs.Common.{[]}
use Rattle.local_points.specs.Cells.{sight_at}
use Rattle.local_points.proofs.Strata.{face-place, edge-place}
use Rattle.local_points.proofs.laws.entries_are_places.Goals as goal

pub returns-clause-faces : goal.returns-clause-faces
returns-clause-faces c = λ cells i f. face-place cells i f (sight_at [] 0)

pub returns-clause-edges : goal.returns-clause-edges
returns-clause-edges c = λ cells i e. edge-place cells i e (sight_at [] 0)
