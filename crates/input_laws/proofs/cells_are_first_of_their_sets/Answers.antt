use Rattle.input_laws.proofs.Kept.{cells-order, cells-first, cells-differ}
use Rattle.input_laws.proofs.Labels.{cells-made, cells-dims}
use Rattle.input_laws.proofs.cells_are_first_of_their_sets.Goals as goal

pub returns-clause-cells : goal.returns-clause-cells
returns-clause-cells c = cells-made

pub returns-clause-order : goal.returns-clause-order
returns-clause-order c = cells-order

pub returns-clause-first : goal.returns-clause-first
returns-clause-first c = cells-first

pub returns-clause-dims : goal.returns-clause-dims
returns-clause-dims c = cells-dims

pub returns-clause-different : goal.returns-clause-different
returns-clause-different c = cells-differ
