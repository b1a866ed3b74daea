use Rattle.headline_laws.proofs.seed_laws.Parts.{part-of_cells}
use Rattle.headline_laws.proofs.seed_laws.parts_go_by_cells.Goals as goal

pub returns : goal.returns
returns c = part-of_cells
