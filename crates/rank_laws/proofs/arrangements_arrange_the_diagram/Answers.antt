use Rattle.rank_laws.proofs.Arranging.{arranged-diagram, arranged-cells, arranged-held}
use Rattle.rank_laws.proofs.arrangements_arrange_the_diagram.Goals as goal

pub returns : goal.returns
returns c = record { all_cells = arranged-diagram; some_cells = arranged-cells; cells_of_ranks = arranged-held }
