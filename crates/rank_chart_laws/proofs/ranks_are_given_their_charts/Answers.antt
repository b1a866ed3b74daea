use Rattle.rank_chart_laws.proofs.Given.{rank-cells, rank-vertices, rank-owners, rank-own_vertices}
use Rattle.rank_chart_laws.proofs.ranks_are_given_their_charts.Goals as goal

pub returns : goal.returns
returns c = record { cells = rank-cells; vertices = rank-vertices; owners = rank-owners; own_vertices = rank-own_vertices }
