-- Where the cells of a chart end.
use Rattle.std.proofs.Common.{◌≡◌, arith}
use Rattle.std.proofs.lemmas.Bool.Decides.{nat_tests}
use Rattle.mesh_defs.specs.Diagram.{Diagram}
use Rattle.plex_chart.specs.Chart.{stratum_range}

-- the cells come first, so they end where there are as many points
pub cells_end : (g : Diagram) → (stratum_range g g.dim).1 ≡ g.cells
cells_end g = grind (arith, nat_tests)
