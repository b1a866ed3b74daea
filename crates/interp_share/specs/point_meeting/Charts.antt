-- The charts of ranks by what each rank is given and sees.
use Rattle.std.specs.Prelude.{◌≡◌, ◌^◌, ◌<◌, List, length, map}
use Rattle.std.specs.List.{AllByRecursion}
use Rattle.rank_defs.specs.Spread.{ScatterPart}
use Rattle.rank_chart_laws.specs.meeting_laws.Sets.{RankChart}
use Rattle.interp_share.specs.rank_points.Seen.{Seen, seen_of, all_seen}

-- what a rank has: its cells and vertices, and its faces and edges as sets
abbrev pub chart_of : ScatterPart → RankChart
chart_of part = record { cells = length part.cells; vertices = part.vertices; owners = part.owners; sets = (seen_of part.cells).sets }

abbrev pub charts_of : List ScatterPart → List RankChart
charts_of parts = map chart_of parts

-- each rank has seen its points, and 32 bits can count its cells
pub record ArePartCharts (parts : List ScatterPart) (seen : List Seen) : Type 0 where
  pub told : seen ≡ all_seen parts
  pub few : AllByRecursion (λ (part : ScatterPart). length part.cells < 2 ^ 32) parts
