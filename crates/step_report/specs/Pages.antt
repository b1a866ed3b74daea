-- The lines that each rank has in a step.
use Rattle.std.specs.Prelude.{ℕ, List, ◌++◌, length, flat_map}
use Rattle.sf_defs.specs.Rounds.{Round}
use Rattle.input_defs.specs.declared.Show.{Show}
use Rattle.headline_defs.specs.StepText.{where_shown}
use Rattle.rank_defs.specs.Spread.{LocalMesh}
use Rattle.walk_defs.specs.step_defs.Steps.{ranks_of, plain_rank, plain_ghosts, plain_total, plain_round}
use Rattle.step_report.specs.declared.pages.Pages.{Pages}
use Rattle.step_report.specs.declared.pages.Lines.{Lines}
use Rattle.step_report.specs.declared.pages.Lines.TheVariants as kinds
use Rattle.step_report.specs.declared.desk.PointLines.TheVariants.{Owned, Held, Closures, Traces}
use Rattle.step_report.specs.Conditions.{FitsRanks}
use Rattle.step_report.specs.Desks.{plain_lines}

abbrev pub FitsPages : Pages → Type 0
FitsPages p = FitsRanks p.dist.now p.bases.now.bases p.numbers.now p.trace.now

-- the lines of a kind on one rank
abbrev pub lines_on : Lines → Pages → ℕ × LocalMesh → List ℕ
lines_on kinds.Ranks p = plain_rank p.bases.now.bases
lines_on kinds.Ghosts p = plain_ghosts (length p.dist.now.locals)
lines_on (kinds.Points kind) p = plain_lines kind p.dist.now.sections p.dist.now.points p.numbers.now p.trace.now

-- on all ranks
abbrev pub all_lines : Lines → Pages → List ℕ
all_lines kind p = flat_map (lines_on kind p) (ranks_of p.dist.now)

-- all lines of a step but the first
unfoldable pub details_of : Pages → List Round → Show → List ℕ
details_of p rounds show =
    all_lines kinds.Ranks p ++ all_lines kinds.Ghosts p ++ plain_total (ranks_of p.dist.now)
    ++ where_shown show.points (all_lines (kinds.Points Owned) p) ++ where_shown show.local (all_lines (kinds.Points Held) p)
    ++ where_shown show.closure (all_lines (kinds.Points Closures) p) ++ where_shown show.trace (all_lines (kinds.Points Traces) p)
    ++ where_shown show.windows (flat_map plain_round rounds)
