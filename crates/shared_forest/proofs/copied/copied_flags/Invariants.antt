use Rattle.std.proofs.Common.{◌≡◌, ◌<◌, ℕ, false, length, get_or}
use Rattle.rank_chart_laws.specs.meeting_laws.Steps.{is_copied}
use Rattle.shared_forest.proofs.copied.copied_flags.Given as goal

abbrev pub invariant-loop-i : goal.invariant-loop-i
invariant-loop-i g l = (length l.flags.items ≡ length l.initial.flags.items) × ((j : ℕ) → j < l.i → get_or l.flags.items (get_or l.vertices j 0) false ≡ is_copied (g.C.RankCharts.charts l.charts) l.rank (get_or l.vertices j 0))
