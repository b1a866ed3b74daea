use Rattle.std.proofs.Common.{◌≡◌, ◌++◌, ◌==◌, not, get_or, ◌/◌, ◌%◌, ◌^◌}
use Rattle.sf_defs.specs.Forest.{leaf}
use Rattle.rank_chart_laws.specs.meeting_laws.Sets.{chart_at}
use Rattle.rank_chart_laws.specs.meeting_laws.Steps.{chosen, behind, candidates}
use Rattle.shared_forest.proofs.joining.push_met.Given as goal

abbrev pub invariant-loop-j : goal.invariant-loop-j
invariant-loop-j g l = l.leaves.items ≡ l.fn.leaves.items ++ chosen (λ j. not (get_or l.met j 0 / 2 ^ 32 == l.rank)) (λ j. leaf (behind (chart_at (g.C.RankCharts.charts l.charts) l.rank) (get_or (candidates (g.C.RankCharts.charts l.charts) l.rank) j 0)) (get_or l.met j 0 / 2 ^ 32, get_or l.met j 0 % 2 ^ 32)) l.j
