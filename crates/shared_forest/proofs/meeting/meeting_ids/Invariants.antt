use Rattle.std.proofs.Common.{◌≡◌, map, take}
use Rattle.rank_chart_laws.specs.meeting_laws.Sets.{chart_at}
use Rattle.rank_chart_laws.specs.meeting_laws.Steps.{point_id, behind}
use Rattle.shared_forest.proofs.meeting.meeting_ids.Given as goal

abbrev pub invariant-loop-place : goal.invariant-loop-place
invariant-loop-place g l = l.ids.items ≡ map (λ k. point_id l.rank (behind (chart_at (g.C.RankCharts.charts l.charts) l.rank) k)) (take l.place-index l.places)
