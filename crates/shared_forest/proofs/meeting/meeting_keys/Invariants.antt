use Rattle.std.proofs.Common.{◌≡◌, map, take}
use Rattle.rank_laws.specs.share_laws.Packed.{packed}
use Rattle.rank_chart_laws.specs.meeting_laws.Sets.{chart_at}
use Rattle.rank_chart_laws.specs.meeting_laws.Steps.{set_at}
use Rattle.shared_forest.proofs.meeting.meeting_keys.Given as goal

abbrev pub invariant-loop-place : goal.invariant-loop-place
invariant-loop-place g l = l.keys.items ≡ map (λ k. packed (set_at (chart_at (g.C.RankCharts.charts l.charts) l.rank) k)) (take l.place-index l.places)
