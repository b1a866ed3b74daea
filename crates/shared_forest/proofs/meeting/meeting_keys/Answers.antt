use Rattle.std.proofs.Common.{◌<◌, List, [], length, get_or, sym, ap, ◌∙◌, subst, arith}
use Rattle.rank_laws.specs.share_laws.Packed.{packed}
use Rattle.rank_chart_laws.specs.meeting_laws.Sets.{RankChart, chart_at}
use Rattle.rank_chart_laws.specs.meeting_laws.Steps.{set_at}
use Rattle.rank_chart_laws.proofs.meeting_laws.Meeting.{candidate-is}
use Rattle.rank_chart_laws.proofs.meeting_laws.Loops.{mapped_more}
use Rattle.shared_forest.proofs.meeting.meeting_keys.Goals as goal

pub bounds-sets-place : goal.bounds-sets-place
bounds-sets-place g c = let charts : List RankChart = g.C.RankCharts.charts c.args.charts.now in
    let low : get_or c.args.places.now c.loop-place.place-index 0 < length (chart_at charts c.args.rank).sets = subst (λ ps. get_or ps c.loop-place.place-index 0 < length (chart_at charts c.args.rank).sets) (sym c.requires.places) (candidate-is charts c.args.rank c.loop-place.place-index (omega (arith, ap length c.requires.places, c.loop-place-test.true))).0 in
    omega (arith, low, ap length c.sets-sets.ensures)

pub loop-place-preserved : goal.loop-place-preserved
loop-place-preserved g c = let charts : List RankChart = g.C.RankCharts.charts c.args.charts.now in
    mapped_more (λ k. packed (set_at (chart_at charts c.args.rank) k)) c.args.places.now c.loop-place.place-index 0 c.loop-place.keys.items _ _ c.loop-place.invariant c.loop-place-test.true (c.packed_set.ensures ∙ ap (λ l. packed (get_or l (get_or c.args.places.now c.loop-place.place-index 0) [])) c.sets-sets.ensures) c.in_ok-push.ensures.items
