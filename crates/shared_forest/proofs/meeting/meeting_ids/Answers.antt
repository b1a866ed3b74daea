use Rattle.std.proofs.Common.{◌<◌, List, length, get_or, sym, ap, subst, arith}
use Rattle.rank_chart_laws.specs.meeting_laws.Sets.{RankChart, chart_at}
use Rattle.rank_chart_laws.proofs.meeting_laws.Meeting.{candidate-is}
use Rattle.rank_chart_laws.proofs.meeting_laws.Bounds.{count-fits}
use Rattle.shared_forest.proofs.meeting.meeting_ids.Goals as goal

pub overflow_add-first-in-loop-place : goal.overflow_add-first-in-loop-place
overflow_add-first-in-loop-place g c = let charts : List RankChart = g.C.RankCharts.charts c.args.charts.now in
    let low : get_or c.args.places.now c.loop-place.place-index 0 < length (chart_at charts c.args.rank).sets = subst (λ ps. get_or ps c.loop-place.place-index 0 < length (chart_at charts c.args.rank).sets) (sym c.requires.places) (candidate-is charts c.args.rank c.loop-place.place-index (omega (arith, ap length c.requires.places, c.loop-place-test.true))).0 in
    omega (arith, low, count-fits charts c.requires.right c.args.rank c.requires.rank, c.cells.ensures, ap length c.vertices.ensures)
