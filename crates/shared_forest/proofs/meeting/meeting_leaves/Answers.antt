use Rattle.std.proofs.Common.{ℕ, ◌<◌, List, [], length, get_or, sym, ap, ap₂, ◌∙◌, subst, arith}
use Rattle.sf_defs.specs.Forest.{leaf}
use Rattle.rank_chart_laws.specs.meeting_laws.Sets.{RankChart, chart_at, IsSetOf}
use Rattle.rank_chart_laws.specs.meeting_laws.Steps.{meeting_place, set_at, candidates}
use Rattle.rank_chart_laws.proofs.meeting_laws.Meeting.{candidate-is, set-right}
use Rattle.rank_chart_laws.proofs.meeting_laws.Loops.{pushed_below}
use Rattle.rank_chart_laws.proofs.meeting_laws.Bounds.{count-fits, candidates-few}
use Rattle.shared_forest.proofs.meeting.meeting_leaves.Goals as goal

pub bounds-sets-places : goal.bounds-sets-places
bounds-sets-places g c = let charts : List RankChart = g.C.RankCharts.charts c.args.charts.now in
    let low : get_or c.args.places.now c.loop-j.j 0 < length (chart_at charts c.args.rank).sets = subst (λ ps. get_or ps c.loop-j.j 0 < length (chart_at charts c.args.rank).sets) (sym c.requires.places) (candidate-is charts c.args.rank c.loop-j.j (omega (arith, ap length c.requires.places, c.loop-j-test.true))).0 in
    omega (arith, low, ap length c.sets-sets.ensures)

pub meeting_place-owner-requires-clause-set : goal.meeting_place-owner-requires-clause-set
meeting_place-owner-requires-clause-set g c = let charts : List RankChart = g.C.RankCharts.charts c.args.charts.now in
    let low : get_or c.args.places.now c.loop-j.j 0 < length (chart_at charts c.args.rank).sets = subst (λ ps. get_or ps c.loop-j.j 0 < length (chart_at charts c.args.rank).sets) (sym c.requires.places) (candidate-is charts c.args.rank c.loop-j.j (omega (arith, ap length c.requires.places, c.loop-j-test.true))).0 in
    subst (λ l. IsSetOf (chart_at charts c.args.rank) (get_or l (get_or c.args.places.now c.loop-j.j 0) [])) (sym c.sets-sets.ensures) (set-right charts c.requires.right c.args.rank (get_or c.args.places.now c.loop-j.j 0) c.requires.rank low)

pub overflow_cast-j : goal.overflow_cast-j
overflow_cast-j g c = let charts : List RankChart = g.C.RankCharts.charts c.args.charts.now in omega (arith, c.loop-j-test.true, ap length c.requires.places, candidates-few charts c.requires.right c.args.rank, count-fits charts c.requires.right c.args.rank c.requires.rank)

pub loop-j-preserved : goal.loop-j-preserved
loop-j-preserved g c = let charts : List RankChart = g.C.RankCharts.charts c.args.charts.now in
    pushed_below (λ j. leaf j (meeting_place charts c.args.rank (set_at (chart_at charts c.args.rank) (get_or (candidates charts c.args.rank) j 0)))) c.loop-j.j c.loop-j.leaves.items _ _ c.loop-j.invariant
    (ap (leaf c.loop-j.j) (c.meeting_place-owner.ensures ∙ ap₂ (λ (l : List (List ℕ)) ps. meeting_place charts c.args.rank (get_or l (get_or ps c.loop-j.j 0) [])) c.sets-sets.ensures c.requires.places)) c.in_ok-push.ensures.items
