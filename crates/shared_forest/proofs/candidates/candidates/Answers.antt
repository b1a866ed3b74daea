use Rattle.std.proofs.Common.{◌≡◌, ◌<◌, ◌⊎◌, ℕ, Bool, true, List, [], length, get_or, Vec, Global, sym, ap, ◌∙◌, subst}
use Rattle.std.specs.List.{AllByRecursion}
use Rattle.rank_laws.specs.share_laws.Packed.{no_vertex}
use Rattle.plain_lists.proofs.Each.{all_at}
use Rattle.rank_chart_laws.specs.meeting_laws.Sets.{RankChart, IsSetOf, chart_at, has_vertex}
use Rattle.rank_chart_laws.specs.meeting_laws.Steps.{may_share, set_at}
use Rattle.rank_chart_laws.proofs.meeting_laws.Homes.{chart-right}
use Rattle.rank_chart_laws.proofs.meeting_laws.Loops.{kept_more, kept_less}
use Rattle.shared_forest.specs.Flags.{AreFlagged, all_up}
use Rattle.shared_forest.proofs.Flags.{set-flagged, up-is}
use Rattle.shared_forest.proofs.candidates.candidates.Goals.{then-all_up+in_ok-push, else-all_up}
use Rattle.shared_forest.proofs.candidates.candidates.Goals as goal

-- src/candidates.rt:30:12
pub all_up-requires : goal.all_up-requires
all_up-requires g c =
    let charts : List RankChart = g.C.RankCharts.charts c.args.charts.now in
    let chart : RankChart = chart_at charts c.args.rank in
    let within : c.loop-k.k < length chart.sets = subst (λ l. c.loop-k.k < length l) c.sets-sets.ensures c.loop-k-test.true in
    let is : IsSetOf chart (set_at chart c.loop-k.k) = all_at (IsSetOf chart) chart.sets c.loop-k.k [] (chart-right charts c.requires.right c.args.rank c.requires.rank).sets within in
    subst (λ f. AreFlagged f (get_or c.sets-sets.result.now c.loop-k.k [])) (sym c.deref.ensures.value)
    (set-flagged charts c.args.rank c.in_ok-flags.flags.items (get_or c.sets-sets.result.now c.loop-k.k []) c.in_ok-flags.ensures (subst (λ l. AllByRecursion (λ v. (v ≡ no_vertex) ⊎ (has_vertex v chart ≡ true)) (get_or l c.loop-k.k [])) (sym c.sets-sets.ensures) is.inside))

-- src/candidates.rt:29:5
pub loop-k-preserved : goal.loop-k-preserved
loop-k-preserved g c =
    let charts : List RankChart = g.C.RankCharts.charts c.args.charts.now in
    let chart : RankChart = chart_at charts c.args.rank in
    let within : c.loop-k.k < length chart.sets = subst (λ l. c.loop-k.k < length l) c.sets-sets.ensures c.loop-k-test.true in
    let is : IsSetOf chart (set_at chart c.loop-k.k) = all_at (IsSetOf chart) chart.sets c.loop-k.k [] (chart-right charts c.requires.right c.args.rank c.requires.rank).sets within in
    let test : ℕ → Bool = λ k. may_share charts c.args.rank (set_at chart k) in
    let told : test c.loop-k.k ≡ c.all_up.result =
    sym (up-is charts c.args.rank c.in_ok-flags.flags.items (set_at chart c.loop-k.k) c.in_ok-flags.ensures is.inside)
    ∙ ap (λ l. all_up c.in_ok-flags.flags.items (get_or l c.loop-k.k [])) (sym c.sets-sets.ensures)
    ∙ ap (λ f. all_up f (get_or c.sets-sets.result.now c.loop-k.k [])) (sym c.deref.ensures.value)
    ∙ sym c.all_up.ensures in
    elim c.if-all_up.branch [
      | then-all_up+in_ok-push w ↦ kept_more test c.loop-k.k c.loop-k.places.items c.if-all_up.places.items c.loop-k.invariant (told ∙ w.if-all_up.true) (ap (λ (v : Vec ℕ Global). v.items) w.places-is ∙ w.in_ok-push.ensures.items)
      | else-all_up w ↦ ap (λ (v : Vec ℕ Global). v.items) w.places-is ∙ kept_less test c.loop-k.k c.loop-k.places.items c.loop-k.invariant (told ∙ w.if-all_up.false)
    ]
