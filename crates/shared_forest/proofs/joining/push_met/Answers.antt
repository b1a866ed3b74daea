use Rattle.std.proofs.Common.{◌≡◌, ℕ, ◌+◌, ◌/◌, ◌%◌, ◌^◌, ◌<◌, Bool, not, ◌==◌, List, length, get_or, Vec, Global, sym, ap, ◌∙◌, subst, arith}
use Rattle.std.proofs.lemmas.Bool.{eq-eqb, ne_eqb}
use Rattle.sf_defs.specs.declared.Leaf.{Leaf}
use Rattle.sf_defs.specs.Forest.{leaf}
use Rattle.rank_chart_laws.specs.meeting_laws.Sets.{RankChart, chart_at}
use Rattle.rank_chart_laws.specs.meeting_laws.Steps.{behind, candidates}
use Rattle.rank_chart_laws.proofs.meeting_laws.Meeting.{candidate-is}
use Rattle.rank_chart_laws.proofs.meeting_laws.Bounds.{count-fits}
use Rattle.rank_chart_laws.proofs.meeting_laws.Loops.{behind_more, behind_less}
use Rattle.shared_forest.proofs.joining.push_met.Goals.{then-first_rank-rank+in_ok-push, else-first_rank-rank}
use Rattle.shared_forest.proofs.joining.push_met.Goals as goal

pub overflow_add-first-then-first_rank-rank : goal.overflow_add-first-then-first_rank-rank
overflow_add-first-then-first_rank-rank g c = let charts : List RankChart = g.C.RankCharts.charts c.args.charts.now in
    let low : get_or c.args.places.now c.loop-j.j 0 < length (chart_at charts c.args.rank).sets = subst (λ ps. get_or ps c.loop-j.j 0 < length (chart_at charts c.args.rank).sets) (sym c.requires.places) (candidate-is charts c.args.rank c.loop-j.j (omega (arith, ap length c.requires.places, c.loop-j-test.true))).0 in
    omega (arith, low, count-fits charts c.requires.right c.args.rank c.requires.rank, c.cells.ensures, ap length c.vertices.ensures)

pub loop-j-preserved : goal.loop-j-preserved
loop-j-preserved g c = let charts : List RankChart = g.C.RankCharts.charts c.args.charts.now in
    let test : ℕ → Bool = λ j. not (get_or c.args.met.now j 0 / 2 ^ 32 == c.args.rank) in
    let to : ℕ → Leaf = λ j. leaf (behind (chart_at charts c.args.rank) (get_or (candidates charts c.args.rank) j 0)) (get_or c.args.met.now j 0 / 2 ^ 32, get_or c.args.met.now j 0 % 2 ^ 32) in
    elim c.if-first_rank-rank.branch [
      | then-first_rank-rank+in_ok-push w ↦
          let here : leaf (c.cells.result + length c.vertices.result.now + get_or c.args.places.now c.loop-j.j 0) (get_or c.args.met.now c.loop-j.j 0 / 2 ^ 32, get_or c.args.met.now c.loop-j.j 0 % 2 ^ 32) ≡ to c.loop-j.j = λ k. leaf (c.cells.ensures k + length (c.vertices.ensures k) + get_or (c.requires.places k) c.loop-j.j 0) (get_or c.args.met.now c.loop-j.j 0 / 2 ^ 32, get_or c.args.met.now c.loop-j.j 0 % 2 ^ 32) in
          behind_more c.args.leaves.now.items test to c.loop-j.j c.loop-j.leaves.items c.if-first_rank-rank.leaves.items _ c.loop-j.invariant (ap not (ne_eqb (get_or c.args.met.now c.loop-j.j 0 / 2 ^ 32) c.args.rank w.if-first_rank-rank.true)) here (ap (λ (v : Vec Leaf Global). v.items) w.leaves-is ∙ w.in_ok-push.ensures.items)
      | else-first_rank-rank w ↦ ap (λ (v : Vec Leaf Global). v.items) w.leaves-is ∙ behind_less c.args.leaves.now.items test to c.loop-j.j c.loop-j.leaves.items c.loop-j.invariant (ap not (eq-eqb (get_or c.args.met.now c.loop-j.j 0 / 2 ^ 32) c.args.rank w.if-first_rank-rank.false))
    ]
