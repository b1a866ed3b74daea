use Rattle.std.proofs.Common.{◌≡◌, ℕ, ◌+◌, ◌<◌, Bool, not, ◌==◌, List, length, get_or, Vec, Global, sym, ap, ap₂, ◌∙◌, subst, arith}
use Rattle.std.specs.List.{position_or_len}
use Rattle.std.proofs.lemmas.Bool.{eq-eqb, ne_eqb}
use Rattle.sf_defs.specs.declared.Leaf.{Leaf}
use Rattle.sf_defs.specs.Forest.{leaf}
use Rattle.rank_laws.specs.share_laws.Packed.{no_vertex}
use Rattle.rank_chart_laws.specs.meeting_laws.Sets.{RankChart, chart_at}
use Rattle.rank_chart_laws.specs.meeting_laws.Steps.{vertex_place, vertex_at, owner_at, vertex_home}
use Rattle.rank_chart_laws.proofs.meeting_laws.Homes.{placed-vertex}
use Rattle.rank_chart_laws.proofs.meeting_laws.Bounds.{owner-has, count-fits}
use Rattle.rank_chart_laws.proofs.meeting_laws.Loops.{same_within, moved_there, behind_more, behind_less}
use Rattle.shared_forest.proofs.joining.push_ghosts.Goals.{then-owner-rank+in_ok-push, else-owner-rank}
use Rattle.shared_forest.proofs.joining.push_ghosts.Goals as goal

pub cells-requires : goal.cells-requires
cells-requires g c = let charts : List RankChart = g.C.RankCharts.charts c.args.charts.now in
    let chart : RankChart = chart_at charts c.args.rank in
    let low : c.loop-i.i < length chart.vertices = omega (arith, ap length c.vertices-vertices.ensures, c.loop-i-test.true) in
    let owner = owner-has charts c.requires.right c.args.rank c.loop-i.i c.requires.rank low in
    let same : vertex_at chart c.loop-i.i ≡ get_or c.vertices-vertices.result.now c.loop-i.i 0 = same_within chart.vertices c.loop-i.i no_vertex 0 low ∙ ap (λ l. get_or l c.loop-i.i 0) (sym c.vertices-vertices.ensures) in
    subst (λ q. q < length charts) (sym c.owner-owner.ensures) owner.0

pub vertices-requires : goal.vertices-requires
vertices-requires g c = let charts : List RankChart = g.C.RankCharts.charts c.args.charts.now in
    let chart : RankChart = chart_at charts c.args.rank in
    let low : c.loop-i.i < length chart.vertices = omega (arith, ap length c.vertices-vertices.ensures, c.loop-i-test.true) in
    let owner = owner-has charts c.requires.right c.args.rank c.loop-i.i c.requires.rank low in
    let same : vertex_at chart c.loop-i.i ≡ get_or c.vertices-vertices.result.now c.loop-i.i 0 = same_within chart.vertices c.loop-i.i no_vertex 0 low ∙ ap (λ l. get_or l c.loop-i.i 0) (sym c.vertices-vertices.ensures) in
    subst (λ q. q < length charts) (sym c.owner-owner.ensures) owner.0

pub place_of-requires-clause-there : goal.place_of-requires-clause-there
place_of-requires-clause-there g c = let charts : List RankChart = g.C.RankCharts.charts c.args.charts.now in
    let chart : RankChart = chart_at charts c.args.rank in
    let low : c.loop-i.i < length chart.vertices = omega (arith, ap length c.vertices-vertices.ensures, c.loop-i-test.true) in
    let owner = owner-has charts c.requires.right c.args.rank c.loop-i.i c.requires.rank low in
    let same : vertex_at chart c.loop-i.i ≡ get_or c.vertices-vertices.result.now c.loop-i.i 0 = same_within chart.vertices c.loop-i.i no_vertex 0 low ∙ ap (λ l. get_or l c.loop-i.i 0) (sym c.vertices-vertices.ensures) in
    let moved : (chart_at charts (owner_at chart c.loop-i.i)).vertices ≡ c.vertices.result.now = ap (λ q. (chart_at charts q).vertices) (sym c.owner-owner.ensures) ∙ sym c.vertices.ensures in
    moved_there (vertex_at chart c.loop-i.i) (get_or c.vertices-vertices.result.now c.loop-i.i 0) (chart_at charts (owner_at chart c.loop-i.i)).vertices c.vertices.result.now same moved owner.1

pub overflow_add-cells-then-owner-rank : goal.overflow_add-cells-then-owner-rank
overflow_add-cells-then-owner-rank g c = let charts : List RankChart = g.C.RankCharts.charts c.args.charts.now in
    let chart : RankChart = chart_at charts c.args.rank in
    let low : c.loop-i.i < length chart.vertices = omega (arith, ap length c.vertices-vertices.ensures, c.loop-i-test.true) in
    let owner = owner-has charts c.requires.right c.args.rank c.loop-i.i c.requires.rank low in
    let same : vertex_at chart c.loop-i.i ≡ get_or c.vertices-vertices.result.now c.loop-i.i 0 = same_within chart.vertices c.loop-i.i no_vertex 0 low ∙ ap (λ l. get_or l c.loop-i.i 0) (sym c.vertices-vertices.ensures) in
    let moved : (chart_at charts (owner_at chart c.loop-i.i)).vertices ≡ c.vertices.result.now = ap (λ q. (chart_at charts q).vertices) (sym c.owner-owner.ensures) ∙ sym c.vertices.ensures in
    let place : c.place_of.result ≡ vertex_place (vertex_at chart c.loop-i.i) (chart_at charts (owner_at chart c.loop-i.i)) = c.place_of.ensures ∙ ap₂ (λ v l. position_or_len (λ u. u == v) l) (sym same) (sym moved) in
    let within = (placed-vertex (chart_at charts (owner_at chart c.loop-i.i)) (vertex_at chart c.loop-i.i) owner.1).0 in
    let fits = count-fits charts c.requires.right (owner_at chart c.loop-i.i) owner.0 in
    let cells : c.cells.result ≡ (chart_at charts (owner_at chart c.loop-i.i)).cells = c.cells.ensures ∙ ap (λ q. (chart_at charts q).cells) c.owner-owner.ensures in
    omega (arith, place, within, fits, cells)

pub loop-i-preserved : goal.loop-i-preserved
loop-i-preserved g c = let charts : List RankChart = g.C.RankCharts.charts c.args.charts.now in
    let chart : RankChart = chart_at charts c.args.rank in
    let low : c.loop-i.i < length chart.vertices = omega (arith, ap length c.vertices-vertices.ensures, c.loop-i-test.true) in
    let owner = owner-has charts c.requires.right c.args.rank c.loop-i.i c.requires.rank low in
    let same : vertex_at chart c.loop-i.i ≡ get_or c.vertices-vertices.result.now c.loop-i.i 0 = same_within chart.vertices c.loop-i.i no_vertex 0 low ∙ ap (λ l. get_or l c.loop-i.i 0) (sym c.vertices-vertices.ensures) in
    let test : ℕ → Bool = λ i. not (owner_at (chart_at charts c.args.rank) i == c.args.rank) in
    let to : ℕ → Leaf = λ i. leaf ((chart_at charts c.args.rank).cells + i) (owner_at (chart_at charts c.args.rank) i, (chart_at charts (owner_at (chart_at charts c.args.rank) i)).cells + (vertex_home charts (chart_at charts c.args.rank) i).1) in
    let told : test c.loop-i.i ≡ not (c.owner-owner.result == c.args.rank) = ap (λ q. not (q == c.args.rank)) (sym c.owner-owner.ensures) in
    elim c.if-owner-rank.branch [
      | then-owner-rank+in_ok-push w ↦
          let moved : (chart_at charts (owner_at chart c.loop-i.i)).vertices ≡ w.vertices.result.now = ap (λ q. (chart_at charts q).vertices) (sym c.owner-owner.ensures) ∙ sym w.vertices.ensures in
          let place : w.place_of.result ≡ vertex_place (vertex_at chart c.loop-i.i) (chart_at charts (owner_at chart c.loop-i.i)) = w.place_of.ensures ∙ ap₂ (λ v l. position_or_len (λ u. u == v) l) (sym same) (sym moved) in
          let cells : w.cells.result ≡ (chart_at charts (owner_at chart c.loop-i.i)).cells = w.cells.ensures ∙ ap (λ q. (chart_at charts q).cells) c.owner-owner.ensures in
          let here : leaf (c.cells-cells.result + c.loop-i.i) (c.owner-owner.result, w.cells.result + w.place_of.result) ≡ to c.loop-i.i = λ k. leaf (c.cells-cells.ensures k + c.loop-i.i) (c.owner-owner.ensures k, cells k + place k) in
          behind_more c.args.leaves.now.items test to c.loop-i.i c.loop-i.leaves.items c.if-owner-rank.leaves.items _ c.loop-i.invariant (told ∙ ap not (ne_eqb c.owner-owner.result c.args.rank w.if-owner-rank.true)) here (ap (λ (v : Vec Leaf Global). v.items) w.leaves-is ∙ w.in_ok-push.ensures.items)
      | else-owner-rank w ↦ ap (λ (v : Vec Leaf Global). v.items) w.leaves-is ∙ behind_less c.args.leaves.now.items test to c.loop-i.i c.loop-i.leaves.items c.loop-i.invariant (told ∙ ap not (eq-eqb c.owner-owner.result c.args.rank w.if-owner-rank.false))
    ]
