use Rattle.std.proofs.Common.{◌≡◌, ℕ, pos, ap, sym, subst, ◌∙◌, arith}
use Rattle.plex_chart.specs.Chart.{point_at}
use Rattle.poly_orient.proofs.Grouping.{orientation-0}
use Rattle.rank_laws.specs.cell_laws.Cells.{Once}
use Rattle.cells_at_vertices.specs.Own.{AreCounts}
use Rattle.cells_at_vertices.proofs.Cells.{is_of, closure-once, once-few, counts-low, counts-more, counts-all, cells-range}
use Rattle.cells_at_vertices.proofs.closures.count_cells.Goals as goal

pub closure_into-requires-clause-orientation : goal.closure_into-requires-clause-orientation
closure_into-requires-clause-orientation c = orientation-0 (point_at c.args.x.now c.loop-cell.cell).poly

pub count_points-requires-clause-once : goal.count_points-requires-clause-once
count_points-requires-clause-once c = λ p.
    let x = c.args.x.now in
    let same = c.deref.ensures.value ∙ c.in_ok-closure_into.ensures.value in
    once-few p c.deref.result.now (subst (λ es. Once (is_of p) es) (sym same) (closure-once x c.loop-cell.cell p (pos 0)))

pub count_points-requires-clause-low : goal.count_points-requires-clause-low
count_points-requires-clause-low c = λ p low.
    omega (arith, counts-low c.args.x.now c.loop-cell.cell c.loop-cell.counts.items c.loop-cell.invariant p low, c.loop-cell-test.true)

pub loop-cell-preserved : goal.loop-cell-preserved
loop-cell-preserved c =
    counts-more c.args.x.now c.loop-cell.cell c.deref.result.now c.loop-cell.counts.items c.count_points.new.counts.items (c.deref.ensures.value ∙ c.in_ok-closure_into.ensures.value) c.loop-cell.invariant c.count_points.ensures

pub returns-clause-counts : goal.returns-clause-counts
returns-clause-counts c =
    let x = c.args.x.now in
    let range = cells-range x _ c.dim.ensures in
    let start : c.stratum-cells.result.start ≡ 0 = c.stratum-cells.ensures.start ∙ ap (λ (r : ℕ × ℕ). r.0) range in
    let end : c.stratum-cells.result.end ≡ x.cells = c.stratum-cells.ensures.end ∙ ap (λ (r : ℕ × ℕ). r.1) range in
    let all : c.loop-cell.cell ≡ x.cells = omega (arith, end, c.loop-cell-test.false, c.loop-cell.auto.cell-end (omega (arith, start))) in
    counts-all x c.loop-cell.counts.items (subst (λ n. AreCounts x n c.loop-cell.counts.items) all c.loop-cell.invariant)
