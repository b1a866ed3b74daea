use Rattle.std.proofs.Common.{◌≡◌, ℕ, ◌<◌, [], ◌++◌, length, refl, sym, ap, ◌∙◌, arith}
use Rattle.std.proofs.lemmas.List.{length-map}
use Rattle.plain_lists.specs.Lists.{sorted}
use Rattle.plain_lists.proofs.Each.{all_at, all_from}
use Rattle.plain_lists.proofs.Filters.{map_map_same}
use Rattle.mesh_defs.specs.Mesh.{Cell}
use Rattle.mesh_defs.specs.Points.{point_of, cell_sight}
use Rattle.local_points.specs.Cells.{IsFit}
use Rattle.dist_state.specs.scatter_state.Parts.{cell_at, number_of}
use Rattle.interp_share.proofs.rank_points.Small.{few-corners}
use Rattle.interp_share.proofs.rank_points.Pushing.{behind-next, behind-all}
use Rattle.interp_share.proofs.rank_points.all_sets.push_cells.Goals as goal

pub push_sorted-requires : goal.push_sorted-requires
push_sorted-requires c =
    let cells = c.args.part.now.cells in
    let count : length c.cells-i-end.result.now ≡ length cells = ap length c.cells-i-end.ensures.cells ∙ length-map cells number_of in
    let low : c.loop-i.i < length cells = omega (arith, count) in
    let fit = all_at IsFit cells c.loop-i.i (cell_at [] 0) c.requires.each low in
    omega (arith, ap length c.corners.ensures, fit.corners, few-corners (cell_at cells c.loop-i.i).1.poly)

pub loop-i-preserved : goal.loop-i-preserved
loop-i-preserved c =
    let cells = c.args.part.now.cells in
    let count : length c.cells-i-end.result.now ≡ length cells = ap length c.cells-i-end.ensures.cells ∙ length-map cells number_of in
    let low : c.loop-i.i < length cells = omega (arith, count) in
    behind-next (λ (d : ℕ × Cell). sorted d.1.vertices) cells c.loop-i.i (cell_at [] 0) c.args.sets.now c.loop-i.sets _ _ low c.loop-i.invariant (ap sorted c.corners.ensures) c.in_ok-push_sorted.ensures

pub returns : goal.returns
returns c =
    let cells = c.args.part.now.cells in
    let count : length c.cells-i-end.result.now ≡ length cells = ap length c.cells-i-end.ensures.cells ∙ length-map cells number_of in
    behind-all (λ (d : ℕ × Cell). sorted d.1.vertices) cells c.loop-i.i c.args.sets.now c.loop-i.sets c.loop-i.invariant (omega (arith, count))
    ∙ ap (λ l. c.args.sets.now ++ l) (sym (map_map_same (λ s. (point_of s).vertices) (λ (d : ℕ × Cell). cell_sight d.0 d.1) (λ (d : ℕ × Cell). sorted d.1.vertices) cells (all_from (λ (d : ℕ × Cell). sorted d.1.vertices ≡ sorted d.1.vertices) (λ d. refl) cells)))
