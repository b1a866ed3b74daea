use Rattle.std.proofs.Common.{◌≡◌, ℕ, ◌<◌, map, length, ap, sym, subst, ◌∙◌}
use Rattle.std.specs.List.{AllByRecursion, filter}
use Rattle.plain_lists.specs.Lists.{below}
use Rattle.std.proofs.lemmas.List.{length-map}
use Rattle.mesh_defs.specs.Mesh.{Cell}
use Rattle.plex_mesh.specs.Right.{cell_at}
use Rattle.rank_defs.specs.Ranks.{assigned}
use Rattle.dist_state.specs.scatter_state.Parts.{cells_of}
use Rattle.dist_state.proofs.scatter_state.Given.{cells_of-parts}
use Rattle.dist_seed.specs.rank_cells.Own.{held_of}
use Rattle.dist_seed.specs.rank_cells.Seen.{some_has}
use Rattle.dist_seed.proofs.rank_cells.Placed.{numbers-are, numbers-low, made-are, vertices-are}
use Rattle.dist_seed.proofs.rank_cells.own.rank_cells.Goals as goal

pub polys_of-requires : goal.polys_of-requires
polys_of-requires c = subst (AllByRecursion (λ n. n < length c.args.mesh.now.cells)) (sym c.deref.ensures.value) (numbers-low c.args.mesh.now c.args.ranks.now c.args.rank c.requires c.in_ok-cells.cells.items c.in_ok-cells.ensures)

pub corners_of-requires : goal.corners_of-requires
corners_of-requires c = subst (AllByRecursion (λ n. n < length c.args.mesh.now.cells)) (sym c.deref-2.ensures.value) (numbers-low c.args.mesh.now c.args.ranks.now c.args.rank c.requires c.in_ok-cells.cells.items c.in_ok-cells.ensures)

pub vertices_of-requires-clause-cells : goal.vertices_of-requires-clause-cells
vertices_of-requires-clause-cells c = subst (AllByRecursion (λ n. n < length c.args.mesh.now.cells)) (sym c.deref-3.ensures.value) (numbers-low c.args.mesh.now c.args.ranks.now c.args.rank c.requires c.in_ok-cells.cells.items c.in_ok-cells.ensures)

pub returns : goal.returns
unfolding held_of
returns c =
    let m = c.args.mesh.now in
    let a = c.args.ranks.now in
    let r = c.args.rank in
    let numbers = c.in_ok-cells.cells.items in
    let cells = numbers-are m a r c.requires numbers c.in_ok-cells.ensures in
    let polys : c.in_ok-polys.polys.items ≡ map (λ (x : ℕ × Cell). x.1.poly) (assigned m a r) = c.in_ok-polys.ensures ∙ ap (map (λ n. (cell_at m.cells n).poly)) c.deref.ensures.value ∙ made-are m a r c.requires numbers c.in_ok-cells.ensures (λ (cell : Cell). cell.poly) in
    let corners : c.in_ok-corners.corners ≡ map (λ (x : ℕ × Cell). x.1.vertices) (assigned m a r) = c.in_ok-corners.ensures ∙ ap (map (λ n. (cell_at m.cells n).vertices)) c.deref-2.ensures.value ∙ made-are m a r c.requires numbers c.in_ok-cells.ensures (λ (cell : Cell). cell.vertices) in
    let vertices = c.in_ok-vertices.ensures ∙ ap (λ ns. filter (some_has m ns) (below (length m.at))) c.deref-3.ensures.value ∙ vertices-are m a r c.requires numbers c.in_ok-cells.ensures in
    let whole : cells_of c.in_ok-cells.cells.items c.in_ok-polys.polys.items c.in_ok-corners.corners ≡ assigned m a r = (λ i. cells_of (cells i) (polys i) (corners i)) ∙ cells_of-parts (assigned m a r) in
    λ i. record { cells = whole i; vertices = vertices i }

pub invariant_of-result : goal.invariant_of-result
invariant_of-result c = record {
  polys = ap length c.in_ok-polys.ensures ∙ length-map c.deref.result.now (λ n. (cell_at c.args.mesh.now.cells n).poly) ∙ ap length c.deref.ensures.value;
  corners = ap length c.in_ok-corners.ensures ∙ length-map c.deref-2.result.now (λ n. (cell_at c.args.mesh.now.cells n).vertices) ∙ ap length c.deref-2.ensures.value;
}
