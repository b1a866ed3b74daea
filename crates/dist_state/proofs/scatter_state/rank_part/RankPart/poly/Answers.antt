use Rattle.std.proofs.Common.{length, ap, sym, ◌∙◌, arith}
use Rattle.std.proofs.lemmas.List.{get_or_read}
use Rattle.mesh_defs.specs.declared.Poly.TheVariants.{Vertex}
use Rattle.rank_defs.specs.Spread.{ScatterPart}
use Rattle.dist_state.specs.scatter_state.Parts.{cell_at}
use Rattle.dist_state.proofs.scatter_state.Given.{length-cells_of, cells_of-at}
use Rattle.dist_state.proofs.scatter_state.rank_part.RankPart.poly.Goals as goal

pub index-requires : goal.index-requires
index-requires c =
    let lists = c.self.inside.lists in
    let count = length-cells_of lists.cells.items lists.polys.items lists.corners c.self.invariant.polys c.self.invariant.corners in
    let view = ap (λ (p : ScatterPart). length p.cells) c.self.view_is in
    omega (arith, count, view, c.requires, c.self.invariant.polys, lists.polys.ok.0)

pub returns : goal.returns
returns c =
    let lists = c.self.inside.lists in
    let count = length-cells_of lists.cells.items lists.polys.items lists.corners c.self.invariant.polys c.self.invariant.corners in
    let view = ap (λ (p : ScatterPart). length p.cells) c.self.view_is in
    get_or_read lists.polys.items c.args.i c.index.result.now (omega (arith, count, view, c.requires, c.self.invariant.polys)) c.index.ensures Vertex
    ∙ sym (ap (λ x. x.1.poly) (cells_of-at lists.cells.items lists.polys.items lists.corners c.self.invariant.polys c.self.invariant.corners c.args.i))
    ∙ ap (λ (p : ScatterPart). (cell_at p.cells c.args.i).1.poly) c.self.view_is
