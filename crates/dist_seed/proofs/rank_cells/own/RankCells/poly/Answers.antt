use Rattle.std.proofs.Common.{length, ap, sym, ◌∙◌, arith}
use Rattle.std.proofs.lemmas.List.{get_or_read}
use Rattle.mesh_defs.specs.declared.Poly.TheVariants.{Vertex}
use Rattle.dist_state.specs.scatter_state.Parts.{cell_at}
use Rattle.dist_state.proofs.scatter_state.Given.{length-cells_of, cells_of-at}
use Rattle.dist_seed.specs.rank_cells.Own.{Held}
use Rattle.dist_seed.proofs.rank_cells.own.RankCells.poly.Goals as goal

pub index-requires : goal.index-requires
index-requires c =
    let own = c.self.inside in
    let count = length-cells_of own.cells.items own.polys.items own.corners c.self.invariant.polys c.self.invariant.corners in
    let view = ap (λ (h : Held). length h.cells) c.self.view_is in
    omega (arith, count, view, c.requires, c.self.invariant.polys, own.polys.ok.0)

pub returns : goal.returns
returns c =
    let own = c.self.inside in
    let count = length-cells_of own.cells.items own.polys.items own.corners c.self.invariant.polys c.self.invariant.corners in
    let view = ap (λ (h : Held). length h.cells) c.self.view_is in
    get_or_read own.polys.items c.args.i c.index.result.now (omega (arith, count, view, c.requires, c.self.invariant.polys)) c.index.ensures Vertex
    ∙ sym (ap (λ x. x.1.poly) (cells_of-at own.cells.items own.polys.items own.corners c.self.invariant.polys c.self.invariant.corners c.args.i))
    ∙ ap (λ (h : Held). (cell_at h.cells c.args.i).1.poly) c.self.view_is
