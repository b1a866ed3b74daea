use Rattle.std.proofs.Common.{length, ap, ◌∙◌, arith}
use Rattle.mesh_laws.proofs.Firsts.{firsts-length}
use Rattle.local_points.specs.Cells.{faces_seen, edges_seen}
use Rattle.local_points.proofs.Ends.{length-edges_seen}
use Rattle.local_points.proofs.Solids.{length-faces_seen}
use Rattle.local_points.proofs.finder.PointFinder.of.Goals as goal

pub of_parts-requires-clause-faces : goal.of_parts-requires-clause-faces
of_parts-requires-clause-faces g c =
    let cells = g.C.CellList.cells c.args.cells.now in
    omega (arith, ap length (c.into_parts-face_sets.ensures.faces ∙ c.in_ok-face_table.ensures.faces), firsts-length (faces_seen cells), length-faces_seen cells, c.requires.few)

pub of_parts-requires-clause-edges : goal.of_parts-requires-clause-edges
of_parts-requires-clause-edges g c =
    let cells = g.C.CellList.cells c.args.cells.now in
    omega (arith, ap length (c.into_parts-edge_sets.ensures.edges ∙ c.in_ok-edge_table.ensures.edges), firsts-length (edges_seen cells), length-edges_seen cells, c.requires.few)
