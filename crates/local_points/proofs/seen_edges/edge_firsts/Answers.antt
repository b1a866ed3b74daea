use Rattle.std.proofs.Common.{◌≡◌, ℕ, ◌+◌, ◌<◌, [], ◌∷◌, ◌++◌, length, take, sym, ap, ◌∙◌, arith, length-append}
use Rattle.std.proofs.lemmas.List.{length-take}
use Rattle.mesh_defs.specs.Tables.{edges_of}
use Rattle.mesh_defs.specs.Points.{cell_edges}
use Rattle.mesh_defs.specs.Mesh.{Cell}
use Rattle.local_points.specs.Cells.{cell_at, edges_seen}
use Rattle.local_points.proofs.Ends.{edges-twelve, length-cell_edges, length-edges_seen}
use Rattle.local_points.proofs.Rows.{below-more, seen-more}
use Rattle.local_points.proofs.seen_edges.edge_firsts.Goals as goal

pub overflow_add-end : goal.overflow_add-end
overflow_add-end g c =
    let before = take c.loop-i.i (g.C.CellList.cells c.args.cells.now) in
    omega (arith, c.loop-i.invariant.end, length-edges_seen before, length-take c.loop-i.i (g.C.CellList.cells c.args.cells.now), c.requires.few, c.edge_count.ensures, edges-twelve c.poly.result)

pub loop-i-preserved : goal.loop-i-preserved
loop-i-preserved g c =
    let cells = g.C.CellList.cells c.args.cells.now in
    let i = c.loop-i.i in
    let cell = cell_at cells i in
    let within : i < length cells = omega (arith, c.loop-i-test.true, c.len-i-end.ensures) in
    let own : c.edge_count.result ≡ length (cell_edges cell.0 cell.1) = c.edge_count.ensures ∙ ap (λ p. length (edges_of p)) c.poly.ensures ∙ sym (length-cell_edges cell) in
    let end : c.loop-i.end + c.edge_count.result ≡ length (edges_seen (take (i + 1) cells)) =
    omega (arith, c.loop-i.invariant.end, own, length-append (edges_seen (take i cells)) (cell_edges cell.0 cell.1), ap length (seen-more (λ (d : ℕ × Cell). cell_edges d.0 d.1) cells i (cell_at [] 0) within)) in
    record {
      end = end;
      firsts = c.in_ok-push-2.ensures.items ∙ (λ j. c.loop-i.invariant.firsts j ++ end j ∷ []) ∙ sym (below-more (λ k. length (edges_seen (take k cells))) (i + 1));
    }
