use Rattle.std.proofs.Common.{◌≡◌, ◌+◌, ◌*◌, ◌<◌, [], ◌∷◌, ◌++◌, map, length, get_or, take, sym, ap, ◌∙◌, subst, arith}
use Rattle.std.proofs.lemmas.List.{map_push, length-map, length-take}
use Rattle.std.specs.List.{enumerate_from}
use Rattle.mesh_defs.specs.Tables.{edges_of, edge_at}
use Rattle.mesh_defs.specs.Points.{cell_edge}
use Rattle.mesh_defs.specs.Sights.{edge_sight}
use Rattle.local_points.specs.Cells.{cell_at}
use Rattle.local_points.specs.Stored.{edge_sight_of}
use Rattle.local_points.proofs.Ends.{edge-more, edges-twelve}
use Rattle.local_points.proofs.seen_edges.edges_of_cell.Goals as goal

pub push-requires : goal.push-requires
push-requires g c =
    let cell = cell_at (g.C.CellList.cells c.args.cells.now) c.args.i in
    let table = enumerate_from 0 (edges_of c.poly-poly.result) in
    omega (arith, length-map c.loop-e.edges.items edge_sight_of, ap length c.loop-e.invariant.edges, length-map (take c.loop-e.e table) (cell_edge cell.0 cell.1), length-take c.loop-e.e table, edges-twelve c.poly-poly.result, c.edge_count-e-end.ensures, c.loop-e-test.true)

pub loop-e-preserved : goal.loop-e-preserved
loop-e-preserved g c =
    let cell = cell_at (g.C.CellList.cells c.args.cells.now) c.args.i in
    let e = c.loop-e.e in
    let k = 64 * c.number.result + 8 + e in
    let a = c.edge_corner.result in
    let b = c.edge_corner-in-loop-e.result in
    let own = map (cell_edge cell.0 cell.1) in
    let s = edge_sight k (get_or cell.1.vertices a 0) (get_or cell.1.vertices b 0) in
    let poly : c.poly-poly.result ≡ cell.1.poly = c.poly-poly.ensures in
    let within : e < length (edges_of cell.1.poly) = subst (λ p. e < length (edges_of p)) poly (omega (arith, c.edge_count-e-end.ensures, c.loop-e-test.true)) in
    let key : k ≡ 64 * cell.0 + 8 + e = ap (λ n. 64 * n + 8 + e) c.number.ensures in
    let from : a ≡ get_or (edge_at cell.1.poly e) 0 0 = c.edge_corner.ensures ∙ ap (λ p. get_or (edge_at p e) 0 0) poly in
    let to : b ≡ get_or (edge_at cell.1.poly e) 1 0 = c.edge_corner-in-loop-e.ensures ∙ ap (λ p. get_or (edge_at p e) 1 0) poly in
    let more : own (take (e + 1) (enumerate_from 0 (edges_of c.poly-poly.result))) ≡ own (take e (enumerate_from 0 (edges_of c.poly-poly.result))) ++ s ∷ [] =
    subst (λ p. own (take (e + 1) (enumerate_from 0 (edges_of p))) ≡ own (take e (enumerate_from 0 (edges_of p))) ++ s ∷ []) (sym poly) (edge-more cell.0 cell.1 e k a b within key from to) in
    let pushed : map edge_sight_of c.push.new.self.items ≡ map edge_sight_of c.loop-e.edges.items ++ s ∷ [] =
    ap (map edge_sight_of) c.push.ensures.items ∙ map_push edge_sight_of c.loop-e.edges.items _
    ∙ ap (λ vs. map edge_sight_of c.loop-e.edges.items ++ edge_sight k (get_or vs a 0) (get_or vs b 0) ∷ []) c.corners-corners.ensures in
    record { edges = pushed ∙ ap (λ l. l ++ s ∷ []) c.loop-e.invariant.edges ∙ sym more }
