use Rattle.std.proofs.Common.{◌≡◌, ℕ, ◌+◌, ◌<◌, ◌==◌, ◌++◌, List, [], ◌∷◌, map, length, take, sym, ap, ◌∙◌, subst, append_assoc, length-append, pos, arith}
use Rattle.std.specs.Prelude.{slice_index}
use Rattle.std.specs.List.{position_or_len}
use Rattle.std.proofs.lemmas.List.{map_more, take_all, length-map, length-take}
use Rattle.std.proofs.lemmas.Option.{get_or_from_slice_get}
use Rattle.plain_lists.proofs.Each.{all_at}
use Rattle.mesh_defs.specs.declared.Poly.TheVariants.{Segment}
use Rattle.mesh_defs.specs.declared.ConeEntry.{ConeEntry}
use Rattle.mesh_defs.specs.Mesh.{Cell}
use Rattle.mesh_defs.specs.Points.{Sight, vertex_sight}
use Rattle.mesh_defs.specs.Diagram.{Diagram}
use Rattle.plex_chart.specs.Chart.{IsInStratum}
use Rattle.rank_chart_laws.specs.rank_diagram_laws.Parts.{Parts, IsEdgePart, end_part, edge_part}
use Rattle.rank_cones.specs.Placed.{sight_at}
use Rattle.rank_cones.specs.Assembly.{rank_parts, IsFor}
use Rattle.rank_cones.proofs.Strata.{in-edges, still-for, dim-two, edge-below}
use Rattle.rank_cones.proofs.assembly.push_edges.Goals as goal

pub end_entry-requires-clause-there : goal.end_entry-requires-clause-there
end_entry-requires-clause-there g c =
    let cells : List (ℕ × Cell) = g.C.CellList.cells c.args.cells.now in
    let edges : List Sight = c.args.held.now.edges in
    let p : Parts = rank_parts c.args.plex.now.dim cells c.args.vertices.now c.args.held.now in
    let k = c.loop-k.k in
    let within : k < length edges = omega (arith, c.loop-k-test.true, c.edges-k-end.ensures.count) in
    let seen : Sight = record { key = c.edge.result.0.0; poly = Segment; arrangement = c.edge.result.1 } in
    let at : sight_at edges k ≡ seen = get_or_from_slice_get edges k seen (vertex_sight 0) c.edge.ensures in
    let part : IsEdgePart p seen = subst (IsEdgePart p) at (all_at (IsEdgePart p) edges k (vertex_sight 0) c.requires.parts.edges within) in
    part.first

pub end_entry-requires-in-loop-k-clause-there : goal.end_entry-requires-in-loop-k-clause-there
end_entry-requires-in-loop-k-clause-there g c =
    let cells : List (ℕ × Cell) = g.C.CellList.cells c.args.cells.now in
    let edges : List Sight = c.args.held.now.edges in
    let p : Parts = rank_parts c.args.plex.now.dim cells c.args.vertices.now c.args.held.now in
    let k = c.loop-k.k in
    let within : k < length edges = omega (arith, c.loop-k-test.true, c.edges-k-end.ensures.count) in
    let seen : Sight = record { key = c.edge.result.0.0; poly = Segment; arrangement = c.edge.result.1 } in
    let at : sight_at edges k ≡ seen = get_or_from_slice_get edges k seen (vertex_sight 0) c.edge.ensures in
    let part : IsEdgePart p seen = subst (IsEdgePart p) at (all_at (IsEdgePart p) edges k (vertex_sight 0) c.requires.parts.edges within) in
    part.second

pub push-requires-clause-place : goal.push-requires-clause-place
push-requires-clause-place g c =
    let cells : List (ℕ × Cell) = g.C.CellList.cells c.args.cells.now in
    let edges : List Sight = c.args.held.now.edges in
    let p : Parts = rank_parts c.args.plex.now.dim cells c.args.vertices.now c.args.held.now in
    let k = c.loop-k.k in
    let within : k < length edges = omega (arith, c.loop-k-test.true, c.edges-k-end.ensures.count) in
    let seen : Sight = record { key = c.edge.result.0.0; poly = Segment; arrangement = c.edge.result.1 } in
    let at : sight_at edges k ≡ seen = get_or_from_slice_get edges k seen (vertex_sight 0) c.edge.ensures in
    let part : IsEdgePart p seen = subst (IsEdgePart p) at (all_at (IsEdgePart p) edges k (vertex_sight 0) c.requires.parts.edges within) in
    let h : Diagram = c.loop-k.plex in
    let same : h.dim ≡ p.dim = ap (λ (x : Diagram). x.dim) c.loop-k.invariant in
    let is : IsFor p h = subst (IsFor p) (sym c.loop-k.invariant) (still-for p c.args.plex.now (c.args.plex.now.points ++ map (edge_part p) (take k edges)) c.requires.plex) in
    let here : length h.points ≡ length c.args.plex.now.points + k =
    ap (λ (x : Diagram). length x.points) c.loop-k.invariant ∙ length-append c.args.plex.now.points (map (edge_part p) (take k edges))
    ∙ ap (λ n. length c.args.plex.now.points + n) (length-map (take k edges) (edge_part p)) ∙ omega (arith, length-take k edges, within) in
    in-edges h (length h.points) (omega (arith, same, dim-two p c.requires.parts)) (omega (arith, here, is.cells, is.vertices, is.faces, c.requires.start)) (omega (arith, here, is.cells, is.vertices, is.faces, is.edges, c.requires.start, within))

pub push-requires-clause-below : goal.push-requires-clause-below
push-requires-clause-below g c =
    let cells : List (ℕ × Cell) = g.C.CellList.cells c.args.cells.now in
    let edges : List Sight = c.args.held.now.edges in
    let p : Parts = rank_parts c.args.plex.now.dim cells c.args.vertices.now c.args.held.now in
    let k = c.loop-k.k in
    let within : k < length edges = omega (arith, c.loop-k-test.true, c.edges-k-end.ensures.count) in
    let seen : Sight = record { key = c.edge.result.0.0; poly = Segment; arrangement = c.edge.result.1 } in
    let at : sight_at edges k ≡ seen = get_or_from_slice_get edges k seen (vertex_sight 0) c.edge.ensures in
    let part : IsEdgePart p seen = subst (IsEdgePart p) at (all_at (IsEdgePart p) edges k (vertex_sight 0) c.requires.parts.edges within) in
    let h : Diagram = c.loop-k.plex in
    let same : h.dim ≡ p.dim = ap (λ (x : Diagram). x.dim) c.loop-k.invariant in
    let is : IsFor p h = subst (IsFor p) (sym c.loop-k.invariant) (still-for p c.args.plex.now (c.args.plex.now.points ++ map (edge_part p) (take k edges)) c.requires.plex) in
    let one : c.end_entry.result ≡ end_part p (slice_index c.edge.result.1 0) = c.end_entry.ensures ∙ (λ i. record { point = c.len-count.ensures i + position_or_len (λ w. w == slice_index c.edge.result.1 0) c.args.vertices.now; o = pos 0 }) in
    let two : c.end_entry-in-loop-k.result ≡ end_part p (slice_index c.edge.result.1 1) = c.end_entry-in-loop-k.ensures ∙ (λ i. record { point = c.len-count.ensures i + position_or_len (λ w. w == slice_index c.edge.result.1 1) c.args.vertices.now; o = pos 0 }) in
    let below = edge-below p c.requires.parts h same is seen part in
    (subst (λ (e : ConeEntry). IsInStratum h 0 e.point) (sym one) below.0, (subst (λ (e : ConeEntry). IsInStratum h 0 e.point) (sym two) below.1.0, tt))

pub loop-k-preserved : goal.loop-k-preserved
loop-k-preserved g c =
    let cells : List (ℕ × Cell) = g.C.CellList.cells c.args.cells.now in
    let edges : List Sight = c.args.held.now.edges in
    let p : Parts = rank_parts c.args.plex.now.dim cells c.args.vertices.now c.args.held.now in
    let k = c.loop-k.k in
    let within : k < length edges = omega (arith, c.loop-k-test.true, c.edges-k-end.ensures.count) in
    let seen : Sight = record { key = c.edge.result.0.0; poly = Segment; arrangement = c.edge.result.1 } in
    let at : sight_at edges k ≡ seen = get_or_from_slice_get edges k seen (vertex_sight 0) c.edge.ensures in
    let part : IsEdgePart p seen = subst (IsEdgePart p) at (all_at (IsEdgePart p) edges k (vertex_sight 0) c.requires.parts.edges within) in
    let one : c.end_entry.result ≡ end_part p (slice_index c.edge.result.1 0) = c.end_entry.ensures ∙ (λ i. record { point = c.len-count.ensures i + position_or_len (λ w. w == slice_index c.edge.result.1 0) c.args.vertices.now; o = pos 0 }) in
    let two : c.end_entry-in-loop-k.result ≡ end_part p (slice_index c.edge.result.1 1) = c.end_entry-in-loop-k.ensures ∙ (λ i. record { point = c.len-count.ensures i + position_or_len (λ w. w == slice_index c.edge.result.1 1) c.args.vertices.now; o = pos 0 }) in
    let old = c.args.plex.now.points in
    let covers : c.end_entry.result ∷ c.end_entry-in-loop-k.result ∷ [] ≡ (edge_part p (sight_at edges k)).covers = (λ i. one i ∷ two i ∷ []) ∙ ap (λ (s : Sight). (edge_part p s).covers) (sym at) in
    c.in_ok-push.ensures.ok
    ∙ (λ i. record (c.loop-k.invariant i) { points = (c.loop-k.invariant i).points ++ record { poly = Segment; covers = covers i } ∷ [] })
    ∙ ap (λ l. record c.args.plex.now { points = l }) (append_assoc old (map (edge_part p) (take k edges)) (edge_part p (sight_at edges k) ∷ []) ∙ ap (λ l. old ++ l) (sym (map_more (edge_part p) edges k (vertex_sight 0) within)))

pub returns : goal.returns
returns g c =
    let cells : List (ℕ × Cell) = g.C.CellList.cells c.args.cells.now in
    let p : Parts = rank_parts c.args.plex.now.dim cells c.args.vertices.now c.args.held.now in
    c.loop-k.invariant ∙ ap (λ l. record c.args.plex.now { points = c.args.plex.now.points ++ map (edge_part p) l }) (take_all c.loop-k.k c.args.held.now.edges (omega (arith, c.loop-k-test.false, c.edges-k-end.ensures.count)))
