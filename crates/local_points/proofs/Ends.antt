-- Edges by the sets of their ends.
use Rattle.std.proofs.Common.{rules, ◌≡◌, ℕ, ◌+◌, ◌*◌, ◌<◌, ◌≤◌, List, [], ◌∷◌, ◌++◌, map, length, get_or, take, sym, ap, ◌∙◌, arith, length-append}
use Rattle.std.specs.List.{AllByRecursion, enumerate_from}
use Rattle.std.proofs.lemmas.List.{map_more, length-map}
use Rattle.std.proofs.lemmas.List.FromFn.{length-enumerate_from, get_or-enumerate_from}
use Rattle.plain_lists.specs.Lists.{sorted, same_list}
use Rattle.plain_lists.proofs.Each.{all_from, all_at}
use Rattle.mesh_defs.specs.declared.Poly.{Poly}
use Rattle.mesh_defs.specs.declared.Poly.TheVariants.{Vertex, Segment, Triangle, Quad, Tet, Hex}
use Rattle.mesh_defs.specs.Tables.{edges_of, edge_at}
use Rattle.mesh_defs.specs.Mesh.{Cell}
use Rattle.mesh_defs.specs.Points.{point_of, point_on, cell_edge, cell_edges}
use Rattle.mesh_defs.specs.Sights.{edge_sight}
use Rattle.local_points.specs.Cells.{edges_seen}
use Rattle.local_points.specs.declared.seen_edges.Edge.{Edge}
use Rattle.local_points.specs.Stored.{edge_sight_of, edge_set}
use Rattle.plain_lists.specs.Lists.{picked}
use Rattle.local_points.proofs.Arrays.{two-of}
use Rattle.local_points.proofs.Places.{Tells}

-- sets of ends tell edges
pub ends-tell : (ends t : List ℕ) → t ≡ sorted ends → (items : List Edge) → AllByRecursion (Tells edge_sight_of edge_set t (point_on Segment ends)) items
ends-tell ends t e items = all_from (Tells edge_sight_of edge_set t (point_on Segment ends)) (λ x. ap (λ l. same_list l (sorted x.ends)) e) items

pub edges-tell : (edge : Edge) (t : List ℕ) → t ≡ sorted edge.ends → (items : List Edge) → AllByRecursion (Tells edge_sight_of edge_set t (point_of (edge_sight_of edge))) items
edges-tell edge t e items = ends-tell edge.ends t e items

-- ---- the edges of a cell

-- an edge has two corners
edges-two : (p : Poly) → AllByRecursion (λ e. length e ≡ 2) (edges_of p)
edges-two Vertex = tt
edges-two Segment = tt
edges-two Triangle = search rules
edges-two Quad = search rules
edges-two Tet = search rules
edges-two Hex = search rules

-- one more edge of a cell, between its vertices at these corners
pub edge-more : (n : ℕ) (cell : Cell) (e k a b : ℕ) → e < length (edges_of cell.poly) → k ≡ 64 * n + 8 + e → a ≡ get_or (edge_at cell.poly e) 0 0 → b ≡ get_or (edge_at cell.poly e) 1 0
    → map (cell_edge n cell) (take (e + 1) (enumerate_from 0 (edges_of cell.poly)))
    ≡ map (cell_edge n cell) (take e (enumerate_from 0 (edges_of cell.poly))) ++ edge_sight k (get_or cell.vertices a 0) (get_or cell.vertices b 0) ∷ []
edge-more n cell e k a b h key from to =
    let edges = edges_of cell.poly in
    let within : e < length (enumerate_from 0 edges) = omega (arith, length-enumerate_from 0 edges) in
    let place : 0 + e ≡ e = omega arith in
    let here : get_or (enumerate_from 0 edges) e (0, []) ≡ (e, edge_at cell.poly e) = get_or-enumerate_from 0 edges e (0, []) h ∙ (λ i. (place i, edge_at cell.poly e)) in
    let ends : edge_at cell.poly e ≡ a ∷ b ∷ [] = two-of (edge_at cell.poly e) (all_at (λ l. length l ≡ 2) edges e [] (edges-two cell.poly) h) ∙ (λ i. sym from i ∷ sym to i ∷ []) in
    map_more (cell_edge n cell) (enumerate_from 0 edges) e (0, []) within
    ∙ ap (λ x. map (cell_edge n cell) (take e (enumerate_from 0 edges)) ++ cell_edge n cell x ∷ []) here
    ∙ (λ i. map (cell_edge n cell) (take e (enumerate_from 0 edges)) ++ record { key = sym key i; poly = Segment; arrangement = picked cell.vertices (ends i) } ∷ [])

-- at most twelve edges of a cell
pub edges-twelve : (p : Poly) → length (edges_of p) ≤ 12
edges-twelve Vertex = omega arith
edges-twelve Segment = omega arith
edges-twelve Triangle = omega arith
edges-twelve Quad = omega arith
edges-twelve Tet = omega arith
edges-twelve Hex = omega arith

-- a cell sees the edges of its table
pub length-cell_edges : (c : ℕ × Cell) → length (cell_edges c.0 c.1) ≡ length (edges_of c.1.poly)
length-cell_edges c = length-map (enumerate_from 0 (edges_of c.1.poly)) (cell_edge c.0 c.1) ∙ length-enumerate_from 0 (edges_of c.1.poly)

-- and each of some cells
pub length-edges_seen : (cells : List (ℕ × Cell)) → length (edges_seen cells) ≤ 12 * length cells
length-edges_seen [] = omega arith
length-edges_seen (c ∷ cs) =
    omega (arith, length-append (cell_edges c.0 c.1) (edges_seen cs), length-edges_seen cs, edges-twelve c.1.poly, length-cell_edges c)
