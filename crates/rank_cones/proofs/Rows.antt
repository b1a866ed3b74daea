-- Where the cells of a rank have their own faces and edges, and where these stand by key.
use Rattle.std.proofs.Common.{◌≡◌, ℕ, ◌+◌, ◌<◌, true, ◌==◌, List, [], map, length, get_or, Some, sym, ap, ◌∙◌, subst, ⊎_elim, arith}
use Rattle.std.specs.Prelude.{slice_index, find}
use Rattle.std.specs.List.{list_any, AllByRecursion, enumerate_from}
use Rattle.std.proofs.lemmas.Bool.{eq-eqb, cond-true, both_ways}
use Rattle.std.proofs.lemmas.List.{length-map, get_or-map}
use Rattle.std.proofs.lemmas.List.FromFn.{length-enumerate_from, get_or-enumerate_from}
use Rattle.plain_lists.proofs.Each.{all_at, all_in_flat_map}
use Rattle.plain_lists.proofs.Finding.{position-within, find-cases, find-passes, among}
use Rattle.mesh_defs.specs.declared.Poly.TheVariants.{Vertex}
use Rattle.mesh_defs.specs.Tables.{Facet, dim_of, facets_of, edges_of, facet_at, edge_at}
use Rattle.mesh_defs.specs.Mesh.{Cell}
use Rattle.mesh_defs.specs.Points.{Point, Sight, point_of, shows, vertex_sight, cell_face, cell_edge, cell_faces, cell_edges}
use Rattle.mesh_defs.specs.Diagram.{place_in}
use Rattle.mesh_laws.proofs.Firsts.{shows-true, shown_among_firsts}
use Rattle.rank_laws.proofs.Found.{at-found}
use Rattle.local_points.specs.Cells.{cell_at, faces_seen, edges_seen}
use Rattle.local_points.specs.Points.{Local, places_in, faces_among, edges_among, local_points, row_at}
use Rattle.local_points.proofs.Strata.{row-faces, row-edges, face-place, edge-place, length-face_places, length-edge_places}
use Rattle.rank_cones.specs.held_points.Held.{Held}
use Rattle.rank_cones.specs.Placed.{ArePlaced}

-- ---- what one cell sees

module _ (n : ℕ) (cell : Cell) where
  pub length-edges : length (cell_edges n cell) ≡ length (edges_of cell.poly)
  length-edges = length-map (enumerate_from 0 (edges_of cell.poly)) (cell_edge n cell) ∙ length-enumerate_from 0 (edges_of cell.poly)

  pub edge-is_at : (e : ℕ) → e < length (edges_of cell.poly) → get_or (cell_edges n cell) e (vertex_sight 0) ≡ cell_edge n cell (e, edge_at cell.poly e)
  edge-is_at e h =
      let place : 0 + e ≡ e = omega arith in
      get_or-map (cell_edge n cell) (enumerate_from 0 (edges_of cell.poly)) e (0, []) (vertex_sight 0) (omega (arith, length-enumerate_from 0 (edges_of cell.poly)))
      ∙ ap (cell_edge n cell) (get_or-enumerate_from 0 (edges_of cell.poly) e (0, []) h ∙ (λ i. (place i, edge_at cell.poly e)))

  module _ (solid : dim_of cell.poly ≡ 3) where
    cell_faces-are : cell_faces n cell ≡ map (cell_face n cell) (enumerate_from 0 (facets_of cell.poly))
    cell_faces-are = cond-true (dim_of cell.poly == 3) (map (cell_face n cell) (enumerate_from 0 (facets_of cell.poly))) [] (eq-eqb (dim_of cell.poly) 3 solid)

    pub length-faces : length (cell_faces n cell) ≡ length (facets_of cell.poly)
    length-faces = ap length cell_faces-are ∙ length-map (enumerate_from 0 (facets_of cell.poly)) (cell_face n cell) ∙ length-enumerate_from 0 (facets_of cell.poly)

    pub face-is_at : (f : ℕ) → f < length (facets_of cell.poly) → get_or (cell_faces n cell) f (vertex_sight 0) ≡ cell_face n cell (f, facet_at cell.poly f)
    face-is_at f h =
        let place : 0 + f ≡ f = omega arith in
        let none : ℕ × Facet = (0, record { poly = Vertex; corners = [] }) in
        ap (λ l. get_or l f (vertex_sight 0)) cell_faces-are
        ∙ get_or-map (cell_face n cell) (enumerate_from 0 (facets_of cell.poly)) f none (vertex_sight 0) (omega (arith, length-enumerate_from 0 (facets_of cell.poly)))
        ∙ ap (cell_face n cell) (get_or-enumerate_from 0 (facets_of cell.poly) f none h ∙ (λ i. (place i, facet_at cell.poly f)))

-- where edge e of cell i stands among the own edges
pub own-edge_place : (cells : List (ℕ × Cell)) (i e : ℕ) → i < length cells → e < length (edges_of (cell_at cells i).1.poly)
    → slice_index (row_at (local_points cells).edge_places i) e ≡ place_in (edges_among cells) (point_of (cell_edge (cell_at cells i).0 (cell_at cells i).1 (e, edge_at (cell_at cells i).1.poly e)))
own-edge_place cells i e low h = edge-place cells i e (vertex_sight 0) low (omega (arith, length-edges (cell_at cells i).0 (cell_at cells i).1, h))
    ∙ ap (λ s. place_in (edges_among cells) (point_of s)) (edge-is_at (cell_at cells i).0 (cell_at cells i).1 e h)

-- ---- from own places to places by key

-- the place by key of an own point
moved : (held own : List Sight) (q : Point) → list_any (shows q) own ≡ true → slice_index (places_in held own) (place_in own q) ≡ place_in held q
moved held own q h = ⊎_elim
    (λ (w : (s : Sight) × (find (shows q) own ≡ Some s)).
    get_or-map (λ s. place_in held (point_of s)) own (place_in own q) (vertex_sight 0) 0 (position-within (shows q) own h)
    ∙ ap (λ s. place_in held (point_of s)) (at-found (shows q) own w.0 (vertex_sight 0) w.1)
    ∙ ap (place_in held) (sym (shows-true q w.0 (find-passes (shows q) own w.0 w.1))))
    (λ none. absurd (both_ways (list_any (shows q) own) none h))
    (find-cases (shows q) own)

module _ (cells : List (ℕ × Cell)) (local : Local) (held : Held) (is : local ≡ local_points cells) (placed : ArePlaced local held) (i : ℕ) (low : i < length cells) where
  abbrev cell : ℕ × Cell
  cell = cell_at cells i

  -- ---- faces

  pub face-rows : i < length local.face_places
  face-rows = omega (arith, ap (λ (p : Local). length p.face_places) is, length-face_places cells, low)

  module _ (solid : dim_of (cell_at cells i).1.poly ≡ 3) (f : ℕ) (h : f < length (facets_of (cell_at cells i).1.poly)) where
    face-of : Sight
    face-of = cell_face (cell_at cells i).0 (cell_at cells i).1 (f, facet_at (cell_at cells i).1.poly f)

    seen-low : f < length (cell_faces (cell_at cells i).0 (cell_at cells i).1)
    seen-low = omega (arith, length-faces (cell_at cells i).0 (cell_at cells i).1 solid, h)

    pub face-row_low : f < length (row_at local.face_places i)
    face-row_low = omega (
      arith,
      ap (λ (p : Local). length (row_at p.face_places i)) is,
      ap length (row-faces cells i low),
      length-map (cell_faces (cell_at cells i).0 (cell_at cells i).1) (λ s. place_in (faces_among cells) (point_of s)),
      seen-low,
    )

    own-face : slice_index (row_at local.face_places i) f ≡ place_in (faces_among cells) (point_of (cell_face (cell_at cells i).0 (cell_at cells i).1 (f, facet_at (cell_at cells i).1.poly f)))
    own-face = ap (λ (p : Local). slice_index (row_at p.face_places i) f) is ∙ face-place cells i f (vertex_sight 0) low seen-low
        ∙ ap (λ s. place_in (faces_among cells) (point_of s)) (face-is_at (cell_at cells i).0 (cell_at cells i).1 solid f h)

    own-face_shown : list_any (shows (point_of (cell_face (cell_at cells i).0 (cell_at cells i).1 (f, facet_at (cell_at cells i).1.poly f)))) (faces_among cells) ≡ true
    own-face_shown = subst (λ s. list_any (shows (point_of s)) (faces_among cells) ≡ true) (face-is_at (cell_at cells i).0 (cell_at cells i).1 solid f h)
        (all_at (λ s. list_any (shows (point_of s)) (faces_among cells) ≡ true) (cell_faces (cell_at cells i).0 (cell_at cells i).1) f (vertex_sight 0)
        (all_at (λ (c : ℕ × Cell). AllByRecursion (λ s. list_any (shows (point_of s)) (faces_among cells) ≡ true) (cell_faces c.0 c.1)) cells i (cell_at [] 0)
        (all_in_flat_map (λ s. list_any (shows (point_of s)) (faces_among cells) ≡ true) (λ (c : ℕ × Cell). cell_faces c.0 c.1) cells (shown_among_firsts (faces_seen cells))) low) seen-low)

    pub face-move_low : slice_index (row_at local.face_places i) f < length held.face_moves
    face-move_low = omega (
      arith,
      own-face,
      position-within (shows (point_of (cell_face (cell_at cells i).0 (cell_at cells i).1 (f, facet_at (cell_at cells i).1.poly f)))) (faces_among cells) own-face_shown,
      ap length placed.face_moves,
      length-map local.faces (λ s. place_in held.faces (point_of s)),
      ap (λ (p : Local). length p.faces) is,
    )

    -- the place by key of face f
    pub face-moved : slice_index held.face_moves (slice_index (row_at local.face_places i) f) ≡ place_in held.faces (point_of (cell_face (cell_at cells i).0 (cell_at cells i).1 (f, facet_at (cell_at cells i).1.poly f)))
    face-moved = (λ j. slice_index (placed.face_moves j) (own-face j)) ∙ ap (λ (p : Local). slice_index (places_in held.faces p.faces) (place_in (faces_among cells) (point_of (cell_face (cell_at cells i).0 (cell_at cells i).1 (f, facet_at (cell_at cells i).1.poly f))))) is
        ∙ moved held.faces (faces_among cells) (point_of (cell_face (cell_at cells i).0 (cell_at cells i).1 (f, facet_at (cell_at cells i).1.poly f))) own-face_shown

  -- ---- edges

  module _ (e : ℕ) (h : e < length (edges_of (cell_at cells i).1.poly)) where
    edge-low : e < length (cell_edges (cell_at cells i).0 (cell_at cells i).1)
    edge-low = omega (arith, length-edges (cell_at cells i).0 (cell_at cells i).1, h)

    pub edge-row_low : e < length (row_at local.edge_places i)
    edge-row_low = omega (
      arith,
      ap (λ (p : Local). length (row_at p.edge_places i)) is,
      ap length (row-edges cells i low),
      length-map (cell_edges (cell_at cells i).0 (cell_at cells i).1) (λ s. place_in (edges_among cells) (point_of s)),
      edge-low,
    )

    own-edge : slice_index (row_at local.edge_places i) e ≡ place_in (edges_among cells) (point_of (cell_edge (cell_at cells i).0 (cell_at cells i).1 (e, edge_at (cell_at cells i).1.poly e)))
    own-edge = ap (λ (p : Local). slice_index (row_at p.edge_places i) e) is ∙ own-edge_place cells i e low h

    own-edge_shown : list_any (shows (point_of (cell_edge (cell_at cells i).0 (cell_at cells i).1 (e, edge_at (cell_at cells i).1.poly e)))) (edges_among cells) ≡ true
    own-edge_shown = subst (λ s. list_any (shows (point_of s)) (edges_among cells) ≡ true) (edge-is_at (cell_at cells i).0 (cell_at cells i).1 e h)
        (all_at (λ s. list_any (shows (point_of s)) (edges_among cells) ≡ true) (cell_edges (cell_at cells i).0 (cell_at cells i).1) e (vertex_sight 0)
        (all_at (λ (c : ℕ × Cell). AllByRecursion (λ s. list_any (shows (point_of s)) (edges_among cells) ≡ true) (cell_edges c.0 c.1)) cells i (cell_at [] 0)
        (all_in_flat_map (λ s. list_any (shows (point_of s)) (edges_among cells) ≡ true) (λ (c : ℕ × Cell). cell_edges c.0 c.1) cells (shown_among_firsts (edges_seen cells))) low) edge-low)

    pub edge-move_low : slice_index (row_at local.edge_places i) e < length held.edge_moves
    edge-move_low = omega (
      arith,
      own-edge,
      position-within (shows (point_of (cell_edge (cell_at cells i).0 (cell_at cells i).1 (e, edge_at (cell_at cells i).1.poly e)))) (edges_among cells) own-edge_shown,
      ap length placed.edge_moves,
      length-map local.edges (λ s. place_in held.edges (point_of s)),
      ap (λ (p : Local). length p.edges) is,
    )

    -- the place by key of edge e
    pub edge-moved : slice_index held.edge_moves (slice_index (row_at local.edge_places i) e) ≡ place_in held.edges (point_of (cell_edge (cell_at cells i).0 (cell_at cells i).1 (e, edge_at (cell_at cells i).1.poly e)))
    edge-moved = (λ j. slice_index (placed.edge_moves j) (own-edge j)) ∙ ap (λ (p : Local). slice_index (places_in held.edges p.edges) (place_in (edges_among cells) (point_of (cell_edge (cell_at cells i).0 (cell_at cells i).1 (e, edge_at (cell_at cells i).1.poly e))))) is
        ∙ moved held.edges (edges_among cells) (point_of (cell_edge (cell_at cells i).0 (cell_at cells i).1 (e, edge_at (cell_at cells i).1.poly e))) own-edge_shown

  pub edge-rows : i < length local.edge_places
  edge-rows = omega (arith, ap (λ (p : Local). length p.edge_places) is, length-edge_places cells, low)

-- an edge of a cell is an own edge
pub edge-own : (cells : List (ℕ × Cell)) (i : ℕ) (q : Point) → i < length cells → list_any (shows q) (cell_edges (cell_at cells i).0 (cell_at cells i).1) ≡ true → list_any (shows q) (edges_among cells) ≡ true
edge-own cells i q low h =
    let own = all_at (λ (c : ℕ × Cell). AllByRecursion (λ s. list_any (shows (point_of s)) (edges_among cells) ≡ true) (cell_edges c.0 c.1)) cells i (cell_at [] 0)
    (all_in_flat_map (λ s. list_any (shows (point_of s)) (edges_among cells) ≡ true) (λ (c : ℕ × Cell). cell_edges c.0 c.1) cells (shown_among_firsts (edges_seen cells))) low in
    let (s, there, shown) = among (λ s. list_any (shows (point_of s)) (edges_among cells) ≡ true) (shows q) (cell_edges (cell_at cells i).0 (cell_at cells i).1) own h in
    ap (λ p. list_any (shows p) (edges_among cells)) (shows-true q s shown) ∙ there

-- the place by key of an own edge that is found by its ends
pub found-moved : (local : Local) (held : Held) (placed : ArePlaced local held) (q : Point) → list_any (shows q) local.edges ≡ true → (place_in local.edges q < length held.edge_moves) × (slice_index held.edge_moves (place_in local.edges q) ≡ place_in held.edges q)
found-moved local held placed q own = (
  omega (arith, position-within (shows q) local.edges own, ap length placed.edge_moves, length-map local.edges (λ s. place_in held.edges (point_of s))),
  ap (λ l. slice_index l (place_in local.edges q)) placed.edge_moves ∙ moved held.edges local.edges q own,
)
