-- Faces and edges as strata of the cells' own chart, and the places of each cell's entries.
use Rattle.std.proofs.Common.{◌≡◌, ℕ, ◌<◌, ◌≤◌, Bool, List, [], ◌∷◌, ◌++◌, length, get_or, refl, sym, ap, ap₂, ◌∙◌, arith}
use Rattle.std.specs.Prelude.{◌==◌, filter, slice_index}
use Rattle.std.specs.List.{AllByRecursion}
use Rattle.std.proofs.lemmas.List.{length-map, get_or-map}
use Rattle.std.proofs.lemmas.List.Elements.{filter-append}
use Rattle.mesh_defs.specs.declared.Poly.{Poly}
use Rattle.mesh_defs.specs.declared.Poly.TheVariants.{Vertex, Segment, Triangle, Quad, Tet, Hex}
use Rattle.mesh_defs.specs.Tables.{dim_of}
use Rattle.mesh_defs.specs.Mesh.{Cell}
use Rattle.mesh_defs.specs.Points.{Sight, point_of, cell_faces, cell_edges, sights_of, sights}
use Rattle.mesh_defs.specs.Diagram.{firsts, place_in}
use Rattle.rank_defs.specs.Spread.{own_stratum}
use Rattle.local_points.specs.Cells.{cell_at, faces_seen, edges_seen}
use Rattle.local_points.specs.Points.{places_in, faces_among, edges_among, local_points, row_at}

-- ---- strata

-- sights of one dimension
abbrev Of : ℕ → Sight → Bool
Of dim s = dim_of s.poly == dim

-- the edges that a polygon or a solid sees
edges-of : (n : ℕ) (p : Poly) (vertices : List ℕ) → 2 ≤ dim_of p → filter (Of 1) (sights_of (n, record { poly = p; vertices = vertices })) ≡ cell_edges n (record { poly = p; vertices = vertices })
unfolding sights_of
edges-of n Vertex vertices h = absurd (omega arith)
edges-of n Segment vertices h = absurd (omega arith)
edges-of n Triangle vertices h = refl
edges-of n Quad vertices h = refl
edges-of n Tet vertices h = refl
edges-of n Hex vertices h = refl

-- the faces that a solid sees
faces-of : (n : ℕ) (p : Poly) (vertices : List ℕ) → dim_of p ≡ 3 → filter (Of 2) (sights_of (n, record { poly = p; vertices = vertices })) ≡ cell_faces n (record { poly = p; vertices = vertices })
unfolding sights_of
faces-of n Vertex vertices h = absurd (omega arith)
faces-of n Segment vertices h = absurd (omega arith)
faces-of n Triangle vertices h = absurd (omega arith)
faces-of n Quad vertices h = absurd (omega arith)
faces-of n Tet vertices h = refl
faces-of n Hex vertices h = refl

edges-filtered : (cells : List (ℕ × Cell)) → AllByRecursion (λ (c : ℕ × Cell). 2 ≤ dim_of c.1.poly) cells → filter (Of 1) (sights cells) ≡ edges_seen cells
edges-filtered [] h = refl
edges-filtered (c ∷ cs) h = filter-append (Of 1) (sights_of c) (sights cs) ∙ ap₂ (λ a b. a ++ b) (edges-of c.0 c.1.poly c.1.vertices h.0) (edges-filtered cs h.1)

faces-filtered : (cells : List (ℕ × Cell)) → AllByRecursion (λ (c : ℕ × Cell). dim_of c.1.poly ≡ 3) cells → filter (Of 2) (sights cells) ≡ faces_seen cells
faces-filtered [] h = refl
faces-filtered (c ∷ cs) h = filter-append (Of 2) (sights_of c) (sights cs) ∙ ap₂ (λ a b. a ++ b) (faces-of c.0 c.1.poly c.1.vertices h.0) (faces-filtered cs h.1)

-- the edges of polygons and solids are the stratum of edges that these cells see
pub edges-stratum : (cells : List (ℕ × Cell)) → AllByRecursion (λ (c : ℕ × Cell). 2 ≤ dim_of c.1.poly) cells → edges_among cells ≡ own_stratum cells 1
edges-stratum cells h = sym (ap firsts (edges-filtered cells h))

-- the faces of solids are the stratum of faces that these cells see
pub faces-stratum : (cells : List (ℕ × Cell)) → AllByRecursion (λ (c : ℕ × Cell). dim_of c.1.poly ≡ 3) cells → faces_among cells ≡ own_stratum cells 2
faces-stratum cells h = sym (ap firsts (faces-filtered cells h))

-- ---- entries

-- each cell has a row of entries
pub length-face_places : (cells : List (ℕ × Cell)) → length (local_points cells).face_places ≡ length cells
length-face_places cells = length-map cells (λ (c : ℕ × Cell). places_in (faces_among cells) (cell_faces c.0 c.1))

pub length-edge_places : (cells : List (ℕ × Cell)) → length (local_points cells).edge_places ≡ length cells
length-edge_places cells = length-map cells (λ (c : ℕ × Cell). places_in (edges_among cells) (cell_edges c.0 c.1))

-- it has the place of each face, and of each edge
pub row-faces : (cells : List (ℕ × Cell)) (i : ℕ) → i < length cells → row_at (local_points cells).face_places i ≡ places_in (faces_among cells) (cell_faces (cell_at cells i).0 (cell_at cells i).1)
row-faces cells i h = get_or-map (λ (c : ℕ × Cell). places_in (faces_among cells) (cell_faces c.0 c.1)) cells i (cell_at [] 0) [] h

pub row-edges : (cells : List (ℕ × Cell)) (i : ℕ) → i < length cells → row_at (local_points cells).edge_places i ≡ places_in (edges_among cells) (cell_edges (cell_at cells i).0 (cell_at cells i).1)
row-edges cells i h = get_or-map (λ (c : ℕ × Cell). places_in (edges_among cells) (cell_edges c.0 c.1)) cells i (cell_at [] 0) [] h

-- an entry is the place of the point that is seen there
entry-place : (points seen : List Sight) (j : ℕ) (none : Sight) → j < length seen → slice_index (places_in points seen) j ≡ place_in points (point_of (get_or seen j none))
entry-place points seen j none h = get_or-map (λ s. place_in points (point_of s)) seen j none 0 h

pub face-place : (cells : List (ℕ × Cell)) (i f : ℕ) (none : Sight) → i < length cells → f < length (cell_faces (cell_at cells i).0 (cell_at cells i).1)
    → slice_index (row_at (local_points cells).face_places i) f ≡ place_in (faces_among cells) (point_of (get_or (cell_faces (cell_at cells i).0 (cell_at cells i).1) f none))
face-place cells i f none h within =
    ap (λ l. get_or l f 0) (row-faces cells i h) ∙ entry-place (faces_among cells) (cell_faces (cell_at cells i).0 (cell_at cells i).1) f none within

pub edge-place : (cells : List (ℕ × Cell)) (i e : ℕ) (none : Sight) → i < length cells → e < length (cell_edges (cell_at cells i).0 (cell_at cells i).1)
    → slice_index (row_at (local_points cells).edge_places i) e ≡ place_in (edges_among cells) (point_of (get_or (cell_edges (cell_at cells i).0 (cell_at cells i).1) e none))
edge-place cells i e none h within =
    ap (λ l. get_or l e 0) (row-edges cells i h) ∙ entry-place (edges_among cells) (cell_edges (cell_at cells i).0 (cell_at cells i).1) e none within
