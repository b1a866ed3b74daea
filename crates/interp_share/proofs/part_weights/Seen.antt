-- What some cells see of faces and edges, and how long the rows of a cell are.
use Rattle.std.proofs.Common.{◌≡◌, ℕ, ◌<◌, Bool, true, false, cond, ◌==◌, List, [], map, length, sym, ap, ◌∙◌, subst}
use Rattle.std.specs.Prelude.{slice_index}
use Rattle.std.specs.List.{list_any, position_or_len, AllByRecursion, enumerate_from}
use Rattle.std.proofs.lemmas.List.{length-map}
use Rattle.std.proofs.lemmas.List.FromFn.{length-enumerate_from}
use Rattle.plain_lists.proofs.Each.{all_at, all_in_flat_map, all_map, all_weaker}
use Rattle.plain_lists.proofs.Finding.{position-within}
use Rattle.mesh_defs.specs.Tables.{dim_of, facets_of, edges_of}
use Rattle.mesh_defs.specs.Mesh.{Cell}
use Rattle.mesh_defs.specs.Points.{Sight, point_of, shows, cell_face, cell_edge, cell_faces, cell_edges}
use Rattle.mesh_laws.proofs.Firsts.{shown_among_firsts}
use Rattle.local_points.specs.Cells.{faces_seen, edges_seen}
use Rattle.local_points.specs.Points.{Local, places_in, faces_among, edges_among, local_points, row_at}
use Rattle.local_points.proofs.Strata.{row-faces, row-edges}
use Rattle.dist_state.specs.scatter_state.Parts.{cell_at}

-- places among sights that show what is looked for
places-within : (points ss : List Sight) → AllByRecursion (λ s. list_any (shows (point_of s)) points ≡ true) ss → AllByRecursion (λ k. k < length points) (places_in points ss)
places-within points ss all = all_map (λ k. k < length points) (λ s. position_or_len (shows (point_of s)) points) ss
    (all_weaker (λ s. list_any (shows (point_of s)) points ≡ true) (λ s. position_or_len (shows (point_of s)) points < length points) (λ s there. position-within (shows (point_of s)) points there) ss all)

module _ (cells : List (ℕ × Cell)) (i : ℕ) (low : i < length cells) where
  abbrev c : ℕ × Cell
  c = cell_at cells i

  pub faces-seen : AllByRecursion (λ s. list_any (shows (point_of s)) (faces_among cells) ≡ true) (cell_faces (cell_at cells i).0 (cell_at cells i).1)
  faces-seen = all_at (λ (d : ℕ × Cell). AllByRecursion (λ s. list_any (shows (point_of s)) (faces_among cells) ≡ true) (cell_faces d.0 d.1)) cells i (cell_at [] 0)
      (all_in_flat_map (λ s. list_any (shows (point_of s)) (faces_among cells) ≡ true) (λ (d : ℕ × Cell). cell_faces d.0 d.1) cells (shown_among_firsts (faces_seen cells))) low

  pub edges-seen : AllByRecursion (λ s. list_any (shows (point_of s)) (edges_among cells) ≡ true) (cell_edges (cell_at cells i).0 (cell_at cells i).1)
  edges-seen = all_at (λ (d : ℕ × Cell). AllByRecursion (λ s. list_any (shows (point_of s)) (edges_among cells) ≡ true) (cell_edges d.0 d.1)) cells i (cell_at [] 0)
      (all_in_flat_map (λ s. list_any (shows (point_of s)) (edges_among cells) ≡ true) (λ (d : ℕ × Cell). cell_edges d.0 d.1) cells (shown_among_firsts (edges_seen cells))) low

  module _ (local : Local) (h : local ≡ local_points cells) where
    -- the rows
    pub faces-row : row_at local.face_places i ≡ places_in (faces_among cells) (cell_faces (cell_at cells i).0 (cell_at cells i).1)
    faces-row = ap (λ (p : Local). row_at p.face_places i) h ∙ row-faces cells i low

    pub edges-row : row_at local.edge_places i ≡ places_in (edges_among cells) (cell_edges (cell_at cells i).0 (cell_at cells i).1)
    edges-row = ap (λ (p : Local). row_at p.edge_places i) h ∙ row-edges cells i low

    faces-long : (b : Bool) → (dim_of c.1.poly == 3) ≡ b → length (row_at local.face_places i) ≡ length (cond b (map (cell_face c.0 c.1) (enumerate_from 0 (facets_of c.1.poly))) [])
    faces-long b e = ap length faces-row ∙ (length-map (cell_faces c.0 c.1) (λ s. position_or_len (shows (point_of s)) (faces_among cells)) ∙ ap (λ t. length (cond t (map (cell_face c.0 c.1) (enumerate_from 0 (facets_of c.1.poly))) [])) e)

    pub faces-solid : (dim_of (cell_at cells i).1.poly == 3) ≡ true → length (row_at local.face_places i) ≡ length (facets_of (cell_at cells i).1.poly)
    faces-solid e = faces-long true e ∙ (length-map (enumerate_from 0 (facets_of c.1.poly)) (cell_face c.0 c.1) ∙ length-enumerate_from 0 (facets_of c.1.poly))

    pub faces-none : (dim_of (cell_at cells i).1.poly == 3) ≡ false → length (row_at local.face_places i) ≡ 0
    faces-none e = faces-long false e

    pub edges-many : length (row_at local.edge_places i) ≡ length (edges_of (cell_at cells i).1.poly)
    edges-many = ap length edges-row ∙ (length-map (cell_edges c.0 c.1) (λ s. position_or_len (shows (point_of s)) (edges_among cells)) ∙ (length-map (enumerate_from 0 (edges_of c.1.poly)) (cell_edge c.0 c.1) ∙ length-enumerate_from 0 (edges_of c.1.poly)))

    -- their places are below the number of faces and of edges
    pub face-low : (f : ℕ) → f < length (row_at local.face_places i) → slice_index (row_at local.face_places i) f < length local.faces
    face-low f within = subst (λ (p : Local). slice_index (row_at local.face_places i) f < length p.faces) (sym h)
        (all_at (λ k. k < length (faces_among cells)) (row_at local.face_places i) f 0 (subst (AllByRecursion (λ k. k < length (faces_among cells))) (sym faces-row) (places-within (faces_among cells) (cell_faces c.0 c.1) faces-seen)) within)

    pub edge-low : (e : ℕ) → e < length (row_at local.edge_places i) → slice_index (row_at local.edge_places i) e < length local.edges
    edge-low e within = subst (λ (p : Local). slice_index (row_at local.edge_places i) e < length p.edges) (sym h)
        (all_at (λ k. k < length (edges_among cells)) (row_at local.edge_places i) e 0 (subst (AllByRecursion (λ k. k < length (edges_among cells))) (sym edges-row) (places-within (edges_among cells) (cell_edges c.0 c.1) edges-seen)) within)
