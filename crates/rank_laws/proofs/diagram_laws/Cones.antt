-- Orientations and places by strata, and cones made of them.
use Rattle.std.proofs.Common.{◌≡◌, ◌≢◌, ℕ, ◌+◌, ◌-◌, ◌<◌, true, false, ◌||◌, ◌==◌, List, [], ◌∷◌, ◌++◌, map, length, slice_index, pos, Option, Some, None, refl, sym, ap, ap₂, ◌∙◌, inl, inr, length-append, arith}
use Rattle.std.specs.Prelude.{find, option_map, option_and_then, unwrap_or}
use Rattle.std.specs.List.{list_any, position_or_len, AllByRecursion, filter}
use Rattle.std.proofs.lemmas.Bool.{and_parts, eqb-true, eq-eqb, or_right}
use Rattle.std.proofs.lemmas.List.{length-map}
use Rattle.std.proofs.lemmas.List.FromFn.{length-enumerate_from}
use Rattle.std.proofs.lemmas.List.Folds.{list_any-append}
use Rattle.mesh_defs.specs.declared.Poly.{Poly}
use Rattle.mesh_defs.specs.declared.Poly.TheVariants.{Vertex, Segment, Triangle, Quad, Tet, Hex}
use Rattle.plain_lists.specs.Lists.{below, same_list, picked}
use Rattle.plain_lists.proofs.Each.{all_weaker}
use Rattle.plain_lists.proofs.Filters.{map_same}
use Rattle.plain_lists.proofs.Finding.{find-append_found, find-append_none, find-filter, found-any, position-append_found, position-append_none}
use Rattle.plain_lists.proofs.Below.{length-below}
use Rattle.mesh_defs.specs.Tables.{Facet, dim_of, facets_of}
use Rattle.mesh_defs.specs.Orientation.{relative}
use Rattle.mesh_defs.specs.Mesh.{Mesh, Cell, placed_cells}
use Rattle.mesh_defs.specs.Points.{Point, Sight, point_on, point_of, shows, cell_sight, sights, vertex_sight, vertex_sights, first_sight, arrangement}
use Rattle.mesh_defs.specs.Diagram.{firsts, chart, place_in, seen_under, entry, cone}
use Rattle.mesh_defs.specs.Sights.{IsEdgeSight}
use Rattle.mesh_defs.specs.RightMesh.{IsFlatOrSolid, IsSoundMesh, CellsDiffer}
use Rattle.mesh_laws.proofs.Firsts.{find-firsts}
use Rattle.mesh_laws.proofs.Turns.{relative-vertex}
use Rattle.mesh_laws.proofs.Vertices.{vertex_below, vertex_place, vertex_found}
use Rattle.rank_laws.specs.diagram_laws.Strata.{whole_sights, face_sights, edge_sights, mesh_faces, mesh_edges, turn_among, entry_from, cone_from, end_entry}
use Rattle.rank_laws.proofs.diagram_laws.Parts.{of_dim, faces-filtered, edges-filtered, cell-dims, chart-parts}
use Rattle.rank_laws.proofs.diagram_laws.Edges.{none-of_dim, vertices-of_dim, wholes-of_dim, faces-of_dim}

-- ---- orientations

-- a choice after an image
then-mapped : {X Y Z : Type 0} (f : Y → Option Z) (g : X → Y) (o : Option X) → option_and_then f (option_map g o) ≡ option_and_then (λ x. f (g x)) o
then-mapped f g None = refl
then-mapped f g (Some x) = refl

-- the first sight of a point that is no vertex is found among those of its dimension
pub first-of_dim : (m : Mesh) (p : Point) (ss : List Sight) → p.dim ≢ 0 → filter (of_dim p.dim) (sights (placed_cells m)) ≡ ss → first_sight m p ≡ find (shows p) (firsts ss)
unfolding first_sight
first-of_dim m p ss ne same =
    find-append_none (shows p) (vertex_sights m) (sights (placed_cells m)) (none-of_dim p 0 (vertex_sights m) ne (vertices-of_dim (length m.at)))
    ∙ sym (find-filter (shows p) (of_dim p.dim) (λ t h. eq-eqb (dim_of t.poly) p.dim (sym (eqb-true p.dim (dim_of t.poly) (and_parts (p.dim == dim_of t.poly) (same_list p.vertices (point_of t).vertices) h).0))) (sights (placed_cells m)))
    ∙ ap (find (shows p)) same ∙ sym (find-firsts p ss)

-- so its orientation is the one by what is found there
pub turn-of_dim : (m : Mesh) (poly : Poly) (list : List ℕ) (ss : List Sight) → dim_of poly ≢ 0 → filter (of_dim (dim_of poly)) (sights (placed_cells m)) ≡ ss → seen_under m poly list ≡ turn_among (firsts ss) poly list
unfolding seen_under arrangement turn_among
turn-of_dim m poly list ss ne same =
    ap (λ s. option_and_then (λ own. relative poly own list) (option_map (λ (s : Sight). s.arrangement) s)) (first-of_dim m (point_on poly list) ss ne same)
    ∙ then-mapped (λ own. relative poly own list) (λ (s : Sight). s.arrangement) (find (shows (point_on poly list)) (firsts ss))

-- ---- the tables

-- the facets of a polytope are one dimension lower
pub facets-lower : (p : Poly) → AllByRecursion (λ (f : Facet). dim_of f.poly ≡ dim_of p - 1) (facets_of p)
facets-lower Vertex = tt
facets-lower Segment = (refl, (refl, tt))
facets-lower Triangle = (refl, (refl, (refl, tt)))
facets-lower Quad = (refl, (refl, (refl, (refl, tt))))
facets-lower Tet = (refl, (refl, (refl, (refl, tt))))
facets-lower Hex = (refl, (refl, (refl, (refl, (refl, (refl, tt))))))

-- none of two lists
neither : (p : Point) (xs ys : List Sight) → list_any (shows p) xs ≡ false → list_any (shows p) ys ≡ false → list_any (shows p) (xs ++ ys) ≡ false
neither p xs ys a b = list_any-append (shows p) xs ys ∙ ap₂ (λ s t. s || t) a b

module _ (m : Mesh) (sound : IsSoundMesh m) (differ : CellsDiffer m) where
  abbrev wholes : List Sight
  wholes = whole_sights (placed_cells m)

  -- the number of a point
  abbrev number : Point → ℕ
  number = place_in (chart m (placed_cells m))

  pub length-wholes : length wholes ≡ length m.cells
  length-wholes = length-map (placed_cells m) (λ (c : ℕ × Cell). cell_sight c.0 c.1) ∙ length-enumerate_from 0 m.cells

  pub length-vertices : length (vertex_sights m) ≡ length m.at
  length-vertices = length-map (below (length m.at)) vertex_sight ∙ length-below (length m.at)

  -- the dimension is neither 0 nor 1
  dim-is_not : (d : ℕ) → d < 2 → d ≢ m.dim
  dim-is_not d low e = go sound.dim
    where
      go : IsFlatOrSolid m → ⊥
      go (inl flat) = omega arith
      go (inr solid) = omega arith

  -- ---- places

  -- a vertex stands behind the cells
  pub place-vertex : (v : ℕ) → v < length m.at → number (point_on Vertex (v ∷ [])) ≡ length m.cells + v
  place-vertex v low =
      let p = point_on Vertex (v ∷ []) in
      let none = none-of_dim p m.dim wholes (dim-is_not 0 (omega arith)) (wholes-of_dim m sound) in
      ap (position_or_len (shows p)) (chart-parts m sound differ)
      ∙ position-append_found (shows p) (wholes ++ vertex_sights m ++ mesh_faces m) (mesh_edges m)
      (list_any-append (shows p) (wholes ++ vertex_sights m) (mesh_faces m) ∙ ap (λ b. b || list_any (shows p) (mesh_faces m)) (list_any-append (shows p) wholes (vertex_sights m) ∙ or_right _ _ (vertex_below (length m.at) v low)))
      ∙ position-append_found (shows p) (wholes ++ vertex_sights m) (mesh_faces m) (list_any-append (shows p) wholes (vertex_sights m) ∙ or_right _ _ (vertex_below (length m.at) v low))
      ∙ position-append_none (shows p) wholes (vertex_sights m) none
      ∙ ap₂ (λ a b. a + b) length-wholes (vertex_place (length m.at) v low)

  -- a face stands behind the vertices, in a solid mesh
  pub place-face : m.dim ≡ 3 → (p : Point) → p.dim ≡ 2 → list_any (shows p) (mesh_faces m) ≡ true → number p ≡ length m.cells + length m.at + position_or_len (shows p) (mesh_faces m)
  place-face solid p two shown =
      ap (position_or_len (shows p)) (chart-parts m sound differ)
      ∙ position-append_found (shows p) (wholes ++ vertex_sights m ++ mesh_faces m) (mesh_edges m) (list_any-append (shows p) (wholes ++ vertex_sights m) (mesh_faces m) ∙ or_right _ _ shown)
      ∙ position-append_none (shows p) (wholes ++ vertex_sights m) (mesh_faces m) (neither p wholes (vertex_sights m) (none-of_dim p m.dim wholes (λ e. absurd (omega arith)) (wholes-of_dim m sound)) (none-of_dim p 0 (vertex_sights m) (λ e. absurd (omega arith)) (vertices-of_dim (length m.at))))
      ∙ ap (λ n. n + position_or_len (shows p) (mesh_faces m)) (length-append wholes (vertex_sights m) ∙ ap₂ (λ a b. a + b) length-wholes length-vertices)

  -- an edge stands behind the faces
  pub place-edge : (p : Point) → p.dim ≡ 1 → number p ≡ length m.cells + length m.at + length (mesh_faces m) + position_or_len (shows p) (mesh_edges m)
  place-edge p one =
      ap (position_or_len (shows p)) (chart-parts m sound differ)
      ∙ position-append_none (shows p) (wholes ++ vertex_sights m ++ mesh_faces m) (mesh_edges m)
      (neither p (wholes ++ vertex_sights m) (mesh_faces m)
      (neither p wholes (vertex_sights m) (none-of_dim p m.dim wholes (λ e. dim-is_not 1 (omega arith) (sym one ∙ e)) (wholes-of_dim m sound)) (none-of_dim p 0 (vertex_sights m) (λ e. absurd (omega arith)) (vertices-of_dim (length m.at))))
      (none-of_dim p 2 (mesh_faces m) (λ e. absurd (omega arith)) (faces-of_dim m sound)))
      ∙ ap (λ n. n + position_or_len (shows p) (mesh_edges m))
      (length-append (wholes ++ vertex_sights m) (mesh_faces m) ∙ ap (λ n. n + length (mesh_faces m)) (length-append wholes (vertex_sights m) ∙ ap₂ (λ a b. a + b) length-wholes length-vertices))

  -- ---- entries

  -- the orientation of an edge
  pub turn-edge : (poly : Poly) (list : List ℕ) → dim_of poly ≡ 1 → seen_under m poly list ≡ turn_among (mesh_edges m) poly list
  turn-edge poly list one = turn-of_dim m poly list (edge_sights (placed_cells m)) (λ e. absurd (omega arith)) (ap (λ d. filter (of_dim d) (sights (placed_cells m))) one ∙ edges-filtered m sound.dim (cell-dims m sound))

  -- the orientation of a face
  pub turn-face : m.dim ≡ 3 → (poly : Poly) (list : List ℕ) → dim_of poly ≡ 2 → seen_under m poly list ≡ turn_among (mesh_faces m) poly list
  turn-face solid poly list two = turn-of_dim m poly list (face_sights (placed_cells m)) (λ e. absurd (omega arith)) (ap (λ d. filter (of_dim d) (sights (placed_cells m))) two ∙ faces-filtered m sound.dim (cell-dims m sound) solid)

  -- the entry of an edge
  pub entry-edge : (list : List ℕ) (f : Facet) → dim_of f.poly ≡ 1 → entry m number list f ≡ entry_from (length m.cells + length m.at + length (mesh_faces m)) (mesh_edges m) f.poly (picked list f.corners)
  unfolding entry entry_from
  entry-edge list f one =
      let place = place-edge (point_on f.poly (picked list f.corners)) one in
      let turn = turn-edge f.poly (picked list f.corners) one in
      λ i. record { point = place i; o = unwrap_or (turn i) (pos 0) }

  -- the entry of a face that is shown
  pub entry-face : m.dim ≡ 3 → (list : List ℕ) (f : Facet) → dim_of f.poly ≡ 2 → list_any (shows (point_on f.poly (picked list f.corners))) (mesh_faces m) ≡ true → entry m number list f ≡ entry_from (length m.cells + length m.at) (mesh_faces m) f.poly (picked list f.corners)
  unfolding entry entry_from
  entry-face solid list f two shown =
      let place = place-face solid (point_on f.poly (picked list f.corners)) two shown in
      let turn = turn-face solid f.poly (picked list f.corners) two in
      λ i. record { point = place i; o = unwrap_or (turn i) (pos 0) }

  -- the own list of a vertex
  arrangement-vertex : (v : ℕ) → v < length m.at → arrangement m (point_on Vertex (v ∷ [])) ≡ Some (v ∷ [])
  unfolding arrangement first_sight
  arrangement-vertex v low =
      let found = vertex_found (length m.at) v low in
      ap (option_map (λ (s : Sight). s.arrangement)) (find-append_found (shows (point_of (vertex_sight v))) (vertex_sights m) (sights (placed_cells m)) (found-any (shows (point_of (vertex_sight v))) (vertex_sights m) (vertex_sight v) found) ∙ found)

  -- the entry of a vertex
  pub entry-vertex : (list : List ℕ) (k : ℕ) → slice_index list k < length m.at → entry m number list (record { poly = Vertex; corners = k ∷ [] }) ≡ end_entry (length m.cells) (slice_index list k)
  unfolding entry seen_under
  entry-vertex list k low =
      let v = slice_index list k in
      let place = place-vertex v low in
      let turn = ap (option_and_then (λ own. relative Vertex own (v ∷ []))) (arrangement-vertex v low) ∙ relative-vertex v in
      λ i. record { point = place i; o = unwrap_or (turn i) (pos 0) }

  -- ---- cones

  -- the cone of a polygon: its edges
  pub cone-polygon : (s : Sight) → dim_of s.poly ≡ 2 → cone m number s ≡ cone_from (length m.cells + length m.at + length (mesh_faces m)) (mesh_edges m) s.poly s.arrangement
  unfolding cone
  cone-polygon s two = map_same (entry m number s.arrangement) (λ (f : Facet). entry_from (length m.cells + length m.at + length (mesh_faces m)) (mesh_edges m) f.poly (picked s.arrangement f.corners)) (facets_of s.poly)
      (all_weaker (λ (f : Facet). dim_of f.poly ≡ dim_of s.poly - 1) (λ (f : Facet). entry m number s.arrangement f ≡ entry_from (length m.cells + length m.at + length (mesh_faces m)) (mesh_edges m) f.poly (picked s.arrangement f.corners))
      (λ f h. entry-edge s.arrangement f (omega arith)) (facets_of s.poly) (facets-lower s.poly))

  -- the cone of an edge: its ends
  pub cone-edge : (s : Sight) → IsEdgeSight (length m.at) s → cone m number s ≡ end_entry (length m.cells) (slice_index s.arrangement 0) ∷ end_entry (length m.cells) (slice_index s.arrangement 1) ∷ []
  unfolding cone
  cone-edge s h =
      let first = entry-vertex s.arrangement 0 h.first in
      let second = entry-vertex s.arrangement 1 h.second in
      ap (λ p. map (entry m number s.arrangement) (facets_of p)) h.poly ∙ (λ i. first i ∷ second i ∷ [])

  -- the cone of a vertex
  pub cone-vertex : (v : ℕ) → cone m number (vertex_sight v) ≡ []
  unfolding cone
  cone-vertex v = refl
