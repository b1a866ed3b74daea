-- The diagram of a rank's cells by the places of its points.
use Rattle.std.proofs.Common.{◌≡◌, ◌≢◌, ℕ, ◌+◌, ◌-◌, ◌<◌, Bool, true, false, ◌==◌, List, [], ◌∷◌, ◌++◌, map, length, slice_index, pos, Some, None, refl, sym, ap, ap₂, ◌∙◌, subst, ⊎_elim, arith}
use Rattle.std.specs.Prelude.{option_map, option_and_then, unwrap_or, if◌then◌else◌}
use Rattle.std.specs.List.{list_any, AllByRecursion}
use Rattle.std.proofs.lemmas.Bool.{eq-eqb, ne_eqb}
use Rattle.std.proofs.lemmas.List.{map-append}
use Rattle.plain_lists.specs.Lists.{picked}
use Rattle.plain_lists.proofs.Each.{all_weaker, all_both, all_from}
use Rattle.plain_lists.proofs.Filters.{map_same, map_map_same, count_whole, count_nothing, count-append}
use Rattle.plain_lists.proofs.Finding.{find-append_found, found-any}
use Rattle.mesh_defs.specs.declared.Poly.TheVariants.{Vertex}
use Rattle.mesh_defs.specs.Tables.{Facet, dim_of, facets_of}
use Rattle.mesh_defs.specs.Orientation.{relative}
use Rattle.mesh_defs.specs.Mesh.{Mesh, Cell}
use Rattle.mesh_defs.specs.Points.{Point, Sight, point_on, point_of, shows, cell_sight, sights, vertex_sight, vertex_sights, first_sight, arrangement}
use Rattle.mesh_defs.specs.Diagram.{chart, place_in, seen_under, entry, cone, count_in, Covering, diagram}
use Rattle.mesh_defs.specs.Sights.{IsEdgeSight}
use Rattle.mesh_defs.specs.RightMesh.{IsSoundCell, IsSoundMesh, AreCells, in_some}
use Rattle.mesh_laws.proofs.Turns.{relative-vertex}
use Rattle.mesh_laws.proofs.Vertices.{vertex_found}
use Rattle.mesh_defs.specs.Mesh.{placed_cells}
use Rattle.rank_laws.specs.diagram_laws.Strata.{whole_sights, face_sights, turn_among, entry_from, cone_from, bare_cover, first_twist}
use Rattle.rank_laws.proofs.diagram_laws.Edges.{OfDim}
use Rattle.rank_laws.proofs.diagram_laws.Cones.{facets-lower}
use Rattle.rank_laws.proofs.share_laws.Own.{sound-cells}
use Rattle.rank_laws.specs.orient_laws.Named.{chart_stratum}
use Rattle.rank_chart_laws.specs.OwnRanks.{own_vertices}
use Rattle.rank_chart_laws.specs.rank_diagram_laws.Parts.{held_faces, parts_of, sides, cell_part, face_part, end_part, edge_part, parts_diagram}
use Rattle.rank_chart_laws.proofs.rank_diagram_laws.Charted.{held-turn, stratum-shown, stratum-of_dim, solid-faces, flat-faces, faces-of_dim, edges-of_dim, vertices-of_dim, chart-parts, wholes-of_dim, length-wholes, length-vertices, place-vertex, place-face, place-edge}
use Rattle.rank_chart_laws.proofs.rank_diagram_laws.Inside.{cells-inside, edges-sound, stratum-inside, ends-inside, sides-inside}

-- points of one dimension are counted under it, and under no other
count-same : (d e : ℕ) (ss : List Sight) → e ≡ d → AllByRecursion (OfDim e) ss → count_in d ss ≡ length ss
count-same d e ss same h = count_whole (λ s. dim_of s.poly == d) ss (all_weaker (OfDim e) (λ s. (dim_of s.poly == d) ≡ true) (λ s k. eq-eqb (dim_of s.poly) d (k ∙ same)) ss h)

count-other : (d e : ℕ) (ss : List Sight) → e ≢ d → AllByRecursion (OfDim e) ss → count_in d ss ≡ 0
count-other d e ss ne h = count_nothing (λ s. dim_of s.poly == d) ss (all_weaker (OfDim e) (λ s. (dim_of s.poly == d) ≡ false) (λ s k. ne_eqb (dim_of s.poly) d (λ f. ne (sym k ∙ f))) ss h)

module _ (m : Mesh) (sound : IsSoundMesh m) (cells : List (ℕ × Cell)) (are : AreCells m cells) (tops : chart_stratum m cells m.dim ≡ whole_sights cells) where
  sounds : AllByRecursion (λ (c : ℕ × Cell). IsSoundCell m c.1) cells
  sounds = sound-cells m sound cells are

  abbrev number : Point → ℕ
  number = place_in (chart m cells)

  abbrev before_faces : ℕ
  before_faces = length cells + length (own_vertices m cells)

  -- ---- entries

  -- the entry of an edge that the cells have
  entry-edge : (list : List ℕ) (f : Facet) → dim_of f.poly ≡ 1 → in_some (point_on f.poly (picked list f.corners)) cells ≡ true → entry m number list f ≡ entry_from (before_faces + length (held_faces m cells)) (chart_stratum m cells 1) f.poly (picked list f.corners)
  unfolding entry entry_from
  entry-edge list f one here =
      let place = place-edge m cells sound sounds tops (point_on f.poly (picked list f.corners)) one in
      let turn = held-turn m cells f.poly (picked list f.corners) (λ e. absurd (omega arith)) here ∙ ap (λ d. turn_among (chart_stratum m cells d) f.poly (picked list f.corners)) one in
      λ i. record { point = place i; o = unwrap_or (turn i) (pos 0) }

  -- the entry of a face that the cells have, in a solid mesh
  entry-face : m.dim ≡ 3 → (list : List ℕ) (f : Facet) → dim_of f.poly ≡ 2 → in_some (point_on f.poly (picked list f.corners)) cells ≡ true → entry m number list f ≡ entry_from before_faces (held_faces m cells) f.poly (picked list f.corners)
  unfolding entry entry_from
  entry-face solid list f two here =
      let p = point_on f.poly (picked list f.corners) in
      let faces = solid-faces m cells solid in
      let shown : list_any (shows p) (held_faces m cells) ≡ true = ap (list_any (shows p)) (faces ∙ ap (chart_stratum m cells) (sym two)) ∙ stratum-shown m cells are p (λ e. absurd (omega arith)) ∙ here in
      let place = place-face m cells sound sounds tops solid p two shown in
      let turn = held-turn m cells f.poly (picked list f.corners) (λ e. absurd (omega arith)) here ∙ ap (λ d. turn_among (chart_stratum m cells d) f.poly (picked list f.corners)) two ∙ ap (λ l. turn_among l f.poly (picked list f.corners)) (sym faces) in
      λ i. record { point = place i; o = unwrap_or (turn i) (pos 0) }

  -- the own list of a vertex
  arrangement-vertex : (v : ℕ) → v < length m.at → arrangement m (point_on Vertex (v ∷ [])) ≡ Some (v ∷ [])
  unfolding arrangement first_sight
  arrangement-vertex v low =
      let found = vertex_found (length m.at) v low in
      ap (option_map (λ (s : Sight). s.arrangement)) (find-append_found (shows (point_of (vertex_sight v))) (vertex_sights m) (sights (placed_cells m)) (found-any (shows (point_of (vertex_sight v))) (vertex_sights m) (vertex_sight v) found) ∙ found)

  -- the entry of a vertex
  entry-vertex : (list : List ℕ) (k : ℕ) → slice_index list k < length m.at → list_any (λ w. w == slice_index list k) (own_vertices m cells) ≡ true → entry m number list (record { poly = Vertex; corners = k ∷ [] }) ≡ end_part (parts_of m cells) (slice_index list k)
  unfolding entry seen_under
  entry-vertex list k low here =
      let v = slice_index list k in
      let place = place-vertex m cells sound sounds tops v here in
      let turn = ap (option_and_then (λ own. relative Vertex own (v ∷ []))) (arrangement-vertex v low) ∙ relative-vertex v in
      λ i. record { point = place i; o = unwrap_or (turn i) (pos 0) }

  -- ---- cones

  -- each facet is had by the cells
  abbrev Inside : Sight → Type 0
  Inside s = AllByRecursion (λ (f : Facet). in_some (point_on f.poly (picked s.arrangement f.corners)) cells ≡ true) (facets_of s.poly)

  -- the cone of a polygon: its edges
  cone-polygon : (s : Sight) → dim_of s.poly ≡ 2 → Inside s → cone m number s ≡ cone_from (before_faces + length (held_faces m cells)) (chart_stratum m cells 1) s.poly s.arrangement
  unfolding cone
  cone-polygon s two inside = map_same (entry m number s.arrangement) (λ (f : Facet). entry_from (before_faces + length (held_faces m cells)) (chart_stratum m cells 1) f.poly (picked s.arrangement f.corners)) (facets_of s.poly)
      (all_both (λ (f : Facet). dim_of f.poly ≡ dim_of s.poly - 1) (λ (f : Facet). in_some (point_on f.poly (picked s.arrangement f.corners)) cells ≡ true) (λ (f : Facet). entry m number s.arrangement f ≡ entry_from (before_faces + length (held_faces m cells)) (chart_stratum m cells 1) f.poly (picked s.arrangement f.corners))
      (λ f h k. entry-edge s.arrangement f (omega arith) k) (facets_of s.poly) (facets-lower s.poly) inside)

  -- the cone of a solid: its faces
  cone-solid : m.dim ≡ 3 → (s : Sight) → dim_of s.poly ≡ 3 → Inside s → cone m number s ≡ cone_from before_faces (held_faces m cells) s.poly s.arrangement
  unfolding cone
  cone-solid solid s three inside = map_same (entry m number s.arrangement) (λ (f : Facet). entry_from before_faces (held_faces m cells) f.poly (picked s.arrangement f.corners)) (facets_of s.poly)
      (all_both (λ (f : Facet). dim_of f.poly ≡ dim_of s.poly - 1) (λ (f : Facet). in_some (point_on f.poly (picked s.arrangement f.corners)) cells ≡ true) (λ (f : Facet). entry m number s.arrangement f ≡ entry_from before_faces (held_faces m cells) f.poly (picked s.arrangement f.corners))
      (λ f h k. entry-face solid s.arrangement f (omega arith) k) (facets_of s.poly) (facets-lower s.poly) inside)

  -- the cone of an edge: its ends
  cone-edge : (s : Sight) → IsEdgeSight (length m.at) s → in_some (point_of s) cells ≡ true → cone m number s ≡ (edge_part (parts_of m cells) s).covers
  unfolding cone
  cone-edge s h here =
      let ends = ends-inside m sound cells are s h here in
      let first = entry-vertex s.arrangement 0 h.first ends.0 in
      let second = entry-vertex s.arrangement 1 h.second ends.1 in
      ap (λ p. map (entry m number s.arrangement) (facets_of p)) h.poly ∙ (λ i. first i ∷ second i ∷ [])

  -- the cone of a vertex
  cone-vertex : (v : ℕ) → cone m number (vertex_sight v) ≡ []
  unfolding cone
  cone-vertex v = refl

  -- ---- points with their cones

  abbrev cover : Sight → Covering
  cover s = record { poly = s.poly; covers = cone m number s }

  cells-covered : AllByRecursion (λ (c : ℕ × Cell). cover (cell_sight c.0 c.1) ≡ cell_part (parts_of m cells) c) cells
  cells-covered = all_both (λ (c : ℕ × Cell). IsSoundCell m c.1) (λ (c : ℕ × Cell). AllByRecursion (λ (f : Facet). in_some (point_on f.poly (picked c.1.vertices f.corners)) cells ≡ true) (facets_of c.1.poly)) (λ (c : ℕ × Cell). cover (cell_sight c.0 c.1) ≡ cell_part (parts_of m cells) c)
      (λ c s inside. ⊎_elim (flat c s inside) (solid c s inside) sound.dim) cells sounds (cells-inside m sound cells are)
    where
      flat : (c : ℕ × Cell) → IsSoundCell m c.1 → Inside (cell_sight c.0 c.1) → m.dim ≡ 2 → cover (cell_sight c.0 c.1) ≡ cell_part (parts_of m cells) c
      flat c s inside two =
          let base : before_faces + length (held_faces m cells) ≡ before_faces = omega (arith, ap length (flat-faces m cells two)) in
          let edges : chart_stratum m cells 1 ≡ sides (parts_of m cells) = sym (ap (λ b. if b then held_faces m cells else chart_stratum m cells 1) (ne_eqb m.dim 3 (λ e. absurd (omega arith)))) in
          ap (λ l. record { poly = c.1.poly; covers = l }) (cone-polygon (cell_sight c.0 c.1) (s.dim ∙ two) inside ∙ (λ i. cone_from (base i) (edges i) c.1.poly c.1.vertices))

      solid : (c : ℕ × Cell) → IsSoundCell m c.1 → Inside (cell_sight c.0 c.1) → m.dim ≡ 3 → cover (cell_sight c.0 c.1) ≡ cell_part (parts_of m cells) c
      solid c s inside three =
          let faces : held_faces m cells ≡ sides (parts_of m cells) = sym (ap (λ b. if b then held_faces m cells else chart_stratum m cells 1) (eq-eqb m.dim 3 three)) in
          ap (λ l. record { poly = c.1.poly; covers = l }) (cone-solid three (cell_sight c.0 c.1) (s.dim ∙ three) inside ∙ ap (λ ss. cone_from before_faces ss c.1.poly c.1.vertices) faces)

  edges-covered : AllByRecursion (λ s. cover s ≡ edge_part (parts_of m cells) s) (chart_stratum m cells 1)
  edges-covered = all_both (IsEdgeSight (length m.at)) (λ s. in_some (point_of s) cells ≡ true) (λ s. cover s ≡ edge_part (parts_of m cells) s)
      (λ s h here. let c = cone-edge s h here in λ i. record { poly = h.poly i; covers = c i }) (chart_stratum m cells 1) (edges-sound m sound cells are) (stratum-inside m sound cells are 1)

  faces-covered : first_twist (held_faces m cells) (face_sights cells) ≡ None → AllByRecursion (λ s. cover s ≡ face_part (parts_of m cells) s) (held_faces m cells)
  faces-covered none = ⊎_elim flat solid sound.dim
    where
      flat : m.dim ≡ 2 → AllByRecursion (λ s. cover s ≡ face_part (parts_of m cells) s) (held_faces m cells)
      flat two = subst (AllByRecursion (λ s. cover s ≡ face_part (parts_of m cells) s)) (sym (flat-faces m cells two)) tt

      solid : m.dim ≡ 3 → AllByRecursion (λ s. cover s ≡ face_part (parts_of m cells) s) (held_faces m cells)
      solid three = subst (AllByRecursion (λ s. cover s ≡ face_part (parts_of m cells) s)) (sym (solid-faces m cells three))
          (all_both (OfDim 2) Inside (λ s. cover s ≡ face_part (parts_of m cells) s) (λ s two inside. ap (λ l. record { poly = s.poly; covers = l }) (cone-polygon s two inside)) (chart_stratum m cells 2)
          (stratum-of_dim m cells 2 (λ e. absurd (omega arith))) (sides-inside m sound cells are three none))

  covers-are : first_twist (held_faces m cells) (face_sights cells) ≡ None → map cover (chart m cells) ≡ (parts_diagram (parts_of m cells)).points
  covers-are none =
      ap (map cover) (chart-parts m cells sound sounds tops)
      ∙ map-append cover (whole_sights cells ++ map vertex_sight (own_vertices m cells) ++ held_faces m cells) (chart_stratum m cells 1)
      ∙ ap (λ l. l ++ map cover (chart_stratum m cells 1)) (map-append cover (whole_sights cells ++ map vertex_sight (own_vertices m cells)) (held_faces m cells))
      ∙ ap (λ l. l ++ map cover (held_faces m cells) ++ map cover (chart_stratum m cells 1)) (map-append cover (whole_sights cells) (map vertex_sight (own_vertices m cells)))
      ∙ (λ i. wholes i ++ vertices i ++ faces i ++ edges i)
    where
      wholes : map cover (whole_sights cells) ≡ map (cell_part (parts_of m cells)) cells
      wholes = map_map_same cover (λ (c : ℕ × Cell). cell_sight c.0 c.1) (cell_part (parts_of m cells)) cells cells-covered

      vertices : map cover (map vertex_sight (own_vertices m cells)) ≡ map (λ (v : ℕ). bare_cover) (own_vertices m cells)
      vertices = map_map_same cover vertex_sight (λ (v : ℕ). bare_cover) (own_vertices m cells)
          (all_from (λ v. cover (vertex_sight v) ≡ bare_cover) (λ v. ap (λ l. record { poly = Vertex; covers = l }) (cone-vertex v)) (own_vertices m cells))

      faces : map cover (held_faces m cells) ≡ map (face_part (parts_of m cells)) (held_faces m cells)
      faces = map_same cover (face_part (parts_of m cells)) (held_faces m cells) (faces-covered none)

      edges : map cover (chart_stratum m cells 1) ≡ map (edge_part (parts_of m cells)) (chart_stratum m cells 1)
      edges = map_same cover (edge_part (parts_of m cells)) (chart_stratum m cells 1) edges-covered

  -- ---- counts

  -- a count over cells, vertices, faces and edges
  count-parts : (d c v f e : ℕ) → count_in d (whole_sights cells) ≡ c → count_in d (map vertex_sight (own_vertices m cells)) ≡ v → count_in d (held_faces m cells) ≡ f → count_in d (chart_stratum m cells 1) ≡ e → count_in d (chart m cells) ≡ c + v + f + e
  count-parts d c v f e p q r s =
      ap (count_in d) (chart-parts m cells sound sounds tops)
      ∙ count-append test (whole_sights cells ++ map vertex_sight (own_vertices m cells) ++ held_faces m cells) (chart_stratum m cells 1)
      ∙ ap₂ (λ a b. a + b) (count-append test (whole_sights cells ++ map vertex_sight (own_vertices m cells)) (held_faces m cells) ∙ ap₂ (λ a b. a + b) (count-append test (whole_sights cells) (map vertex_sight (own_vertices m cells)) ∙ ap₂ (λ a b. a + b) p q) r) s
    where
      test : Sight → Bool
      test t = dim_of t.poly == d

  -- counts of a dimension that is not the mesh's
  lower-count : (d : ℕ) → m.dim ≢ d → (v f e : ℕ) → count_in d (map vertex_sight (own_vertices m cells)) ≡ v → count_in d (held_faces m cells) ≡ f → count_in d (chart_stratum m cells 1) ≡ e → count_in d (chart m cells) ≡ 0 + v + f + e
  lower-count d ne v f e q r s = count-parts d 0 v f e (count-other d m.dim (whole_sights cells) ne (wholes-of_dim m cells sound sounds tops)) q r s

  vertices-zero : AllByRecursion (OfDim 0) (map vertex_sight (own_vertices m cells))
  vertices-zero = vertices-of_dim m cells (own_vertices m cells)

  -- the dimension is not below 2
  dim-is_not : (d : ℕ) → d < 2 → m.dim ≢ d
  dim-is_not d low e = ⊎_elim (λ (f : m.dim ≡ 2). absurd (omega arith)) (λ (f : m.dim ≡ 3). absurd (omega arith)) sound.dim

  count-cells : count_in m.dim (chart m cells) ≡ length cells
  count-cells = count-parts m.dim (length cells) 0 0 0 (count-same m.dim m.dim (whole_sights cells) refl (wholes-of_dim m cells sound sounds tops) ∙ length-wholes m cells sound sounds tops)
      (count-other m.dim 0 (map vertex_sight (own_vertices m cells)) (λ e. dim-is_not 0 (omega arith) (sym e)) vertices-zero)
      (⊎_elim (λ two. ap (count_in m.dim) (flat-faces m cells two)) (λ three. count-other m.dim 2 (held_faces m cells) (λ e. absurd (omega arith)) (faces-of_dim m cells)) sound.dim)
      (count-other m.dim 1 (chart_stratum m cells 1) (λ e. dim-is_not 1 (omega arith) (sym e)) (edges-of_dim m cells)) ∙ omega arith

  count-vertices : count_in 0 (chart m cells) ≡ length (own_vertices m cells)
  count-vertices = lower-count 0 (dim-is_not 0 (omega arith)) (length (own_vertices m cells)) 0 0 (count-same 0 0 (map vertex_sight (own_vertices m cells)) refl vertices-zero ∙ length-vertices m cells sound sounds tops)
      (count-other 0 2 (held_faces m cells) (λ e. absurd (omega arith)) (faces-of_dim m cells)) (count-other 0 1 (chart_stratum m cells 1) (λ e. absurd (omega arith)) (edges-of_dim m cells)) ∙ omega arith

  count-edges : count_in 1 (chart m cells) ≡ length (chart_stratum m cells 1)
  count-edges = lower-count 1 (dim-is_not 1 (omega arith)) 0 0 (length (chart_stratum m cells 1)) (count-other 1 0 (map vertex_sight (own_vertices m cells)) (λ e. absurd (omega arith)) vertices-zero)
      (count-other 1 2 (held_faces m cells) (λ e. absurd (omega arith)) (faces-of_dim m cells)) (count-same 1 1 (chart_stratum m cells 1) refl (edges-of_dim m cells)) ∙ omega arith

  count-faces : (if m.dim == 3 then count_in 2 (chart m cells) else 0) ≡ length (held_faces m cells)
  count-faces = ⊎_elim
      (λ two. ap (λ b. if b then count_in 2 (chart m cells) else 0) (ne_eqb m.dim 3 (λ e. absurd (omega arith))) ∙ sym (ap length (flat-faces m cells two)))
      (λ three. ap (λ b. if b then count_in 2 (chart m cells) else 0) (eq-eqb m.dim 3 three)
      ∙ lower-count 2 (λ e. absurd (omega arith)) 0 (length (held_faces m cells)) 0 (count-other 2 0 (map vertex_sight (own_vertices m cells)) (λ e. absurd (omega arith)) vertices-zero)
      (count-same 2 2 (held_faces m cells) refl (faces-of_dim m cells)) (count-other 2 1 (chart_stratum m cells 1) (λ e. absurd (omega arith)) (edges-of_dim m cells)) ∙ omega arith)
      sound.dim

  -- the diagram
  pub diagram-by_places : first_twist (held_faces m cells) (face_sights cells) ≡ None → diagram m cells ≡ parts_diagram (parts_of m cells)
  unfolding diagram
  diagram-by_places none = λ i. record { dim = m.dim; cells = count-cells i; vertices = count-vertices i; faces = count-faces i; edges = count-edges i; points = covers-are none i }
