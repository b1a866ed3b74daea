-- The diagram of a whole mesh, by the places of first sights.
use Rattle.std.proofs.Common.{◌≡◌, ◌≢◌, ℕ, zero, suc, ◌+◌, ◌*◌, ◌<◌, Bool, true, false, ◌==◌, List, [], ◌∷◌, ◌++◌, map, length, refl, sym, ap, ap₂, ◌∙◌, inl, inr, arith}
use Rattle.std.specs.Prelude.{if◌then◌else◌}
use Rattle.std.specs.List.{AllByRecursion, enumerate_from, range_with_len}
use Rattle.std.proofs.lemmas.Bool.{eq-eqb, ne_eqb}
use Rattle.std.proofs.lemmas.List.{map-append, map_push, map-id}
use Rattle.std.proofs.lemmas.List.FromFn.{map-range_with_len_more}
use Rattle.mesh_defs.specs.declared.Poly.TheVariants.{Vertex}
use Rattle.plain_lists.specs.Lists.{below}
use Rattle.plain_lists.proofs.Each.{all_weaker, all_both, all_from, all_enumerated}
use Rattle.plain_lists.proofs.Filters.{map_same, map_map_same, count_whole, count_nothing, count-append}
use Rattle.mesh_defs.specs.Tables.{dim_of}
use Rattle.mesh_defs.specs.Mesh.{Mesh, Cell, placed_cells}
use Rattle.mesh_defs.specs.Points.{Sight, point_of, shows, cell_sight, cell_faces, vertex_sight, vertex_sights}
use Rattle.mesh_defs.specs.Diagram.{firsts, chart, place_in, cone, count_in, Covering, diagram}
use Rattle.mesh_defs.specs.Sights.{IsEdgeSight}
use Rattle.mesh_defs.specs.RightMesh.{IsFlatOrSolid, IsSoundMesh, CellsDiffer}
use Rattle.std.specs.List.{list_any}
use Rattle.rank_laws.specs.diagram_laws.Strata.{whole_sights, mesh_faces, mesh_edges, cone_from, cell_cover, bare_cover, face_cover, edge_cover, mesh_diagram, mesh_keys}
use Rattle.rank_laws.proofs.diagram_laws.Parts.{faces-none, cell-dims, chart-parts}
use Rattle.rank_laws.proofs.diagram_laws.Edges.{OfDim, vertices-of_dim, wholes-of_dim, faces-of_dim, edges-of_dim, edges-are}
use Rattle.rank_laws.proofs.diagram_laws.Cones.{length-wholes, length-vertices, cone-polygon, cone-edge, cone-vertex}
use Rattle.rank_laws.proofs.diagram_laws.Twists.{facets-from, cell_faces-shown, cone-solid}

-- ---- counts

-- points of one dimension are counted under it, and under no other
count-same : (d e : ℕ) (ss : List Sight) → e ≡ d → AllByRecursion (OfDim e) ss → count_in d ss ≡ length ss
count-same d e ss same h = count_whole (λ s. dim_of s.poly == d) ss (all_weaker (OfDim e) (λ s. (dim_of s.poly == d) ≡ true) (λ s k. eq-eqb (dim_of s.poly) d (k ∙ same)) ss h)

count-other : (d e : ℕ) (ss : List Sight) → e ≢ d → AllByRecursion (OfDim e) ss → count_in d ss ≡ 0
count-other d e ss ne h = count_nothing (λ s. dim_of s.poly == d) ss (all_weaker (OfDim e) (λ s. (dim_of s.poly == d) ≡ false) (λ s k. ne_eqb (dim_of s.poly) d (λ f. ne (sym k ∙ f))) ss h)

-- ---- keys

-- images of numbers, from the last or from the first on
images-below : (f : ℕ → ℕ) (n : ℕ) → map f (below n) ≡ map f (range_with_len 0 n)
images-below f zero = refl
images-below f (suc n) =
    let step : n + 1 ≡ suc n = omega arith in
    map_push f (below n) n ∙ ap (λ l. l ++ f n ∷ []) (images-below f n)
    ∙ sym (map-range_with_len_more f 0 n n (omega arith)) ∙ ap (λ k. map f (range_with_len 0 k)) step

-- the keys of cells in their places
keys-enumerated : (n : ℕ) (cells : List Cell) → map (λ (c : ℕ × Cell). 64 * c.0) (enumerate_from n cells) ≡ map (λ k. 64 * k) (range_with_len n (length cells))
keys-enumerated n [] = refl
keys-enumerated n (cell ∷ cells) = ap (λ l. (64 * n) ∷ l) (keys-enumerated (n + 1) cells)

module _ (m : Mesh) (sound : IsSoundMesh m) (differ : CellsDiffer m) where
  -- the keys in the order of the chart
  pub keys-are : map (λ (s : Sight). s.key) (chart m (placed_cells m)) ≡ mesh_keys m
  keys-are =
      ap (map key) (chart-parts m sound differ)
      ∙ map-append key (whole_sights (placed_cells m) ++ vertex_sights m ++ mesh_faces m) (mesh_edges m)
      ∙ ap (λ l. l ++ map key (mesh_edges m)) (map-append key (whole_sights (placed_cells m) ++ vertex_sights m) (mesh_faces m))
      ∙ ap (λ l. l ++ map key (mesh_faces m) ++ map key (mesh_edges m)) (map-append key (whole_sights (placed_cells m)) (vertex_sights m))
      ∙ (λ i. cells i ++ ends i ++ map key (mesh_faces m) ++ map key (mesh_edges m))
    where
      key : Sight → ℕ
      key s = s.key

      cells : map (λ (s : Sight). s.key) (whole_sights (placed_cells m)) ≡ map (λ c. 64 * c) (below (length m.cells))
      cells =
          map_map_same (λ (s : Sight). s.key) (λ (c : ℕ × Cell). cell_sight c.0 c.1) (λ (c : ℕ × Cell). 64 * c.0) (placed_cells m) (all_from (λ (c : ℕ × Cell). (cell_sight c.0 c.1).key ≡ 64 * c.0) (λ c. refl) (placed_cells m))
          ∙ keys-enumerated 0 m.cells ∙ sym (images-below (λ c. 64 * c) (length m.cells))

      ends : map (λ (s : Sight). s.key) (vertex_sights m) ≡ below (length m.at)
      ends =
          map_map_same (λ (s : Sight). s.key) vertex_sight (λ v. v) (below (length m.at)) (all_from (λ v. (vertex_sight v).key ≡ v) (λ v. refl) (below (length m.at)))
          ∙ map-id (below (length m.at))

  -- ---- counts of the strata

  -- a count over cells, vertices, faces and edges
  count-parts : (d c v f e : ℕ) → count_in d (whole_sights (placed_cells m)) ≡ c → count_in d (vertex_sights m) ≡ v → count_in d (mesh_faces m) ≡ f → count_in d (mesh_edges m) ≡ e → count_in d (chart m (placed_cells m)) ≡ c + v + f + e
  count-parts d c v f e p q r s =
      ap (count_in d) (chart-parts m sound differ)
      ∙ count-append test (whole_sights (placed_cells m) ++ vertex_sights m ++ mesh_faces m) (mesh_edges m)
      ∙ ap₂ (λ a b. a + b) (count-append test (whole_sights (placed_cells m) ++ vertex_sights m) (mesh_faces m) ∙ ap₂ (λ a b. a + b) (count-append test (whole_sights (placed_cells m)) (vertex_sights m) ∙ ap₂ (λ a b. a + b) p q) r) s
    where
      test : Sight → Bool
      test t = dim_of t.poly == d

  -- points of the mesh's dimension are the cells
  count-cells : count_in m.dim (chart m (placed_cells m)) ≡ length m.cells
  count-cells = go sound.dim
    where
      cells : count_in m.dim (whole_sights (placed_cells m)) ≡ length m.cells
      cells = count-same m.dim m.dim (whole_sights (placed_cells m)) refl (wholes-of_dim m sound) ∙ length-wholes m sound differ

      go : IsFlatOrSolid m → count_in m.dim (chart m (placed_cells m)) ≡ length m.cells
      go (inl flat) = count-parts m.dim (length m.cells) 0 0 0 cells (count-other m.dim 0 (vertex_sights m) (λ e. absurd (omega arith)) (vertices-of_dim (length m.at)))
          (ap (λ ss. count_in m.dim (firsts ss)) (faces-none m sound.dim (cell-dims m sound) flat)) (count-other m.dim 1 (mesh_edges m) (λ e. absurd (omega arith)) (edges-of_dim m sound)) ∙ omega arith
      go (inr solid) = count-parts m.dim (length m.cells) 0 0 0 cells (count-other m.dim 0 (vertex_sights m) (λ e. absurd (omega arith)) (vertices-of_dim (length m.at)))
          (count-other m.dim 2 (mesh_faces m) (λ e. absurd (omega arith)) (faces-of_dim m sound)) (count-other m.dim 1 (mesh_edges m) (λ e. absurd (omega arith)) (edges-of_dim m sound)) ∙ omega arith

  -- cells are counted under no lower dimension
  no-cells : (d : ℕ) → m.dim ≢ d → count_in d (whole_sights (placed_cells m)) ≡ 0
  no-cells d ne = count-other d m.dim (whole_sights (placed_cells m)) ne (wholes-of_dim m sound)

  -- the dimension is not below 2
  dim-is_not : (d : ℕ) → d < 2 → m.dim ≢ d
  dim-is_not d low e = go sound.dim
    where
      go : IsFlatOrSolid m → ⊥
      go (inl flat) = omega arith
      go (inr solid) = omega arith

  -- points of dimension 0 are the vertices
  count-vertices : count_in 0 (chart m (placed_cells m)) ≡ length m.at
  count-vertices = count-parts 0 0 (length m.at) 0 0 (no-cells 0 (dim-is_not 0 (omega arith))) (count-same 0 0 (vertex_sights m) refl (vertices-of_dim (length m.at)) ∙ length-vertices m sound differ)
      (count-other 0 2 (mesh_faces m) (λ e. absurd (omega arith)) (faces-of_dim m sound)) (count-other 0 1 (mesh_edges m) (λ e. absurd (omega arith)) (edges-of_dim m sound)) ∙ omega arith

  -- points of dimension 1 are the edges
  count-edges : count_in 1 (chart m (placed_cells m)) ≡ length (mesh_edges m)
  count-edges = count-parts 1 0 0 0 (length (mesh_edges m)) (no-cells 1 (dim-is_not 1 (omega arith))) (count-other 1 0 (vertex_sights m) (λ e. absurd (omega arith)) (vertices-of_dim (length m.at)))
      (count-other 1 2 (mesh_faces m) (λ e. absurd (omega arith)) (faces-of_dim m sound)) (count-same 1 1 (mesh_edges m) refl (edges-of_dim m sound)) ∙ omega arith

  -- points of dimension 2 of a solid mesh are the faces
  count-faces : (if m.dim == 3 then count_in 2 (chart m (placed_cells m)) else 0) ≡ length (mesh_faces m)
  count-faces = go sound.dim
    where
      go : IsFlatOrSolid m → (if m.dim == 3 then count_in 2 (chart m (placed_cells m)) else 0) ≡ length (mesh_faces m)
      go (inl flat) = ap (λ b. if b then count_in 2 (chart m (placed_cells m)) else 0) (ne_eqb m.dim 3 (λ e. absurd (omega arith))) ∙ sym (ap (λ ss. length (firsts ss)) (faces-none m sound.dim (cell-dims m sound) flat))
      go (inr solid) = ap (λ b. if b then count_in 2 (chart m (placed_cells m)) else 0) (eq-eqb m.dim 3 solid)
          ∙ count-parts 2 0 0 (length (mesh_faces m)) 0 (no-cells 2 (λ e. absurd (omega arith))) (count-other 2 0 (vertex_sights m) (λ e. absurd (omega arith)) (vertices-of_dim (length m.at)))
          (count-same 2 2 (mesh_faces m) refl (faces-of_dim m sound)) (count-other 2 1 (mesh_edges m) (λ e. absurd (omega arith)) (edges-of_dim m sound)) ∙ omega arith

  -- ---- points with their cones

  -- a point with its cone
  abbrev cover_of : Sight → Covering
  cover_of s = record { poly = s.poly; covers = cone m (place_in (chart m (placed_cells m))) s }

  -- the cells
  cells-covered : AllByRecursion (λ (c : ℕ × Cell). cover_of (cell_sight c.0 c.1) ≡ cell_cover m c) (placed_cells m)
  cells-covered = go sound.dim
    where
      placed-are : AllByRecursion (λ (c : ℕ × Cell). dim_of c.1.poly ≡ m.dim) (placed_cells m)
      placed-are = all_enumerated (λ (cell : Cell). dim_of cell.poly ≡ m.dim) 0 m.cells (cell-dims m sound)

      go : IsFlatOrSolid m → AllByRecursion (λ (c : ℕ × Cell). cover_of (cell_sight c.0 c.1) ≡ cell_cover m c) (placed_cells m)
      go (inl flat) = all_weaker (λ (c : ℕ × Cell). dim_of c.1.poly ≡ m.dim) (λ (c : ℕ × Cell). cover_of (cell_sight c.0 c.1) ≡ cell_cover m c)
          (λ c h.
          let base : length m.cells + length m.at + length (mesh_faces m) ≡ length m.cells + length m.at = omega (arith, ap (λ ss. length (firsts ss)) (faces-none m sound.dim (cell-dims m sound) flat)) in
          let edges : mesh_edges m ≡ (if m.dim == 3 then mesh_faces m else mesh_edges m) = sym (ap (λ b. if b then mesh_faces m else mesh_edges m) (ne_eqb m.dim 3 (λ e. absurd (omega arith)))) in
          ap (λ l. record { poly = c.1.poly; covers = l }) (cone-polygon m sound differ (cell_sight c.0 c.1) (h ∙ flat) ∙ (λ i. cone_from (base i) (edges i) c.1.poly c.1.vertices)))
          (placed_cells m) placed-are
      go (inr solid) = all_both (λ (c : ℕ × Cell). dim_of c.1.poly ≡ m.dim) (λ (c : ℕ × Cell). AllByRecursion (λ s. list_any (shows (point_of s)) (mesh_faces m) ≡ true) (cell_faces c.0 c.1)) (λ (c : ℕ × Cell). cover_of (cell_sight c.0 c.1) ≡ cell_cover m c)
          (λ c h k.
          let faces : mesh_faces m ≡ (if m.dim == 3 then mesh_faces m else mesh_edges m) = sym (ap (λ b. if b then mesh_faces m else mesh_edges m) (eq-eqb m.dim 3 solid)) in
          ap (λ l. record { poly = c.1.poly; covers = l }) (cone-solid m sound differ solid (cell_sight c.0 c.1) (h ∙ solid) (facets-from (mesh_faces m) c.0 c.1 (h ∙ solid) k) ∙ ap (λ ss. cone_from (length m.cells + length m.at) ss c.1.poly c.1.vertices) faces))
          (placed_cells m) placed-are (cell_faces-shown m sound differ)

  -- all points
  covers-are : map cover_of (chart m (placed_cells m)) ≡ (mesh_diagram m).points
  covers-are =
      ap (map cover_of) (chart-parts m sound differ)
      ∙ map-append cover_of (whole_sights (placed_cells m) ++ vertex_sights m ++ mesh_faces m) (mesh_edges m)
      ∙ ap (λ l. l ++ map cover_of (mesh_edges m)) (map-append cover_of (whole_sights (placed_cells m) ++ vertex_sights m) (mesh_faces m))
      ∙ ap (λ l. l ++ map cover_of (mesh_faces m) ++ map cover_of (mesh_edges m)) (map-append cover_of (whole_sights (placed_cells m)) (vertex_sights m))
      ∙ (λ i. cells i ++ vertices i ++ faces i ++ edges i)
    where
      cells : map cover_of (whole_sights (placed_cells m)) ≡ map (cell_cover m) (placed_cells m)
      cells = map_map_same cover_of (λ (c : ℕ × Cell). cell_sight c.0 c.1) (cell_cover m) (placed_cells m) cells-covered

      vertices : map cover_of (vertex_sights m) ≡ map (λ (v : ℕ). bare_cover) (below (length m.at))
      vertices = map_map_same cover_of vertex_sight (λ (v : ℕ). bare_cover) (below (length m.at))
          (all_from (λ v. cover_of (vertex_sight v) ≡ bare_cover) (λ v. ap (λ l. record { poly = Vertex; covers = l }) (cone-vertex m sound differ v)) (below (length m.at)))

      faces : map cover_of (mesh_faces m) ≡ map (face_cover m) (mesh_faces m)
      faces = map_same cover_of (face_cover m) (mesh_faces m)
          (all_weaker (OfDim 2) (λ s. cover_of s ≡ face_cover m s) (λ s h. ap (λ l. record { poly = s.poly; covers = l }) (cone-polygon m sound differ s h)) (mesh_faces m) (faces-of_dim m sound))

      edges : map cover_of (mesh_edges m) ≡ map (edge_cover (length m.cells)) (mesh_edges m)
      edges = map_same cover_of (edge_cover (length m.cells)) (mesh_edges m)
          (all_weaker (IsEdgeSight (length m.at)) (λ s. cover_of s ≡ edge_cover (length m.cells) s) (λ s h. let c = cone-edge m sound differ s h in λ i. record { poly = h.poly i; covers = c i }) (mesh_edges m) (edges-are m sound))

  -- the diagram
  pub diagram-is : diagram m (placed_cells m) ≡ mesh_diagram m
  unfolding diagram
  diagram-is = λ i. record { dim = m.dim; cells = count-cells i; vertices = count-vertices i; faces = count-faces i; edges = count-edges i; points = covers-are i }
