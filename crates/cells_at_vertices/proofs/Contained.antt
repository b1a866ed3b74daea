-- What a rank counts by closures is how many of its cells contain each of its points, and over all ranks it is how many of the mesh's.
use Rattle.std.proofs.Common.{◌≡◌, ℕ, ◌+◌, ◌<◌, ◌≤◌, Bool, false, cond, ◌==◌, List, [], ◌∷◌, ◌++◌, map, length, get_or, sum_by, pos, refl, sym, ap, ap₂, ◌∙◌, length-append, arith}
use Rattle.std.specs.Prelude.{count_by}
use Rattle.std.specs.List.{list_any, enumerate_from}
use Rattle.std.proofs.lemmas.Bool.Decides.{nat_tests}
use Rattle.std.proofs.lemmas.List.{length-map, get_or-map, get_or_append_left, get_or-append-add}
use Rattle.std.proofs.lemmas.List.Elements.{Contains-get_or}
use Rattle.std.proofs.lemmas.List.FromFn.{length-enumerate_from}
use Rattle.std.proofs.lemmas.List.Sums.{count_by-le-length, length-filter}
use Rattle.plain_lists.specs.Lists.{below}
use Rattle.plain_lists.proofs.Below.{map-below-length}
use Rattle.plain_lists.proofs.Each.{all_from, all_weaker}
use Rattle.plain_lists.proofs.Filters.{count_nothing, filter_agree}
use Rattle.plain_lists.proofs.Finding.{each_fails}
use Rattle.mesh_defs.specs.declared.Poly.TheVariants.{Vertex}
use Rattle.mesh_defs.specs.Tables.{dim_of}
use Rattle.mesh_defs.specs.Mesh.{Mesh, Cell, placed_cells}
use Rattle.mesh_defs.specs.Points.{Point, Sight, point_of, point_on, cell_sight, vertex_sight, contains}
use Rattle.mesh_defs.specs.Diagram.{Diagram, chart, place_in, cone, diagram, IsAccepted}
use Rattle.mesh_defs.specs.RightMesh.{IsRightMesh, AreCells, in_some}
use Rattle.rank_laws.specs.diagram_laws.Strata.{whole_sights}
use Rattle.plex_defs.specs.Closure.{covers, arrangements, point_in}
use Rattle.plex_chart.specs.Chart.{IsInStratum, HasStrata, IsPlex}
use Rattle.walk_defs.specs.Cones.{closure_by_cones, reaches}
use Rattle.headline_laws.proofs.walk_laws.Closures.{plex-cones}
use Rattle.headline_laws.proofs.walk_laws.Stars.{closure-reaches}
use Rattle.rank_defs.specs.Ranks.{IsAssignment, assigned, held_cells, rank_of}
use Rattle.rank_laws.proofs.Arranging.{arranged-cells}
use Rattle.rank_laws.proofs.ChartsClosed.{held-cells}
use Rattle.rank_laws.proofs.Owning.{ranks-below}
use Rattle.rank_laws.specs.cell_laws.Cells.{once}
use Rattle.rank_laws.proofs.cell_laws.Once.{count-cons, count-map, count_agree}
use Rattle.rank_laws.proofs.reach_laws.Charts.{chart-differs, own-place}
use Rattle.rank_laws.proofs.reach_laws.Cells.{cell-reaches}
use Rattle.rank_laws.specs.orient_laws.Named.{chart_stratum}
use Rattle.rank_laws.specs.keyed_laws.Keyed.{keyed_point, keyed_stratum, keyed_chart, diagram_of_keyed}
use Rattle.rank_laws.proofs.keyed_laws.Views.{diagram-told}
use Rattle.rank_laws.proofs.share_laws.Own.{sound-cells}
use Rattle.rank_chart_laws.specs.OwnRanks.{own_vertices}
use Rattle.rank_chart_laws.specs.rank_diagram_laws.Parts.{held_faces}
use Rattle.rank_chart_laws.proofs.rank_diagram_laws.Charted.{chart-parts, assigned-tops, stratum-vertices}
use Rattle.headline_laws.specs.seed_laws.Given.{has_vertex, vertices_of, vertex_point}
use Rattle.headline_laws.proofs.seed_laws.Vertices.{contains-vertex, in_some-vertex, placed-high, cells-high}
use Rattle.rank_chart_laws.proofs.field_laws.Sums.{sum-classes}
use Rattle.cells_at_vertices.specs.Counts.{cells_at}
use Rattle.cells_at_vertices.specs.Own.{closures_with, closure_counts}

-- how many of some cells contain a point
abbrev pub cells_in : List (ℕ × Cell) → Point → ℕ
cells_in cells p = count_by (λ (c : ℕ × Cell). contains c.1 p) cells

-- a count over the numbers below a length
count-below : {X : Type 0} (f : ℕ → Bool) (g : X → Bool) (xs : List X) (d : X) → ((k : ℕ) → k < length xs → f k ≡ g (get_or xs k d)) → count_by f (below (length xs)) ≡ count_by g xs
count-below f g xs d h = sym (count-map (λ b. b) f (below (length xs))) ∙ ap (count_by (λ b. b)) (map-below-length f g xs d h) ∙ count-map (λ b. b) g xs

-- past the last cell there is none, and this one has no vertices
abbrev no_cell : ℕ × Cell
no_cell = (0, record { poly = Vertex; vertices = [] })

-- past the last point there is none
abbrev pub no_point : Sight
no_point = vertex_sight 0

module _ (m : Mesh) (a : List ℕ) (r : ℕ) (right : IsRightMesh m) where
  abbrev cells : List (ℕ × Cell)
  cells = assigned m a r

  abbrev points : List Sight
  points = chart m (assigned m a r)

  abbrev x : Diagram
  x = diagram m (assigned m a r)

  abbrev vertices : List ℕ
  vertices = own_vertices m (assigned m a r)

  are : AreCells m (assigned m a r)
  unfolding held_cells
  are = held-cells m a r 0

  -- ---- the order of the points

  tops : chart_stratum m (assigned m a r) m.dim ≡ whole_sights (assigned m a r)
  tops = assigned-tops m right.sound right.differ a r

  -- cells as they see themselves, vertices, and what follows
  ordered : points ≡ whole_sights cells ++ map vertex_sight vertices ++ held_faces m cells ++ chart_stratum m cells 1
  ordered = chart-parts m cells right.sound (sound-cells m right.sound cells are) tops

  wholes-many : length (whole_sights cells) ≡ length cells
  wholes-many = length-map cells (λ (c : ℕ × Cell). cell_sight c.0 c.1)

  -- what stands at one of the first places stands there among cells and vertices
  place-before : (i : ℕ) → i < length (whole_sights cells ++ map vertex_sight vertices) → get_or points i no_point ≡ get_or (whole_sights cells ++ map vertex_sight vertices) i no_point
  place-before i low =
      ap (λ l. get_or l i no_point) ordered
      ∙ get_or_append_left (whole_sights cells ++ map vertex_sight vertices ++ held_faces m cells) (chart_stratum m cells 1) no_point i (omega (arith, low, length-append (whole_sights cells ++ map vertex_sight vertices) (held_faces m cells)))
      ∙ get_or_append_left (whole_sights cells ++ map vertex_sight vertices) (held_faces m cells) no_point i low

  first-many : length (whole_sights cells ++ map vertex_sight vertices) ≡ length cells + length vertices
  first-many = length-append (whole_sights cells) (map vertex_sight vertices) ∙ ap₂ (λ i j. i + j) wholes-many (length-map vertices vertex_sight)

  pub first-low : length cells + length vertices ≤ length points
  first-low = omega (
    arith,
    first-many,
    ap length ordered,
    length-append (whole_sights cells ++ map vertex_sight vertices ++ held_faces m cells) (chart_stratum m cells 1),
    length-append (whole_sights cells ++ map vertex_sight vertices) (held_faces m cells),
  )

  -- a cell stands at its place
  cell-stands : (i : ℕ) → i < length cells → get_or points i no_point ≡ cell_sight (get_or cells i no_cell).0 (get_or cells i no_cell).1
  cell-stands i low =
      place-before i (omega (arith, low, first-many))
      ∙ get_or_append_left (whole_sights cells) (map vertex_sight vertices) no_point i (omega (arith, low, wholes-many))
      ∙ get_or-map (λ (c : ℕ × Cell). cell_sight c.0 c.1) cells i no_cell no_point low

  -- a vertex stands behind the cells
  pub vertex-stands : (i : ℕ) → i < length vertices → get_or points (length cells + i) no_point ≡ vertex_sight (get_or vertices i 0)
  vertex-stands i low =
      place-before (length cells + i) (omega (arith, low, first-many))
      ∙ ap (λ k. get_or (whole_sights cells ++ map vertex_sight vertices) (k + i) no_point) (sym wholes-many)
      ∙ get_or-append-add (whole_sights cells) (map vertex_sight vertices) i no_point
      ∙ get_or-map vertex_sight vertices i 0 no_point low

  cell-place : (i : ℕ) → i < length cells → place_in points (point_on (get_or cells i no_cell).1.poly (get_or cells i no_cell).1.vertices) ≡ i
  cell-place i low =
      ap (λ s. place_in points (point_of s)) (sym (cell-stands i low))
      ∙ own-place points (chart-differs m cells right.sound.dim) i no_point (omega (arith, low, first-low))

  pub points-many : length x.points ≡ length points
  unfolding diagram
  points-many = length-map points (λ (s : Sight). record { poly = s.poly; covers = cone m (place_in points) s })

  dim-is : x.dim ≡ m.dim
  unfolding diagram
  dim-is = refl

  -- ---- of an accepted mesh

  module _ (accepted : IsAccepted m) where
    told : diagram_of_keyed (keyed_chart m cells) ≡ x
    told = diagram-told m cells right.sound accepted right.differ are

    pub cells-many : x.cells ≡ length cells
    unfolding diagram_of_keyed keyed_chart keyed_stratum
    cells-many = sym (ap (λ (g : Diagram). g.cells) told) ∙ (length-map (chart_stratum m cells m.dim) (keyed_point m) ∙ ap length tops ∙ wholes-many)

    pub vertices-many : x.vertices ≡ length vertices
    unfolding diagram_of_keyed keyed_chart keyed_stratum
    vertices-many = sym (ap (λ (g : Diagram). g.vertices) told) ∙ (length-map (chart_stratum m cells 0) (keyed_point m) ∙ ap length (stratum-vertices m cells) ∙ length-map vertices vertex_sight)

    module _ (plex : IsPlex (diagram m (assigned m a r))) where
      -- no point has more dimensions than the diagram
      dim-low : (i : ℕ) → i < length x.points → dim_of (point_in x i).poly ≤ x.dim
      dim-low i low = go (dim_of (point_in x i).poly) plex.chart.strata (plex.chart.points i low).place
        where
          go : (dim : ℕ) → HasStrata x → IsInStratum x dim i → dim ≤ x.dim
          go dim strata stands = grind (arith, nat_tests, stands.from, stands.to, strata.polygons)

      -- the closure of a cell has the points that the cell contains
      closure-contains : (i p : ℕ) → i < length cells → p < length points → covers (closure_by_cones x i (pos 0)) p ≡ contains (get_or cells i no_cell).1 (point_of (get_or points p no_point))
      closure-contains i p low inside =
          let there : i < length x.points = omega (arith, low, first-low, points-many) in
          closure-reaches x (arrangements points) p i (plex-cones x plex) (arranged-cells m cells right.sound accepted right.differ are) there (dim-low i there)
          ∙ ap₂ (λ d k. reaches x d p k) dim-is (sym (cell-place i low))
          ∙ cell-reaches m cells right.sound accepted right.differ are (get_or cells i no_cell) (Contains-get_or cells i no_cell low) p inside

      pub counts-contained : closure_counts x ≡ map (λ s. cells_in cells (point_of s)) points
      counts-contained =
          ap (λ n. map (closures_with x x.cells) (below n)) points-many
          ∙ map-below-length (closures_with x x.cells) (λ s. cells_in cells (point_of s)) points no_point
          (λ p inside. ap (λ n. closures_with x n p) cells-many ∙ count-below (λ i. covers (closure_by_cones x i (pos 0)) p) (λ (c : ℕ × Cell). contains c.1 (point_of (get_or points p no_point))) cells no_cell (λ i low. closure-contains i p low inside))

-- ---- all ranks

-- the cells of all ranks that contain a point are those of the mesh that contain it
pub cells-of_ranks : (m : Mesh) (n : ℕ) (a : List ℕ) (p : Point) → IsAssignment m n a → sum_by (λ r. cells_in (assigned m a r) p) (below n) ≡ cells_in (placed_cells m) p
unfolding assigned
cells-of_ranks m n a p parts = sym (sum-classes (rank_of a) (λ (c : ℕ × Cell). cond (contains c.1 p) 1 0) n (placed_cells m) (ranks-below m n a parts))

-- cells that do not contain a point
pub cells-none : (cells : List (ℕ × Cell)) (p : Point) → in_some p cells ≡ false → cells_in cells p ≡ 0
cells-none cells p h = count_nothing (λ (c : ℕ × Cell). contains c.1 p) cells (each_fails (λ (c : ℕ × Cell). contains c.1 p) cells h)

-- a rank has no more cells than the mesh
pub cells-few : (m : Mesh) (a : List ℕ) (r : ℕ) (p : Point) → length m.cells ≤ 250000 → cells_in (assigned m a r) p ≤ 250000
unfolding assigned
cells-few m a r p few = omega (
  arith,
  few,
  count_by-le-length (λ (c : ℕ × Cell). contains c.1 p) (assigned m a r),
  length-filter (λ c. rank_of a c == r) (placed_cells m),
  count_by-le-length (λ c. rank_of a c == r) (placed_cells m),
  length-enumerate_from 0 m.cells,
)

-- the cells of the mesh that contain a vertex have it among their corners
pub cells-vertex : (m : Mesh) (v : ℕ) → IsRightMesh m → cells_in (placed_cells m) (point_of (vertex_sight v)) ≡ cells_at m v
cells-vertex m v right =
    count_agree (λ (c : ℕ × Cell). contains c.1 (point_of (vertex_sight v))) (λ (c : ℕ × Cell). list_any (λ w. w == v) c.1.vertices) (placed_cells m)
    (all_weaker (λ (c : ℕ × Cell). 2 ≤ dim_of c.1.poly) (λ (c : ℕ × Cell). contains c.1 (point_of (vertex_sight v)) ≡ list_any (λ w. w == v) c.1.vertices) (λ c high. contains-vertex v c.1 high) (placed_cells m) (placed-high m right))
    ∙ count-enumerated (λ (cell : Cell). list_any (λ w. w == v) cell.vertices) 0 m.cells
  where
    count-enumerated : {X : Type 0} (q : X → Bool) (n : ℕ) (xs : List X) → count_by (λ (c : ℕ × X). q c.1) (enumerate_from n xs) ≡ count_by q xs
    count-enumerated q n [] = refl
    count-enumerated {X} q n (y ∷ ys) = count-cons (λ (c : ℕ × X). q c.1) (n, y) (enumerate_from (n + 1) ys) ∙ (ap (λ k. once (q y) + k) (count-enumerated q (n + 1) ys) ∙ sym (count-cons q y ys))

-- the vertices that a rank's cells contain are those that some of them has
pub vertices-had : (m : Mesh) (a : List ℕ) (r : ℕ) → IsRightMesh m → own_vertices m (assigned m a r) ≡ vertices_of (length m.at) (assigned m a r)
unfolding vertices_of held_cells
vertices-had m a r right =
    filter_agree (λ v. in_some (vertex_point v) (assigned m a r)) (has_vertex (assigned m a r)) (below (length m.at))
    (all_from (λ v. in_some (vertex_point v) (assigned m a r) ≡ has_vertex (assigned m a r) v) (λ v. in_some-vertex (assigned m a r) v (cells-high m right (assigned m a r) (held-cells m a r 0))) (below (length m.at)))
