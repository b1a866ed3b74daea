-- The vertices that cells have are those in their chart.
use Rattle.std.proofs.Common.{◌≡◌, ◌≢◌, ℕ, ◌-◌, ◌<◌, ◌≤◌, Bool, true, false, ◌||◌, ◌==◌, List, [], ◌∷◌, ◌++◌, map, length, refl, sym, ap, ap₂, ◌∙◌, ⊎_elim, arith}
use Rattle.std.specs.Prelude.{Contains}
use Rattle.std.specs.List.{list_any, AllByRecursion, filter, enumerate_from}
use Rattle.std.proofs.lemmas.Bool.{and_left, ne_eqb, eq-eqb}
use Rattle.std.proofs.lemmas.List.Folds.{list_any-append}
use Rattle.std.proofs.lemmas.List.Elements.{filter-append}
use Rattle.plain_lists.specs.Lists.{below, same_list}
use Rattle.plain_lists.proofs.Each.{all_weaker, all_from, all_enumerated, all_contained}
use Rattle.plain_lists.proofs.Filters.{filter_none, filter_whole, filter_agree, filter-swap, filter-mapped}
use Rattle.plain_lists.proofs.Finding.{none_passes, any_map, any_same, any_agree, any_enumerated, any_weaker}
use Rattle.mesh_defs.specs.Tables.{Facet, dim_of, facets_of, edges_of}
use Rattle.mesh_defs.specs.Mesh.{Mesh, Cell, placed_cells}
use Rattle.mesh_defs.specs.Points.{Point, Sight, point_of, shows, sights_of, vertex_sight, vertex_sights, contains, cell_edge}
use Rattle.mesh_defs.specs.Diagram.{strata, chart}
use Rattle.mesh_defs.specs.RightMesh.{IsRightMesh, AreCells, in_some}
use Rattle.mesh_laws.proofs.Containing.{all_sights_of, shows-vertex, eqb-sym, vertex-contained}
use Rattle.rank_laws.specs.diagram_laws.Strata.{whole_sights, mesh_faces, mesh_edges}
use Rattle.rank_laws.proofs.diagram_laws.Parts.{strata-parts, cell-dims}
use Rattle.rank_laws.proofs.diagram_laws.Edges.{OfDim, vertices-of_dim, wholes-of_dim, faces-of_dim, edges-of_dim}
use Rattle.rank_laws.proofs.diagram_laws.Cones.{facets-lower}
use Rattle.headline_laws.specs.seed_laws.Given.{has_vertex, vertices_of, vertex_point}

-- ---- vertices in cells

-- sights of other dimensions do not show a point
shown-other : (p : Point) (ss : List Sight) → AllByRecursion (λ s. dim_of s.poly ≢ p.dim) ss → list_any (shows p) ss ≡ false
shown-other p ss other = none_passes (shows p) ss (all_weaker (λ s. dim_of s.poly ≢ p.dim) (λ s. shows p s ≡ false) (λ s ne. and_left (p.dim == dim_of s.poly) (same_list p.vertices (point_of s).vertices) (ne_eqb p.dim (dim_of s.poly) (λ e. ne (sym e)))) ss other)

-- what a polygon or a solid sees is no vertex
no-vertices : (c : ℕ) (cell : Cell) → 2 ≤ dim_of cell.poly → AllByRecursion (λ s. dim_of s.poly ≢ 0) (sights_of (c, cell))
no-vertices c cell high = all_sights_of (λ s. dim_of s.poly ≢ 0) c cell (λ e. absurd (omega (arith, high, e)))
    (λ solid. all_enumerated (λ (f : Facet). dim_of f.poly ≢ 0) 0 (facets_of cell.poly) (all_weaker (λ (f : Facet). dim_of f.poly ≡ dim_of cell.poly - 1) (λ (f : Facet). dim_of f.poly ≢ 0) (λ f lower e. absurd (omega (arith, lower, e, solid))) (facets_of cell.poly) (facets-lower cell.poly)))
    (all_from (λ e. dim_of (cell_edge c cell e).poly ≢ 0) (λ e is. absurd (omega (arith, is))) (enumerate_from 0 (edges_of cell.poly)))

-- a cell contains a vertex where the vertex is one of its own
pub contains-vertex : (v : ℕ) (cell : Cell) → 2 ≤ dim_of cell.poly → contains cell (vertex_point v) ≡ list_any (λ w. w == v) cell.vertices
unfolding contains
contains-vertex v cell high =
    list_any-append (shows (vertex_point v)) (map vertex_sight cell.vertices) (sights_of (0, cell))
    ∙ ap₂ (λ a b. a || b)
    (any_map (shows (vertex_point v)) vertex_sight cell.vertices ∙ any_same (λ w. shows (vertex_point v) (vertex_sight w)) (λ w. w == v) (λ w. shows-vertex v w ∙ eqb-sym v w) cell.vertices)
    (shown-other (vertex_point v) (sights_of (0, cell)) (no-vertices 0 cell high))
    ∙ or_false (list_any (λ w. w == v) cell.vertices)
  where
    or_false : (b : Bool) → (b || false) ≡ b
    or_false true = refl
    or_false false = refl

-- polygons and solids
abbrev pub AreHigh : List (ℕ × Cell) → Type 0
AreHigh cells = AllByRecursion (λ (c : ℕ × Cell). 2 ≤ dim_of c.1.poly) cells

-- some of them contains it where some of them has it
pub in_some-vertex : (cells : List (ℕ × Cell)) (v : ℕ) → AreHigh cells → in_some (vertex_point v) cells ≡ has_vertex cells v
in_some-vertex cells v high = any_agree (λ (c : ℕ × Cell). contains c.1 (vertex_point v)) (λ (c : ℕ × Cell). list_any (λ w. w == v) c.1.vertices) cells
    (all_weaker (λ (c : ℕ × Cell). 2 ≤ dim_of c.1.poly) (λ (c : ℕ × Cell). contains c.1 (vertex_point v) ≡ list_any (λ w. w == v) c.1.vertices) (λ c h. contains-vertex v c.1 h) cells high)

-- ---- vertices in charts

module _ (m : Mesh) (right : IsRightMesh m) where
  -- the cells of a mesh are polygons and solids
  pub placed-high : AreHigh (placed_cells m)
  placed-high = all_enumerated (λ (cell : Cell). 2 ≤ dim_of cell.poly) 0 m.cells
      (all_weaker (λ (cell : Cell). dim_of cell.poly ≡ m.dim) (λ (cell : Cell). 2 ≤ dim_of cell.poly) (λ cell is. ⊎_elim (λ flat. omega (arith, is, flat)) (λ solid. omega (arith, is, solid)) right.sound.dim) m.cells (cell-dims m right.sound))

  pub cells-high : (cells : List (ℕ × Cell)) → AreCells m cells → AreHigh cells
  cells-high cells are = all_weaker (Contains (placed_cells m)) (λ (c : ℕ × Cell). 2 ≤ dim_of c.1.poly) (λ c there. all_contained (λ (d : ℕ × Cell). 2 ≤ dim_of d.1.poly) (placed_cells m) c placed-high there) cells are

  -- each vertex is in some cell
  pub vertex-used : (v : ℕ) → v < length m.at → in_some (vertex_point v) (placed_cells m) ≡ true
  vertex-used v low = any_enumerated (λ (cell : Cell). contains cell (vertex_point v)) 0 m.cells ∙ any_weaker (λ (cell : Cell). list_any (λ w. w == v) cell.vertices) (λ (cell : Cell). contains cell (vertex_point v)) (λ cell. vertex-contained v cell) m.cells (right.sound.used v low)

  is_vertex : Sight → Bool
  is_vertex s = dim_of s.poly == 0

  above-none : (d : ℕ) (ss : List Sight) → d ≢ 0 → AllByRecursion (OfDim d) ss → filter (λ s. dim_of s.poly == 0) ss ≡ []
  above-none d ss ne all = filter_none (λ s. dim_of s.poly == 0) ss (all_weaker (OfDim d) (λ s. (dim_of s.poly == 0) ≡ false) (λ s is. ne_eqb (dim_of s.poly) 0 (λ z. ne (sym is ∙ z))) ss all)

  -- the points of dimension 0 are the vertices
  pub vertices-filtered : filter (λ s. dim_of s.poly == 0) (strata m) ≡ vertex_sights m
  vertices-filtered =
      let p : Sight → Bool = λ s. dim_of s.poly == 0 in
      let cs = whole_sights (placed_cells m) in
      let vs = vertex_sights m in
      let high : m.dim ≢ 0 = λ e. ⊎_elim (λ flat. absurd (omega (arith, e, flat))) (λ solid. absurd (omega (arith, e, solid))) right.sound.dim in
      let two : 2 ≢ 0 = λ e. absurd (omega (arith, e)) in
      let one : 1 ≢ 0 = λ e. absurd (omega (arith, e)) in
      let none-cells = above-none m.dim cs high (wholes-of_dim m right.sound) in
      let all-vertices : filter p vs ≡ vs = filter_whole p vs (all_weaker (OfDim 0) (λ s. p s ≡ true) (λ s is. eq-eqb (dim_of s.poly) 0 is) vs (vertices-of_dim (length m.at))) in
      let none-faces = above-none 2 (mesh_faces m) two (faces-of_dim m right.sound) in
      let none-edges = above-none 1 (mesh_edges m) one (edges-of_dim m right.sound) in
      ap (filter p) (strata-parts m right.sound.dim (cell-dims m right.sound) right.differ)
      ∙ filter-append p (cs ++ vs ++ mesh_faces m) (mesh_edges m)
      ∙ ap₂ (λ xs ys. xs ++ ys)
      (filter-append p (cs ++ vs) (mesh_faces m) ∙ ap₂ (λ xs ys. xs ++ ys) (filter-append p cs vs ∙ ap₂ (λ xs ys. xs ++ ys) none-cells all-vertices) none-faces)
      none-edges
      ∙ tidied vs
    where
      tidied : (vs : List Sight) → (([] ++ vs) ++ []) ++ [] ≡ vs
      tidied [] = refl
      tidied (v ∷ vs) = ap (λ l. v ∷ l) (tidied vs)

  -- those in the chart of some cells are those that the cells have
  pub vertices-charted : (cells : List (ℕ × Cell)) → AreHigh cells → filter (λ s. dim_of s.poly == 0) (chart m cells) ≡ map vertex_sight (vertices_of (length m.at) cells)
  unfolding chart vertices_of
  vertices-charted cells high =
      let q : Sight → Bool = λ s. in_some (point_of s) cells in
      filter-swap (λ s. dim_of s.poly == 0) q (strata m)
      ∙ ap (filter q) vertices-filtered
      ∙ sym (filter-mapped vertex_sight q (below (length m.at)))
      ∙ ap (map vertex_sight) (filter_agree (λ v. q (vertex_sight v)) (has_vertex cells) (below (length m.at)) (all_from (λ v. q (vertex_sight v) ≡ has_vertex cells v) (λ v. in_some-vertex cells v high) (below (length m.at))))
