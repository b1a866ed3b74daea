-- Where the point of a mark is among the points of some cells.
use Rattle.std.proofs.Common.{◌≡◌, ◌≢◌, ℕ, ◌+◌, ◌^◌, ◌<◌, ◌≤◌, true, ◌==◌, List, [], ◌∷◌, length, sym, ap, ◌∙◌, subst, ⊎_elim, arith}
use Rattle.std.specs.Prelude.{slice_index, filter, position, is_some, Contains}
use Rattle.std.specs.List.{list_any, AllByRecursion, enumerate_from}
use Rattle.plain_lists.specs.Lists.{below, sorted}
use Rattle.plain_lists.proofs.Each.{all_weaker, all_both, all_contained, all_at, all_enumerated, all_filter}
use Rattle.plain_lists.proofs.Below.{below-all}
use Rattle.mesh_defs.specs.declared.Poly.TheVariants.{Segment}
use Rattle.mesh_defs.specs.Tables.{dim_of}
use Rattle.mesh_defs.specs.Mesh.{Mesh, Cell, Mark, placed_cells}
use Rattle.mesh_defs.specs.Points.{point_on, shows, marked_point}
use Rattle.mesh_defs.specs.Diagram.{firsts}
use Rattle.mesh_defs.specs.RightMesh.{IsRightMesh, IsSoundCell, IsOnPoint, AreCells, in_some}
use Rattle.mesh_laws.proofs.Firsts.{list_any-firsts}
use Rattle.rank_laws.proofs.Found.{one-entry, two-entries}
use Rattle.rank_laws.proofs.diagram_laws.Parts.{cell-dims}
use Rattle.plex_mesh.specs.Right.{mark_at}
use Rattle.rank_chart_laws.specs.mark_laws.Sets.{IsShort}
use Rattle.rank_chart_laws.proofs.mark_laws.Counting.{vertices-few}
use Rattle.rank_chart_laws.proofs.mark_laws.Filled.{cells-short}
use Rattle.rank_chart_laws.proofs.mark_laws.Marks.{on-cell, on-vertex, on-edge, not-above}
use Rattle.local_points.specs.Cells.{AreFit, IsFit, faces_seen, edges_seen}
use Rattle.headline_laws.specs.seed_laws.Given.{has_vertex, vertices_of, vertex_point}
use Rattle.headline_laws.proofs.seed_laws.Vertices.{cells-high, in_some-vertex}
use Rattle.dist_seed.specs.rank_marks.Own.{AreShort, some_on}
use Rattle.dist_seed.proofs.rank_marks.Between.{some-edges, some-faces, some-wholes, among-below}
use Rattle.dist_seed.proofs.rank_marks.Sets.{position-any}

module _ (m : Mesh) (right : IsRightMesh m) (cells : List (ℕ × Cell)) (are : AreCells m cells) where
  -- what all cells of the mesh have, these have
  each : (P : ℕ × Cell → Type 0) → AllByRecursion P (placed_cells m) → AllByRecursion P cells
  each P all = all_weaker (Contains (placed_cells m)) P (λ c there. all_contained P (placed_cells m) c all there) cells are

  pub short-cells : AreShort cells
  short-cells = each (λ (c : ℕ × Cell). IsShort c.1.vertices) (all_enumerated (λ (cell : Cell). IsShort cell.vertices) 0 m.cells (cells-short m right))

  dims : AllByRecursion (λ (c : ℕ × Cell). dim_of c.1.poly ≡ m.dim) cells
  dims = each (λ (c : ℕ × Cell). dim_of c.1.poly ≡ m.dim) (all_enumerated (λ (cell : Cell). dim_of cell.poly ≡ m.dim) 0 m.cells (cell-dims m right.sound))

  high : 2 ≤ m.dim
  high = ⊎_elim (λ flat. omega (arith, flat)) (λ solid. omega (arith, solid)) right.sound.dim

  module _ (k : Mark) (on : in_some (marked_point k) (placed_cells m) ≡ true) where
    -- on a cell
    pub short-mark : k.dim ≡ m.dim → IsShort k.vertices
    short-mark e = (on-cell m right k on e).short

    pub marked-cell : k.dim ≡ m.dim → some_on k.vertices cells ≡ in_some (marked_point k) cells
    marked-cell e = sym (ap (λ d. in_some (record { dim = d; vertices = sorted k.vertices }) cells) e ∙ some-wholes m.dim k.vertices cells high dims)

    -- on a vertex
    pub one-vertex : k.dim ≡ 0 → length k.vertices ≡ 1
    one-vertex e = (on-vertex m right k on e).one

    pub low-vertex : k.dim ≡ 0 → slice_index k.vertices 0 < length m.at
    low-vertex e = (on-vertex m right k on e).low

    pub marked-vertex : k.dim ≡ 0 → list_any (λ w. w == slice_index k.vertices 0) (vertices_of (length m.at) cells) ≡ in_some (marked_point k) cells
    unfolding vertices_of
    marked-vertex e =
        let v = slice_index k.vertices 0 in
        let point : marked_point k ≡ vertex_point v = λ i. record { dim = e i; vertices = sorted (one-entry k.vertices (one-vertex e) i) } in
        there v (length m.at) (low-vertex e)
        ∙ sym (in_some-vertex cells v (cells-high m right cells are))
        ∙ ap (λ p. in_some p cells) (sym point)
      where
        there : (v n : ℕ) → v < n → list_any (λ w. w == v) (filter (has_vertex cells) (below n)) ≡ has_vertex cells v
        there v n low = among-below (has_vertex cells) v n low

    -- on an edge
    pub two-vertices : k.dim ≡ 1 → length k.vertices ≡ 2
    two-vertices e = (on-edge m right k on e).two

    pub marked-edge : k.dim ≡ 1 → is_some (position (shows (point_on Segment (slice_index k.vertices 0 ∷ slice_index k.vertices 1 ∷ []))) (firsts (edges_seen cells))) ≡ in_some (marked_point k) cells
    marked-edge e =
        let own : k.vertices ≡ slice_index k.vertices 0 ∷ slice_index k.vertices 1 ∷ [] = two-entries k.vertices (two-vertices e) in
        let point : point_on Segment (slice_index k.vertices 0 ∷ slice_index k.vertices 1 ∷ []) ≡ marked_point k = λ i. record { dim = sym e i; vertices = sorted (sym own i) } in
        position-any (shows (point_on Segment (slice_index k.vertices 0 ∷ slice_index k.vertices 1 ∷ []))) (firsts (edges_seen cells))
        ∙ ap (λ p. list_any (shows p) (firsts (edges_seen cells))) point
        ∙ list_any-firsts (marked_point k) (edges_seen cells)
        ∙ sym (some-edges (marked_point k) cells e (cells-high m right cells are))

    -- on a face
    pub marked-face : k.dim ≢ m.dim → k.dim ≡ 2 → is_some (position (shows (record { dim = 2; vertices = sorted k.vertices })) (firsts (faces_seen cells))) ≡ in_some (marked_point k) cells
    marked-face ne e =
        let solid : m.dim ≡ 3 = ⊎_elim (λ flat. absurd (ne (e ∙ sym flat))) (λ s. s) right.sound.dim in
        let point : record { dim = 2; vertices = sorted k.vertices } ≡ marked_point k = λ i. record { dim = sym e i; vertices = sorted k.vertices } in
        position-any (shows (record { dim = 2; vertices = sorted k.vertices })) (firsts (faces_seen cells))
        ∙ ap (λ p. list_any (shows p) (firsts (faces_seen cells))) point
        ∙ list_any-firsts (marked_point k) (faces_seen cells)
        ∙ sym (some-faces (marked_point k) cells e (all_weaker (λ (c : ℕ × Cell). dim_of c.1.poly ≡ m.dim) (λ (c : ℕ × Cell). dim_of c.1.poly ≡ 3) (λ c d. d ∙ solid) cells dims))

    -- no mark is on a solid of a flat mesh
    pub no-solid : k.dim ≢ m.dim → k.dim ≡ 3 → ⊥
    no-solid ne e = ⊎_elim (λ flat. not-above m right k on e flat) (λ solid. ne (e ∙ sym solid)) right.sound.dim

-- a mark of a right mesh is on a point
pub mark-on : (m : Mesh) (i : ℕ) → IsRightMesh m → i < length m.marks → in_some (marked_point (mark_at m.marks i)) (placed_cells m) ≡ true
mark-on m i right low = all_at (IsOnPoint m) m.marks i (mark_at [] 0) right.marks low

places-below : {X : Type 0} (n : ℕ) (xs : List X) → AllByRecursion (λ (c : ℕ × X). c.0 < n + length xs) (enumerate_from n xs)
places-below n [] = tt
places-below n (x ∷ xs) = (omega arith, all_weaker (λ (c : ℕ × _). c.0 < n + 1 + length xs) (λ (c : ℕ × _). c.0 < n + length (x ∷ xs)) (λ c h. omega arith) (enumerate_from (n + 1) xs) (places-below (n + 1) xs))

-- the cells of a right mesh fit the faces and edges of local points
pub own-fit : (m : Mesh) → IsRightMesh m → (cells : List (ℕ × Cell)) → AreCells m cells → length cells ≤ 250000 → AreFit cells
own-fit m right cells are few = record {
  few = few;
  each = all_weaker (Contains (placed_cells m)) IsFit (λ c there. all_contained IsFit (placed_cells m) c all there) cells are;
}
  where
    vertices : length m.at ≤ 2000000
    vertices = vertices-few m right

    low : AllByRecursion (λ (c : ℕ × Cell). c.0 < 0 + length m.cells) (placed_cells m)
    low = places-below 0 m.cells

    two-or-more : (d : ℕ) → d ≡ m.dim → 2 ≤ d
    two-or-more d h = ⊎_elim (λ flat. omega (arith, h, flat)) (λ solid. omega (arith, h, solid)) right.sound.dim

    all : AllByRecursion IsFit (placed_cells m)
    all = all_both (λ (c : ℕ × Cell). c.0 < 0 + length m.cells) (λ (c : ℕ × Cell). IsSoundCell m c.1) IsFit
        (λ c place sound. record {
          number = let count = right.few_cells in omega (arith, place, count);
          dim = two-or-more (dim_of c.1.poly) sound.dim;
          corners = sound.corners;
          vertices = all_weaker (λ v. v < length m.at) (λ v. v + 1 < 2 ^ 32) (λ v h. omega (arith, h, vertices)) c.1.vertices sound.in_range;
        })
        (placed_cells m) low (all_enumerated (IsSoundCell m) 0 m.cells right.sound.cells)

-- vertices of cells are below those of the mesh
pub vertices-low : (n : ℕ) (cells : List (ℕ × Cell)) (vertices : List ℕ) → vertices ≡ vertices_of n cells → AllByRecursion (λ v. v < n) vertices
unfolding vertices_of
vertices-low n cells vertices are = subst (AllByRecursion (λ v. v < n)) (sym are) (all_filter (λ v. v < n) (has_vertex cells) (below n) (below-all n))
