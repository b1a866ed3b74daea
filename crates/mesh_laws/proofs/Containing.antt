-- Every point of a mesh stands in a cell, where every vertex does.
use Rattle.std.proofs.Common.{◌≡◌, ℕ, ◌<◌, Bool, true, false, cond, ◌||◌, ◌&&◌, ◌==◌, List, [], ◌∷◌, ◌++◌, map, length, refl, sym, ap, ◌∙◌, ap₂, subst}
use Rattle.std.specs.List.{list_any, AllByRecursion, filter, enumerate_from}
use Rattle.std.proofs.lemmas.Bool.{or_left, or_right, eqb-true, eq-eqb, cond-true}
use Rattle.std.proofs.lemmas.List.Folds.{list_any-append}
use Rattle.mesh_defs.specs.declared.Poly.TheVariants.{Segment}
use Rattle.plain_lists.specs.Lists.{below, sorted, picked}
use Rattle.plain_lists.proofs.Each.{all_weaker, all_append, all_map, all_filter, all_mapped, all_append_first}
use Rattle.plain_lists.proofs.Filters.{filter_whole}
use Rattle.plain_lists.proofs.Finding.{any_same, any_map, any_enumerated, any_weaker, same_tests}
use Rattle.plain_lists.proofs.Below.{below-all}
use Rattle.mesh_defs.specs.Tables.{Facet, dim_of, facets_of, edges_of}
use Rattle.mesh_defs.specs.Mesh.{Mesh, Cell, placed_cells}
use Rattle.mesh_defs.specs.Points.{Point, Sight, cell_sight, cell_face, cell_edge, cell_faces, cell_edges, same_point, point_on, point_of, shows, sights_of, sights, vertex_sight, vertex_sights, contains}
use Rattle.mesh_defs.specs.Diagram.{firsts, stratum, strata, chart}
use Rattle.mesh_laws.proofs.Firsts.{shown_itself, firsts-all}

-- ---- what all sights of a cell have

-- what the cell itself, the faces of a solid and the edges have
pub all_sights_of : (P : Sight → Type 0) (c : ℕ) (cell : Cell) → P (cell_sight c cell)
    → (dim_of cell.poly ≡ 3 → AllByRecursion (λ f. P (cell_face c cell f)) (enumerate_from 0 (facets_of cell.poly)))
    → AllByRecursion (λ e. P (cell_edge c cell e)) (enumerate_from 0 (edges_of cell.poly)) → AllByRecursion P (sights_of (c, cell))
unfolding sights_of
all_sights_of P c cell own faces edges = (
  own,
  all_append P (cell_faces c cell) (cell_edges c cell) (go (dim_of cell.poly == 3) (λ e. faces (eqb-true (dim_of cell.poly) 3 e))) (all_map P (cell_edge c cell) (enumerate_from 0 (edges_of cell.poly)) edges),
)
  where
    go : (b : Bool) → (b ≡ true → AllByRecursion (λ f. P (cell_face c cell f)) (enumerate_from 0 (facets_of cell.poly))) → AllByRecursion P (cond b (map (cell_face c cell) (enumerate_from 0 (facets_of cell.poly))) [])
    go false h = tt
    go true h = all_map P (cell_face c cell) (enumerate_from 0 (facets_of cell.poly)) (h refl)

-- the faces of a solid have it
pub all_faces_of : (P : Sight → Type 0) (c : ℕ) (cell : Cell) → dim_of cell.poly ≡ 3 → AllByRecursion P (sights_of (c, cell)) → AllByRecursion (λ f. P (cell_face c cell f)) (enumerate_from 0 (facets_of cell.poly))
unfolding sights_of
all_faces_of P c cell solid h = all_mapped P (cell_face c cell) (enumerate_from 0 (facets_of cell.poly))
    (subst (AllByRecursion P) (cond-true (dim_of cell.poly == 3) (map (cell_face c cell) (enumerate_from 0 (facets_of cell.poly))) [] (eq-eqb (dim_of cell.poly) 3 solid)) (all_append_first P (cell_faces c cell) (cell_edges c cell) h.1))

-- ---- what a cell contains

-- which points a cell sees does not depend on the place of the cell
pub sights_of-any_place : (p : Point) (c d : ℕ) (cell : Cell) → list_any (shows p) (sights_of (c, cell)) ≡ list_any (shows p) (sights_of (d, cell))
unfolding sights_of
sights_of-any_place p c d cell = without c (dim_of cell.poly == 3) ∙ sym (without d (dim_of cell.poly == 3))
  where
    faces : ℕ → Bool → List Sight
    faces k b = cond b (map (cell_face k cell) (enumerate_from 0 (facets_of cell.poly))) []

    face : Bool → Bool
    face b = cond b (list_any (λ (f : ℕ × Facet). same_point p (point_on f.1.poly (picked cell.vertices f.1.corners))) (enumerate_from 0 (facets_of cell.poly))) false

    edge : Bool
    edge = list_any (λ (e : ℕ × List ℕ). same_point p (point_on Segment (picked cell.vertices e.1))) (enumerate_from 0 (edges_of cell.poly))

    face_without : (k : ℕ) (b : Bool) → list_any (shows p) (faces k b) ≡ face b
    face_without k true = any_map (shows p) (cell_face k cell) (enumerate_from 0 (facets_of cell.poly))
    face_without k false = refl

    without : (k : ℕ) (b : Bool) → (same_point p (point_on cell.poly cell.vertices) || list_any (shows p) (faces k b ++ cell_edges k cell)) ≡ (same_point p (point_on cell.poly cell.vertices) || (face b || edge))
    without k b = ap (λ t. same_point p (point_on cell.poly cell.vertices) || t)
        (list_any-append (shows p) (faces k b) (cell_edges k cell)
        ∙ ap₂ (λ s t. s || t) (face_without k b) (any_map (shows p) (cell_edge k cell) (enumerate_from 0 (edges_of cell.poly))))

-- each sight of a cell is contained in it
sights_of-contained : (c : ℕ) (cell : Cell) → AllByRecursion (λ s. contains cell (point_of s) ≡ true) (sights_of (c, cell))
unfolding contains
sights_of-contained c cell =
    all_weaker (λ s. list_any (shows (point_of s)) (sights_of (c, cell)) ≡ true) (λ s. list_any (shows (point_of s)) (map vertex_sight cell.vertices ++ sights_of (0, cell)) ≡ true)
    (λ s h. list_any-append (shows (point_of s)) (map vertex_sight cell.vertices) (sights_of (0, cell)) ∙ or_right _ _ (sights_of-any_place (point_of s) 0 c cell ∙ h))
    (sights_of (c, cell)) (shown_itself (sights_of (c, cell)))

-- each sight of cells is contained in one of them
pub sights-contained : (cells : List (ℕ × Cell)) → AllByRecursion (λ s. list_any (λ (c : ℕ × Cell). contains c.1 (point_of s)) cells ≡ true) (sights cells)
sights-contained [] = tt
sights-contained (c ∷ cells) =
    all_append (λ s. list_any (λ (d : ℕ × Cell). contains d.1 (point_of s)) (c ∷ cells) ≡ true) (sights_of c) (sights cells)
    (all_weaker (λ s. contains c.1 (point_of s) ≡ true) (λ s. list_any (λ (d : ℕ × Cell). contains d.1 (point_of s)) (c ∷ cells) ≡ true) (λ s h. or_left _ _ h) (sights_of c) (sights_of-contained c.0 c.1))
    (all_weaker (λ s. list_any (λ (d : ℕ × Cell). contains d.1 (point_of s)) cells ≡ true) (λ s. list_any (λ (d : ℕ × Cell). contains d.1 (point_of s)) (c ∷ cells) ≡ true) (λ s h. or_right _ _ h) (sights cells) (sights-contained cells))

-- vertices show each other's points where they are equal
pub shows-vertex : (v w : ℕ) → shows (point_of (vertex_sight v)) (vertex_sight w) ≡ (v == w)
unfolding sorted
shows-vertex v w = and-true (v == w)
  where
    and-true : (b : Bool) → (b && true) ≡ b
    and-true true = refl
    and-true false = refl

-- the test of numbers is symmetric
pub eqb-sym : (a b : ℕ) → (a == b) ≡ (b == a)
eqb-sym a b = same_tests (a == b) (b == a) (λ h. eq-eqb b a (sym (eqb-true a b h))) (λ h. eq-eqb a b (sym (eqb-true b a h)))

-- a vertex in a cell is contained in it
pub vertex-contained : (v : ℕ) (cell : Cell) → list_any (λ w. w == v) cell.vertices ≡ true → contains cell (point_of (vertex_sight v)) ≡ true
unfolding contains
vertex-contained v cell h =
    list_any-append (shows (point_of (vertex_sight v))) (map vertex_sight cell.vertices) (sights_of (0, cell))
    ∙ or_left _ _ (any_map (shows (point_of (vertex_sight v))) vertex_sight cell.vertices ∙ any_same (λ w. shows (point_of (vertex_sight v)) (vertex_sight w)) (λ w. w == v) (λ w. shows-vertex v w ∙ eqb-sym v w) cell.vertices ∙ h)

module _ (m : Mesh) (used : (v : ℕ) → v < length m.at → list_any (λ (cell : Cell). list_any (λ w. w == v) cell.vertices) m.cells ≡ true) where
  -- each vertex is contained in a cell
  vertices-contained : AllByRecursion (λ s. list_any (λ (c : ℕ × Cell). contains c.1 (point_of s)) (placed_cells m) ≡ true) (vertex_sights m)
  vertices-contained =
      all_map (λ s. list_any (λ (c : ℕ × Cell). contains c.1 (point_of s)) (placed_cells m) ≡ true) vertex_sight (below (length m.at))
      (all_weaker (λ v. v < length m.at) (λ v. list_any (λ (c : ℕ × Cell). contains c.1 (point_of (vertex_sight v))) (placed_cells m) ≡ true)
      (λ v h. any_enumerated (λ (cell : Cell). contains cell (point_of (vertex_sight v))) 0 m.cells ∙ any_weaker (λ (cell : Cell). list_any (λ w. w == v) cell.vertices) (λ (cell : Cell). contains cell (point_of (vertex_sight v))) (λ cell. vertex-contained v cell) m.cells (used v h))
      (below (length m.at)) (below-all (length m.at)))

  -- each point of a dimension is contained in a cell
  stratum-contained : (dim : ℕ) → AllByRecursion (λ s. list_any (λ (c : ℕ × Cell). contains c.1 (point_of s)) (placed_cells m) ≡ true) (stratum m dim)
  unfolding stratum
  stratum-contained dim = go (dim == 0)
    where
      go : (b : Bool) → AllByRecursion (λ s. list_any (λ (c : ℕ × Cell). contains c.1 (point_of s)) (placed_cells m) ≡ true) (cond b (vertex_sights m) (firsts (filter (λ s. dim_of s.poly == dim) (sights (placed_cells m)))))
      go true = vertices-contained
      go false = firsts-all _ (filter (λ s. dim_of s.poly == dim) (sights (placed_cells m))) (all_filter _ (λ s. dim_of s.poly == dim) (sights (placed_cells m)) (sights-contained (placed_cells m)))

  -- the chart of all cells has all points
  pub chart-all : chart m (placed_cells m) ≡ strata m
  unfolding chart strata
  chart-all = filter_whole (λ s. list_any (λ (c : ℕ × Cell). contains c.1 (point_of s)) (placed_cells m)) (strata m)
      (all_append P (stratum m m.dim ++ stratum m 0 ++ faces (m.dim == 3)) (stratum m 1)
      (all_append P (stratum m m.dim ++ stratum m 0) (faces (m.dim == 3))
      (all_append P (stratum m m.dim) (stratum m 0) (stratum-contained m.dim) (stratum-contained 0)) (faces-contained (m.dim == 3))) (stratum-contained 1))
    where
      P : Sight → Type 0
      P s = list_any (λ (c : ℕ × Cell). contains c.1 (point_of s)) (placed_cells m) ≡ true

      faces : Bool → List Sight
      faces b = cond b (stratum m 2) []

      faces-contained : (b : Bool) → AllByRecursion P (faces b)
      faces-contained true = stratum-contained 2
      faces-contained false = tt
