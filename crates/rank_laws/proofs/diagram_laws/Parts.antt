-- The strata of a mesh of sound cells: the cells, the vertices, and the first sights of faces and of edges.
use Rattle.std.proofs.Common.{◌≡◌, ◌⊎◌, ℕ, ◌+◌, Bool, false, cond, not, ◌||◌, ◌&&◌, ◌==◌, List, [], ◌∷◌, ◌++◌, map, refl, sym, ap, ap₂, ◌∙◌, subst, inl, inr, arith}
use Rattle.std.specs.Prelude.{flat_map, if◌then◌else◌}
use Rattle.std.specs.List.{list_any, AllByRecursion, filter, enumerate_from}
use Rattle.std.proofs.lemmas.Bool.{eq-eqb, ne_eqb}
use Rattle.std.proofs.lemmas.List.Elements.{filter-append}
use Rattle.std.proofs.lemmas.List.Concat.{flat_map_single}
use Rattle.mesh_defs.specs.declared.Poly.{Poly}
use Rattle.mesh_defs.specs.declared.Poly.TheVariants.{Vertex, Segment, Triangle, Quad, Tet, Hex}
use Rattle.plain_lists.specs.Lists.{same_set, same_list, sorted, differ_as_sets}
use Rattle.plain_lists.proofs.Each.{all_weaker, all_enumerated}
use Rattle.plain_lists.proofs.Filters.{flat_map_same}
use Rattle.mesh_defs.specs.Tables.{dim_of}
use Rattle.mesh_defs.specs.Mesh.{Mesh, Cell, placed_cells}
use Rattle.mesh_defs.specs.Points.{Sight, point_on, shows, cell_sight, cell_faces, cell_edges, sights_of, sights, vertex_sights}
use Rattle.mesh_defs.specs.Diagram.{firsts, stratum, strata, chart}
use Rattle.mesh_defs.specs.Sights.{points_differ}
use Rattle.mesh_defs.specs.RightMesh.{IsFlatOrSolid, IsSoundCell, IsSoundMesh, CellsDiffer}
use Rattle.mesh_laws.proofs.Firsts.{firsts-fresh}
use Rattle.mesh_laws.proofs.Containing.{chart-all}
use Rattle.rank_laws.specs.diagram_laws.Strata.{whole_sights, face_sights, edge_sights, mesh_faces, mesh_edges, mesh_points}

-- ---- the sights of one cell, by dimension

-- of dimension 2 or of dimension 3
abbrev pub FlatOrSolid : ℕ → Type 0
FlatOrSolid d = (d ≡ 2) ⊎ (d ≡ 3)

-- the sights of this dimension
abbrev pub of_dim : ℕ → Sight → Bool
of_dim d s = dim_of s.poly == d

-- a cell sees one point of its own dimension, itself
whole-of : (p : Poly) (c : ℕ) (vs : List ℕ) → FlatOrSolid (dim_of p) → filter (of_dim (dim_of p)) (sights_of (c, record { poly = p; vertices = vs })) ≡ cell_sight c (record { poly = p; vertices = vs }) ∷ []
unfolding sights_of
whole-of Vertex c vs (inl h) = absurd (omega arith)
whole-of Vertex c vs (inr h) = absurd (omega arith)
whole-of Segment c vs (inl h) = absurd (omega arith)
whole-of Segment c vs (inr h) = absurd (omega arith)
whole-of Triangle c vs h = refl
whole-of Quad c vs h = refl
whole-of Tet c vs h = refl
whole-of Hex c vs h = refl

-- a solid sees its faces
faces-of : (p : Poly) (c : ℕ) (vs : List ℕ) → dim_of p ≡ 3 → filter (of_dim 2) (sights_of (c, record { poly = p; vertices = vs })) ≡ cell_faces c (record { poly = p; vertices = vs })
unfolding sights_of
faces-of Vertex c vs h = absurd (omega arith)
faces-of Segment c vs h = absurd (omega arith)
faces-of Triangle c vs h = absurd (omega arith)
faces-of Quad c vs h = absurd (omega arith)
faces-of Tet c vs h = refl
faces-of Hex c vs h = refl

-- a polygon sees no faces beside itself
no-faces : (p : Poly) (c : ℕ) (vs : List ℕ) → dim_of p ≡ 2 → cell_faces c (record { poly = p; vertices = vs }) ≡ []
no-faces Vertex c vs h = refl
no-faces Segment c vs h = refl
no-faces Triangle c vs h = refl
no-faces Quad c vs h = refl
no-faces Tet c vs h = absurd (omega arith)
no-faces Hex c vs h = absurd (omega arith)

-- a polygon or a solid sees its edges
edges-of : (p : Poly) (c : ℕ) (vs : List ℕ) → FlatOrSolid (dim_of p) → filter (of_dim 1) (sights_of (c, record { poly = p; vertices = vs })) ≡ cell_edges c (record { poly = p; vertices = vs })
unfolding sights_of
edges-of Vertex c vs (inl h) = absurd (omega arith)
edges-of Vertex c vs (inr h) = absurd (omega arith)
edges-of Segment c vs (inl h) = absurd (omega arith)
edges-of Segment c vs (inr h) = absurd (omega arith)
edges-of Triangle c vs h = refl
edges-of Quad c vs h = refl
edges-of Tet c vs h = refl
edges-of Hex c vs h = refl

-- ---- the sights of all cells, by dimension

-- a choice from a list in pieces
filter-flat_map : {X Y : Type 0} (p : Y → Bool) (f : X → List Y) (xs : List X) → filter p (flat_map f xs) ≡ flat_map (λ x. filter p (f x)) xs
filter-flat_map p f [] = refl
filter-flat_map p f (x ∷ xs) = filter-append p (f x) (flat_map f xs) ∙ ap (λ l. filter p (f x) ++ l) (filter-flat_map p f xs)

-- nothing in each piece is nothing
flat_map-nothing : {X Y : Type 0} (f : X → List Y) (xs : List X) → AllByRecursion (λ x. f x ≡ []) xs → flat_map f xs ≡ []
flat_map-nothing f [] h = refl
flat_map-nothing f (x ∷ xs) h = ap₂ (λ a b. a ++ b) h.0 (flat_map-nothing f xs h.1)

-- cells on different sets of vertices are different points
wholes-shown : (p : Poly) (x : List ℕ) (n : ℕ) (cells : List Cell) → AllByRecursion (λ (cell : Cell). dim_of cell.poly ≡ dim_of p) cells → list_any (shows (point_on p x)) (whole_sights (enumerate_from n cells)) ≡ list_any (same_set x) (map (λ (cell : Cell). cell.vertices) cells)
wholes-shown p x n [] h = refl
wholes-shown p x n (cell ∷ cells) h = ap₂ (λ (s t : Bool). s || t) (ap (λ b. b && same_list (sorted x) (sorted cell.vertices)) (eq-eqb (dim_of p) (dim_of cell.poly) (sym h.0))) (wholes-shown p x (n + 1) cells h.1)

wholes-differ : (d n : ℕ) (cells : List Cell) → AllByRecursion (λ (cell : Cell). dim_of cell.poly ≡ d) cells → points_differ (whole_sights (enumerate_from n cells)) ≡ differ_as_sets (map (λ (cell : Cell). cell.vertices) cells)
wholes-differ d n [] h = refl
wholes-differ d n (cell ∷ cells) h =
    ap₂ (λ s t. not s && t) (wholes-shown cell.poly cell.vertices (n + 1) cells (all_weaker (λ (e : Cell). dim_of e.poly ≡ d) (λ (e : Cell). dim_of e.poly ≡ dim_of cell.poly) (λ e k. k ∙ sym h.0) cells h.1)) (wholes-differ d (n + 1) cells h.1)

module _ (m : Mesh) (dims : IsFlatOrSolid m) (are : AllByRecursion (λ (cell : Cell). dim_of cell.poly ≡ m.dim) m.cells) where
  -- each cell with its place has the dimension of the mesh
  placed-are : AllByRecursion (λ (c : ℕ × Cell). dim_of c.1.poly ≡ m.dim) (placed_cells m)
  placed-are = all_enumerated (λ (cell : Cell). dim_of cell.poly ≡ m.dim) 0 m.cells are

  -- the sights of cells of themselves
  pub wholes-filtered : filter (of_dim m.dim) (sights (placed_cells m)) ≡ whole_sights (placed_cells m)
  wholes-filtered =
      filter-flat_map (of_dim m.dim) sights_of (placed_cells m)
      ∙ flat_map_same (λ c. filter (of_dim m.dim) (sights_of c)) (λ c. cell_sight c.0 c.1 ∷ []) (placed_cells m)
      (all_weaker (λ (c : ℕ × Cell). dim_of c.1.poly ≡ m.dim) (λ c. filter (of_dim m.dim) (sights_of c) ≡ cell_sight c.0 c.1 ∷ [])
      (λ c h. ap (λ d. filter (of_dim d) (sights_of c)) (sym h) ∙ whole-of c.1.poly c.0 c.1.vertices (subst FlatOrSolid (sym h) dims)) (placed_cells m) placed-are)
      ∙ flat_map_single (λ (c : ℕ × Cell). cell_sight c.0 c.1) (placed_cells m)

  -- the sights of edges
  pub edges-filtered : filter (of_dim 1) (sights (placed_cells m)) ≡ edge_sights (placed_cells m)
  edges-filtered =
      filter-flat_map (of_dim 1) sights_of (placed_cells m)
      ∙ flat_map_same (λ c. filter (of_dim 1) (sights_of c)) (λ c. cell_edges c.0 c.1) (placed_cells m)
      (all_weaker (λ (c : ℕ × Cell). dim_of c.1.poly ≡ m.dim) (λ c. filter (of_dim 1) (sights_of c) ≡ cell_edges c.0 c.1)
      (λ c h. edges-of c.1.poly c.0 c.1.vertices (subst FlatOrSolid (sym h) dims)) (placed_cells m) placed-are)

  -- the sights of faces in a solid mesh
  pub faces-filtered : m.dim ≡ 3 → filter (of_dim 2) (sights (placed_cells m)) ≡ face_sights (placed_cells m)
  faces-filtered solid =
      filter-flat_map (of_dim 2) sights_of (placed_cells m)
      ∙ flat_map_same (λ c. filter (of_dim 2) (sights_of c)) (λ c. cell_faces c.0 c.1) (placed_cells m)
      (all_weaker (λ (c : ℕ × Cell). dim_of c.1.poly ≡ m.dim) (λ c. filter (of_dim 2) (sights_of c) ≡ cell_faces c.0 c.1)
      (λ c h. faces-of c.1.poly c.0 c.1.vertices (h ∙ solid)) (placed_cells m) placed-are)

  -- there are none in a flat one
  pub faces-none : m.dim ≡ 2 → face_sights (placed_cells m) ≡ []
  faces-none flat = flat_map-nothing (λ (c : ℕ × Cell). cell_faces c.0 c.1) (placed_cells m)
      (all_weaker (λ (c : ℕ × Cell). dim_of c.1.poly ≡ m.dim) (λ c. cell_faces c.0 c.1 ≡ []) (λ c h. no-faces c.1.poly c.0 c.1.vertices (h ∙ flat)) (placed_cells m) placed-are)

  -- ---- strata

  -- the dimension is not 0
  dim-not_zero : (m.dim == 0) ≡ false
  dim-not_zero = ne_eqb m.dim 0 (λ e. go e dims)
    where
      go : m.dim ≡ 0 → IsFlatOrSolid m → ⊥
      go e (inl h) = omega arith
      go e (inr h) = omega arith

  -- the edges are the first sights of edges
  pub stratum-edges : stratum m 1 ≡ mesh_edges m
  unfolding stratum
  stratum-edges = ap firsts edges-filtered

  -- the faces of a solid mesh are the first sights of faces
  pub stratum-faces : m.dim ≡ 3 → stratum m 2 ≡ mesh_faces m
  unfolding stratum
  stratum-faces solid = ap firsts (faces-filtered solid)

  -- the vertices
  pub stratum-vertices : stratum m 0 ≡ vertex_sights m
  unfolding stratum
  stratum-vertices = refl

  -- the faces of the chart, none in a flat mesh
  pub faces-part : (if m.dim == 3 then stratum m 2 else []) ≡ mesh_faces m
  faces-part = go dims
    where
      go : IsFlatOrSolid m → (if m.dim == 3 then stratum m 2 else []) ≡ mesh_faces m
      go (inl flat) = ap (λ b. cond b (stratum m 2) []) (ne_eqb m.dim 3 (λ e. absurd (omega arith))) ∙ sym (ap firsts (faces-none flat))
      go (inr solid) = ap (λ b. cond b (stratum m 2) []) (eq-eqb m.dim 3 solid) ∙ stratum-faces solid

  module _ (differ : CellsDiffer m) where
    -- the cells are the sights of cells of themselves
    pub stratum-cells : stratum m m.dim ≡ whole_sights (placed_cells m)
    unfolding stratum
    stratum-cells =
        ap (λ b. cond b (vertex_sights m) (firsts (filter (of_dim m.dim) (sights (placed_cells m))))) dim-not_zero
        ∙ ap firsts wholes-filtered
        ∙ firsts-fresh (whole_sights (placed_cells m)) (wholes-differ m.dim 0 m.cells are ∙ differ)

    -- all points
    pub strata-parts : strata m ≡ mesh_points m
    unfolding strata
    strata-parts = λ i. stratum-cells i ++ stratum-vertices i ++ faces-part i ++ stratum-edges i

-- the cells of a sound mesh have its dimension
pub cell-dims : (m : Mesh) → IsSoundMesh m → AllByRecursion (λ (cell : Cell). dim_of cell.poly ≡ m.dim) m.cells
cell-dims m sound = all_weaker (IsSoundCell m) (λ (cell : Cell). dim_of cell.poly ≡ m.dim) (λ cell s. s.dim) m.cells sound.cells

-- the chart of all cells of a sound mesh whose cells differ
pub chart-parts : (m : Mesh) → IsSoundMesh m → CellsDiffer m → chart m (placed_cells m) ≡ mesh_points m
chart-parts m sound differ = chart-all m sound.used ∙ strata-parts m sound.dim (cell-dims m sound) differ
