-- What cells contain, by the dimension of the point.
use Rattle.std.proofs.Common.{◌≡◌, ◌≢◌, ℕ, ◌-◌, ◌<◌, ◌≤◌, Bool, true, false, cond, ◌||◌, ◌&&◌, ◌==◌, List, [], ◌∷◌, ◌++◌, map, refl, sym, ap, ◌∙◌, inl, inr, ◌⊎◌, ⊎_elim, zero, suc, arith}
use Rattle.std.specs.Prelude.{flat_map, filter}
use Rattle.std.specs.List.{list_any, AllByRecursion, enumerate_from}
use Rattle.std.proofs.lemmas.Bool.{and_left, and_parts, and_from, or_cases, or_left, or_right, ne_eqb, eq-eqb, eqb-true, cases_eq, cond-false}
use Rattle.std.proofs.lemmas.List.Folds.{list_any-append}
use Rattle.plain_lists.specs.Lists.{below, same_list, same_set, sorted}
use Rattle.plain_lists.proofs.Each.{all_weaker, all_from, all_map, all_enumerated}
use Rattle.plain_lists.proofs.Finding.{none_passes, any_map, any_agree, any_filter, same_tests}
use Rattle.mesh_defs.specs.Tables.{Facet, dim_of, facets_of, edges_of}
use Rattle.mesh_defs.specs.Mesh.{Cell}
use Rattle.mesh_defs.specs.Points.{Point, Sight, point_of, shows, sights_of, vertex_sight, contains, cell_sight, cell_face, cell_edge, cell_faces, cell_edges}
use Rattle.mesh_defs.specs.RightMesh.{in_some}
use Rattle.rank_laws.proofs.diagram_laws.Cones.{facets-lower}
use Rattle.local_points.specs.Cells.{faces_seen, edges_seen}
use Rattle.headline_laws.proofs.seed_laws.Vertices.{AreHigh}

-- sights of one dimension show no point of another
none-of : (p : Point) (d : ℕ) (ss : List Sight) → p.dim ≢ d → AllByRecursion (λ s. dim_of s.poly ≡ d) ss → list_any (shows p) ss ≡ false
none-of p d ss ne h = none_passes (shows p) ss (all_weaker (λ s. dim_of s.poly ≡ d) (λ s. shows p s ≡ false) (λ s e. and_left (p.dim == dim_of s.poly) (same_list p.vertices (point_of s).vertices) (ne_eqb p.dim (dim_of s.poly) (λ f. ne (f ∙ e)))) ss h)

any-flat : {X Y : Type 0} (p : Y → Bool) (f : X → List Y) (xs : List X) → list_any p (flat_map f xs) ≡ list_any (λ x. list_any p (f x)) xs
any-flat p f [] = refl
any-flat p f (x ∷ xs) = list_any-append p (f x) (flat_map f xs) ∙ ap (λ b. list_any p (f x) || b) (any-flat p f xs)

module _ (n : ℕ) (cell : Cell) where
  edges-flat : AllByRecursion (λ s. dim_of s.poly ≡ 1) (cell_edges n cell)
  edges-flat = all_map (λ s. dim_of s.poly ≡ 1) (cell_edge n cell) (enumerate_from 0 (edges_of cell.poly)) (all_from (λ e. dim_of (cell_edge n cell e).poly ≡ 1) (λ e. refl) (enumerate_from 0 (edges_of cell.poly)))

  faces-flat : AllByRecursion (λ s. dim_of s.poly ≡ 2) (cell_faces n cell)
  faces-flat = go (dim_of cell.poly == 3) refl
    where
      solid-faces : dim_of cell.poly ≡ 3 → AllByRecursion (λ s. dim_of s.poly ≡ 2) (map (cell_face n cell) (enumerate_from 0 (facets_of cell.poly)))
      solid-faces solid = all_map (λ s. dim_of s.poly ≡ 2) (cell_face n cell) (enumerate_from 0 (facets_of cell.poly))
          (all_enumerated (λ (f : Facet). dim_of f.poly ≡ 2) 0 (facets_of cell.poly) (all_weaker (λ (f : Facet). dim_of f.poly ≡ dim_of cell.poly - 1) (λ (f : Facet). dim_of f.poly ≡ 2) (λ f lower. omega (arith, lower, solid)) (facets_of cell.poly) (facets-lower cell.poly)))

      go : (b : Bool) → (dim_of cell.poly == 3) ≡ b → AllByRecursion (λ s. dim_of s.poly ≡ 2) (cond b (map (cell_face n cell) (enumerate_from 0 (facets_of cell.poly))) [])
      go true is = solid-faces (eqb-true (dim_of cell.poly) 3 is)
      go false is = tt

-- which faces and edges are shown does not depend on the place of the cell
same-edges : (p : Point) (c d : ℕ) (cell : Cell) → list_any (shows p) (cell_edges c cell) ≡ list_any (shows p) (cell_edges d cell)
same-edges p c d cell = any_map (shows p) (cell_edge c cell) (enumerate_from 0 (edges_of cell.poly)) ∙ sym (any_map (shows p) (cell_edge d cell) (enumerate_from 0 (edges_of cell.poly)))

same-faces : (p : Point) (c d : ℕ) (cell : Cell) → list_any (shows p) (cell_faces c cell) ≡ list_any (shows p) (cell_faces d cell)
same-faces p c d cell = go (dim_of cell.poly == 3)
  where
    facets : List (ℕ × Facet)
    facets = enumerate_from 0 (facets_of cell.poly)

    go : (b : Bool) → list_any (shows p) (cond b (map (cell_face c cell) (enumerate_from 0 (facets_of cell.poly))) []) ≡ list_any (shows p) (cond b (map (cell_face d cell) (enumerate_from 0 (facets_of cell.poly))) [])
    go true = any_map (shows p) (cell_face c cell) (enumerate_from 0 (facets_of cell.poly)) ∙ sym (any_map (shows p) (cell_face d cell) (enumerate_from 0 (facets_of cell.poly)))
    go false = refl

-- a cell contains what is one of its vertices, itself, one of its faces or one of its edges
parts : (p : Point) (cell : Cell) → contains cell p ≡ (list_any (shows p) (map vertex_sight cell.vertices) || (shows p (cell_sight 0 cell) || (list_any (shows p) (cell_faces 0 cell) || list_any (shows p) (cell_edges 0 cell))))
unfolding contains sights_of
parts p cell =
    list_any-append (shows p) (map vertex_sight cell.vertices) (cell_sight 0 cell ∷ (cell_faces 0 cell ++ cell_edges 0 cell))
    ∙ ap (λ b. list_any (shows p) (map vertex_sight cell.vertices) || (shows p (cell_sight 0 cell) || b)) (list_any-append (shows p) (cell_faces 0 cell) (cell_edges 0 cell))

no-vertex : (p : Point) (cell : Cell) → p.dim ≢ 0 → list_any (shows p) (map vertex_sight cell.vertices) ≡ false
no-vertex p cell ne = none-of p 0 (map vertex_sight cell.vertices) ne (all_map (λ s. dim_of s.poly ≡ 0) vertex_sight cell.vertices (all_from (λ v. dim_of (vertex_sight v).poly ≡ 0) (λ v. refl) cell.vertices))

not-whole : (p : Point) (cell : Cell) → p.dim ≢ dim_of cell.poly → shows p (cell_sight 0 cell) ≡ false
not-whole p cell ne = and_left (p.dim == dim_of cell.poly) (same_list p.vertices (sorted cell.vertices)) (ne_eqb p.dim (dim_of cell.poly) ne)

or_false : (b : Bool) → (b || false) ≡ b
or_false true = refl
or_false false = refl

-- an edge
pub contains-edge : (p : Point) (c : ℕ × Cell) → p.dim ≡ 1 → 2 ≤ dim_of c.1.poly → contains c.1 p ≡ list_any (shows p) (cell_edges c.0 c.1)
contains-edge p c one high =
    parts p c.1
    ∙ (λ i. no-vertex p c.1 (λ e. absurd (omega (arith, e, one))) i || (not-whole p c.1 (λ e. absurd (omega (arith, e, one, high))) i || (none-of p 2 (cell_faces 0 c.1) (λ e. absurd (omega (arith, e, one))) (faces-flat 0 c.1) i || list_any (shows p) (cell_edges 0 c.1))))
    ∙ same-edges p 0 c.0 c.1

-- a face of a solid
pub contains-face : (p : Point) (c : ℕ × Cell) → p.dim ≡ 2 → dim_of c.1.poly ≡ 3 → contains c.1 p ≡ list_any (shows p) (cell_faces c.0 c.1)
contains-face p c two solid =
    parts p c.1
    ∙ (λ i. no-vertex p c.1 (λ e. absurd (omega (arith, e, two))) i || (not-whole p c.1 (λ e. absurd (omega (arith, e, two, solid))) i || (list_any (shows p) (cell_faces 0 c.1) || none-of p 1 (cell_edges 0 c.1) (λ e. absurd (omega (arith, e, two))) (edges-flat 0 c.1) i)))
    ∙ or_false (list_any (shows p) (cell_faces 0 c.1))
    ∙ same-faces p 0 c.0 c.1

-- itself
pub contains-whole : (p : Point) (c : ℕ × Cell) → p.dim ≡ dim_of c.1.poly → 2 ≤ dim_of c.1.poly → (dim_of c.1.poly ≡ 2 → cell_faces 0 c.1 ≡ []) → (dim_of c.1.poly ≢ 2 → p.dim ≢ 2) → contains c.1 p ≡ shows p (cell_sight 0 c.1)
contains-whole p c same high flat other =
    parts p c.1
    ∙ (λ i. no-vertex p c.1 (λ e. absurd (omega (arith, e, same, high))) i || (shows p (cell_sight 0 c.1) || (no-faces (cases_eq (dim_of c.1.poly) 2) i || none-of p 1 (cell_edges 0 c.1) (λ e. absurd (omega (arith, e, same, high))) (edges-flat 0 c.1) i)))
    ∙ or_false (shows p (cell_sight 0 c.1))
  where
    no-faces : (dim_of c.1.poly ≡ 2) ⊎ (dim_of c.1.poly ≡ 2 → ⊥) → list_any (shows p) (cell_faces 0 c.1) ≡ false
    no-faces (inl two) = ap (list_any (shows p)) (flat two)
    no-faces (inr ne) = none-of p 2 (cell_faces 0 c.1) (other ne) (faces-flat 0 c.1)

-- ---- by some cells

pub some-edges : (p : Point) (cells : List (ℕ × Cell)) → p.dim ≡ 1 → AreHigh cells → in_some p cells ≡ list_any (shows p) (edges_seen cells)
some-edges p cells one high = any_agree (λ (c : ℕ × Cell). contains c.1 p) (λ (c : ℕ × Cell). list_any (shows p) (cell_edges c.0 c.1)) cells (all_weaker (λ (c : ℕ × Cell). 2 ≤ dim_of c.1.poly) (λ (c : ℕ × Cell). contains c.1 p ≡ list_any (shows p) (cell_edges c.0 c.1)) (λ c h. contains-edge p c one h) cells high)
    ∙ sym (any-flat (shows p) (λ (c : ℕ × Cell). cell_edges c.0 c.1) cells)

pub some-faces : (p : Point) (cells : List (ℕ × Cell)) → p.dim ≡ 2 → AllByRecursion (λ (c : ℕ × Cell). dim_of c.1.poly ≡ 3) cells → in_some p cells ≡ list_any (shows p) (faces_seen cells)
some-faces p cells two solid = any_agree (λ (c : ℕ × Cell). contains c.1 p) (λ (c : ℕ × Cell). list_any (shows p) (cell_faces c.0 c.1)) cells (all_weaker (λ (c : ℕ × Cell). dim_of c.1.poly ≡ 3) (λ (c : ℕ × Cell). contains c.1 p ≡ list_any (shows p) (cell_faces c.0 c.1)) (λ c h. contains-face p c two h) cells solid)
    ∙ sym (any-flat (shows p) (λ (c : ℕ × Cell). cell_faces c.0 c.1) cells)

pub some-wholes : (d : ℕ) (vertices : List ℕ) (cells : List (ℕ × Cell)) → 2 ≤ d → AllByRecursion (λ (c : ℕ × Cell). dim_of c.1.poly ≡ d) cells → in_some (record { dim = d; vertices = sorted vertices }) cells ≡ list_any (λ (c : ℕ × Cell). same_set vertices c.1.vertices) cells
some-wholes d vertices cells high dims = any_agree (λ (c : ℕ × Cell). contains c.1 (record { dim = d; vertices = sorted vertices })) (λ (c : ℕ × Cell). same_set vertices c.1.vertices) cells
    (all_weaker (λ (c : ℕ × Cell). dim_of c.1.poly ≡ d) (λ (c : ℕ × Cell). contains c.1 (record { dim = d; vertices = sorted vertices }) ≡ same_set vertices c.1.vertices) each cells dims)
  where
    each : (c : ℕ × Cell) → dim_of c.1.poly ≡ d → contains c.1 (record { dim = d; vertices = sorted vertices }) ≡ same_set vertices c.1.vertices
    each c is =
        contains-whole (record { dim = d; vertices = sorted vertices }) c (sym is) (omega (arith, is, high))
        (λ two. cond-false (dim_of c.1.poly == 3) (map (cell_face 0 c.1) (enumerate_from 0 (facets_of c.1.poly))) [] (ne_eqb (dim_of c.1.poly) 3 (λ e. absurd (omega (arith, e, two)))))
        (λ ne e. ne (is ∙ e))
        ∙ ap (λ b. b && same_set vertices c.1.vertices) (eq-eqb d (dim_of c.1.poly) (sym is))

-- ---- numbers that pass a test

-- a number below n is among them where it passes
pub among-below : (t : ℕ → Bool) (v n : ℕ) → v < n → list_any (λ w. w == v) (filter t (below n)) ≡ t v
among-below t v n low = any_filter (λ w. w == v) t (below n) ∙ same_tests (list_any (λ w. t w && (w == v)) (below n)) (t v)
    (λ h. passes (below n) h)
    (λ h. there n low h)
  where
    passes : (ws : List ℕ) → list_any (λ w. t w && (w == v)) ws ≡ true → t v ≡ true
    passes [] h = absurd (cc h)
    passes (w ∷ ws) h = ⊎_elim (λ here. let both = and_parts (t w) (w == v) here in ap t (sym (eqb-true w v both.1)) ∙ both.0) (λ later. passes ws later) (or_cases (t w && (w == v)) (list_any (λ u. t u && (u == v)) ws) h)

    there : (k : ℕ) → v < k → t v ≡ true → list_any (λ w. t w && (w == v)) (below k) ≡ true
    there zero lt h = absurd (omega (arith, lt))
    there (suc k) lt h = list_any-append (λ w. t w && (w == v)) (below k) (k ∷ []) ∙ ⊎_elim
        (λ same. or_right (list_any (λ w. t w && (w == v)) (below k)) ((t k && (k == v)) || false) (or_left (t k && (k == v)) false (and_from (t k) (k == v) (ap t (sym same) ∙ h) (eq-eqb k v (sym same)))))
        (λ other. or_left (list_any (λ w. t w && (w == v)) (below k)) ((t k && (k == v)) || false) (there k (omega (arith, lt, other)) h))
        (cases_eq v k)
