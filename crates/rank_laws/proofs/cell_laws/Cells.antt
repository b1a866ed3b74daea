-- What a cell contains: itself, its vertices, its faces and its edges, all of them different points.
use Rattle.std.proofs.Common.{◌≡◌, ◌≢◌, ℕ, ◌-◌, ◌<◌, ◌≤◌, Bool, true, false, cond, not, ◌||◌, ◌==◌, List, [], ◌∷◌, ◌++◌, map, length, suc, slice_index, refl, sym, ap, ◌∙◌, inl, inr, ⊎_elim, length-append, arith}
use Rattle.std.specs.List.{list_any, AllByRecursion, enumerate_from}
use Rattle.std.proofs.lemmas.Bool.{and_from, or_cases, ne_eqb, eqb-true, cond-false, cases_eq}
use Rattle.std.proofs.lemmas.List.{length-map}
use Rattle.std.proofs.lemmas.List.FromFn.{length-enumerate_from}
use Rattle.std.proofs.lemmas.List.Folds.{list_any-append}
use Rattle.plain_lists.proofs.Each.{all_weaker, all_from, all_map, all_enumerated}
use Rattle.plain_lists.proofs.Finding.{none_passes, any_map}
use Rattle.mesh_defs.specs.declared.Poly.{Poly}
use Rattle.mesh_defs.specs.declared.Poly.TheVariants.{Vertex, Segment, Triangle, Quad, Tet, Hex}
use Rattle.mesh_defs.specs.Tables.{Facet, dim_of, corner_count, facets_of, edges_of}
use Rattle.mesh_defs.specs.Mesh.{Mesh, Cell}
use Rattle.mesh_defs.specs.Points.{Point, Sight, point_of, shows, vertex_sight, cell_sight, cell_face, cell_edge, cell_faces, cell_edges, sights_of, contains}
use Rattle.mesh_defs.specs.Sights.{points_differ}
use Rattle.mesh_defs.specs.RightMesh.{IsFlatOrSolid, IsSoundCell}
use Rattle.mesh_laws.proofs.Containing.{shows-vertex, sights_of-any_place}
use Rattle.rank_laws.proofs.diagram_laws.Edges.{OfDim, none-of_dim}
use Rattle.rank_laws.proofs.diagram_laws.Cones.{facets-lower}
use Rattle.rank_laws.specs.cell_laws.Cells.{cell_all, Once}
use Rattle.rank_laws.proofs.cell_laws.Once.{once-append, once-differ}
use Rattle.rank_laws.proofs.cell_laws.Apart.{faces-differ, edges-differ}

-- ---- different vertices

vertices-differ : (vs : List ℕ) → ((i j : ℕ) → i < j → j < length vs → slice_index vs i ≢ slice_index vs j) → points_differ (map vertex_sight vs) ≡ true
vertices-differ [] h = refl
vertices-differ (v ∷ vs) h = and_from _ _
    (ap not (any_map (shows (point_of (vertex_sight v))) vertex_sight vs ∙ none_passes (λ w. shows (point_of (vertex_sight v)) (vertex_sight w)) vs (all_weaker (λ w. v ≢ w) (λ w. shows (point_of (vertex_sight v)) (vertex_sight w) ≡ false) (λ w ne. shows-vertex v w ∙ ne_eqb v w ne) vs (others vs (λ k low. h 0 (suc k) (omega arith) (omega arith))))))
    (vertices-differ vs (λ i j low high. h (suc i) (suc j) (omega arith) (omega arith)))
  where
    others : (ws : List ℕ) → ((k : ℕ) → k < length ws → v ≢ slice_index ws k) → AllByRecursion (λ w. v ≢ w) ws
    others [] f = tt
    others (w ∷ ws) f = (f 0 (omega arith), others ws (λ k low. f (suc k) (omega arith)))

-- ---- dimensions

-- sights of one dimension and of another show no point both
apart-dims : (p : Point) (d e : ℕ) (xs ys : List Sight) → AllByRecursion (OfDim d) xs → AllByRecursion (OfDim e) ys → d ≢ e → list_any (shows p) xs ≡ true → list_any (shows p) ys ≡ false
apart-dims p d e xs ys h g ne there = ⊎_elim
    (λ (same : p.dim ≡ e). absurd (cc (sym there ∙ none-of_dim p d xs (λ f. ne (sym f ∙ same)) h)))
    (λ (other : p.dim ≢ e). none-of_dim p e ys other g)
    (cases_eq p.dim e)

apart-both : (p : Point) (xs zs ys : List Sight) → (list_any (shows p) xs ≡ true → list_any (shows p) ys ≡ false) → (list_any (shows p) zs ≡ true → list_any (shows p) ys ≡ false) → list_any (shows p) (xs ++ zs) ≡ true → list_any (shows p) ys ≡ false
apart-both p xs zs ys f g h = ⊎_elim f g (or_cases (list_any (shows p) xs) (list_any (shows p) zs) (sym (list_any-append (shows p) xs zs) ∙ h))

-- ---- what a cell contains

edges-dim : (c : ℕ) (cell : Cell) → AllByRecursion (OfDim 1) (cell_edges c cell)
edges-dim c cell = all_map (OfDim 1) (cell_edge c cell) (enumerate_from 0 (edges_of cell.poly)) (all_from (λ e. OfDim 1 (cell_edge c cell e)) (λ e. refl) (enumerate_from 0 (edges_of cell.poly)))

vertices-dim : (vs : List ℕ) → AllByRecursion (OfDim 0) (map vertex_sight vs)
vertices-dim vs = all_map (OfDim 0) vertex_sight vs (all_from (λ v. OfDim 0 (vertex_sight v)) (λ v. refl) vs)

-- a cell contains just what these show
pub contains-all : (p : Point) (c : ℕ) (cell : Cell) → list_any (shows p) (cell_all c cell) ≡ contains cell p
unfolding contains sights_of
contains-all p c cell =
    list_any-append (shows p) ((cell_sight c cell ∷ map vertex_sight cell.vertices) ++ cell_faces c cell) (cell_edges c cell)
    ∙ ap (λ b. b || list_any (shows p) (cell_edges c cell)) (list_any-append (shows p) (cell_sight c cell ∷ map vertex_sight cell.vertices) (cell_faces c cell))
    ∙ mixed (shows p (cell_sight c cell)) (list_any (shows p) (map vertex_sight cell.vertices)) (list_any (shows p) (cell_faces c cell)) (list_any (shows p) (cell_edges c cell))
    ∙ ap (λ b. list_any (shows p) (map vertex_sight cell.vertices) || (shows p (cell_sight c cell) || b)) (sym (list_any-append (shows p) (cell_faces c cell) (cell_edges c cell)))
    ∙ ap (λ b. list_any (shows p) (map vertex_sight cell.vertices) || b) (sights_of-any_place p c 0 cell)
    ∙ sym (list_any-append (shows p) (map vertex_sight cell.vertices) (sights_of (0, cell)))
  where
    mixed : (a b c d : Bool) → (((a || b) || c) || d) ≡ (b || (a || (c || d)))
    mixed true true c d = refl
    mixed true false c d = refl
    mixed false true c d = refl
    mixed false false true d = refl
    mixed false false false d = refl

module _ (m : Mesh) (c : ℕ) (cell : Cell) (sound : IsSoundCell m cell) where
  faces-dim : AllByRecursion (OfDim 2) (cell_faces c cell)
  faces-dim = go (dim_of cell.poly == 3) refl
    where
      solid-faces : dim_of cell.poly ≡ 3 → AllByRecursion (OfDim 2) (map (cell_face c cell) (enumerate_from 0 (facets_of cell.poly)))
      solid-faces solid = all_map (OfDim 2) (cell_face c cell) (enumerate_from 0 (facets_of cell.poly))
          (all_enumerated (λ (f : Facet). dim_of f.poly ≡ 2) 0 (facets_of cell.poly) (all_weaker (λ (f : Facet). dim_of f.poly ≡ dim_of cell.poly - 1) (λ (f : Facet). dim_of f.poly ≡ 2) (λ f lower. omega (arith, lower, solid)) (facets_of cell.poly) (facets-lower cell.poly)))

      go : (b : Bool) → (dim_of cell.poly == 3) ≡ b → AllByRecursion (OfDim 2) (cond b (map (cell_face c cell) (enumerate_from 0 (facets_of cell.poly))) [])
      go true e = solid-faces (eqb-true (dim_of cell.poly) 3 e)
      go false e = tt

  module _ (dims : IsFlatOrSolid m) where
    -- a polygon has no faces beside itself
    no-faces : m.dim ≡ 2 → cell_faces c cell ≡ []
    no-faces flat = cond-false (dim_of cell.poly == 3) (map (cell_face c cell) (enumerate_from 0 (facets_of cell.poly))) [] (ne_eqb _ 3 (λ e. absurd (omega (arith, e, flat, sound.dim))))

    own-apart : (p : Point) → list_any (shows p) (cell_sight c cell ∷ []) ≡ true → list_any (shows p) (cell_faces c cell) ≡ false
    own-apart p there = go dims
      where
        go : IsFlatOrSolid m → list_any (shows p) (cell_faces c cell) ≡ false
        go (inl flat) = ap (list_any (shows p)) (no-faces flat)
        go (inr solid) = apart-dims p m.dim 2 (cell_sight c cell ∷ []) (cell_faces c cell) (sound.dim, tt) faces-dim (λ e. absurd (omega arith)) there

    two-or-more : 2 ≤ m.dim
    two-or-more = go dims
      where
        go : IsFlatOrSolid m → 2 ≤ m.dim
        go (inl flat) = omega arith
        go (inr solid) = omega arith

    -- a point is among these at most once
    pub once-all : (p : Point) → Once (shows p) (cell_all c cell)
    once-all p =
        let whole = cell_sight c cell ∷ [] in
        let vertices = map vertex_sight cell.vertices in
        let faces = cell_faces c cell in
        let edges = cell_edges c cell in
        let one = once-append (shows p) whole vertices (once-differ p whole refl) (once-differ p vertices (vertices-differ cell.vertices sound.different)) (apart-dims p m.dim 0 whole vertices (sound.dim, tt) (vertices-dim cell.vertices) (λ e. absurd (omega (arith, two-or-more)))) in
        let two = once-append (shows p) (whole ++ vertices) faces one (once-differ p faces (faces-differ m c cell sound)) (apart-both p whole vertices faces (own-apart p) (apart-dims p 0 2 vertices faces (vertices-dim cell.vertices) faces-dim (λ e. absurd (omega arith)))) in
        once-append (shows p) (whole ++ vertices ++ faces) edges two (once-differ p edges (edges-differ m c cell sound))
        (apart-both p (whole ++ vertices) faces edges
        (apart-both p whole vertices edges (apart-dims p m.dim 1 whole edges (sound.dim, tt) (edges-dim c cell) (λ e. absurd (omega (arith, two-or-more)))) (apart-dims p 0 1 vertices edges (vertices-dim cell.vertices) (edges-dim c cell) (λ e. absurd (omega arith))))
        (apart-dims p 2 1 faces edges faces-dim (edges-dim c cell) (λ e. absurd (omega arith))))

  -- they are at most 27
  pub few-all : length (cell_all c cell) ≤ 64
  few-all =
      omega (
        arith,
        length-append ((cell_sight c cell ∷ map vertex_sight cell.vertices) ++ cell_faces c cell) (cell_edges c cell),
        length-append (cell_sight c cell ∷ map vertex_sight cell.vertices) (cell_faces c cell),
        length-map cell.vertices vertex_sight,
        sound.corners,
        few-corners cell.poly,
        few-faces,
        few-edges,
      )
    where
      few-corners : (p : Poly) → corner_count p ≤ 8
      few-corners Vertex = omega arith
      few-corners Segment = omega arith
      few-corners Triangle = omega arith
      few-corners Quad = omega arith
      few-corners Tet = omega arith
      few-corners Hex = omega arith

      few-facets : (p : Poly) → length (facets_of p) ≤ 6
      few-facets Vertex = omega arith
      few-facets Segment = omega arith
      few-facets Triangle = omega arith
      few-facets Quad = omega arith
      few-facets Tet = omega arith
      few-facets Hex = omega arith

      few-sides : (p : Poly) → length (edges_of p) ≤ 12
      few-sides Vertex = omega arith
      few-sides Segment = omega arith
      few-sides Triangle = omega arith
      few-sides Quad = omega arith
      few-sides Tet = omega arith
      few-sides Hex = omega arith

      few-faces : length (cell_faces c cell) ≤ 6
      few-faces = go (dim_of cell.poly == 3)
        where
          go : (b : Bool) → length (cond b (map (cell_face c cell) (enumerate_from 0 (facets_of cell.poly))) []) ≤ 6
          go true = omega (arith, length-map (enumerate_from 0 (facets_of cell.poly)) (cell_face c cell), length-enumerate_from 0 (facets_of cell.poly), few-facets cell.poly)
          go false = omega arith

      few-edges : length (cell_edges c cell) ≤ 12
      few-edges = omega (arith, length-map (enumerate_from 0 (edges_of cell.poly)) (cell_edge c cell), length-enumerate_from 0 (edges_of cell.poly), few-sides cell.poly)
