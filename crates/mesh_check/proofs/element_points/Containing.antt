-- A cell contains the point of an element just where one of its parts has the element's dimension and nodes.
use Rattle.std.proofs.Common.{◌≡◌, ℕ, ◌<◌, Bool, true, false, cond, ◌&&◌, ◌||◌, ◌==◌, List, [], ◌∷◌, ◌++◌, map, length, refl, sym, ap, ap₂, ◌∙◌, subst, arith}
use Rattle.std.specs.Prelude.{nat_lt}
use Rattle.std.specs.List.{AllByRecursion, list_any, list_all, enumerate_from}
use Rattle.std.proofs.lemmas.Bool.{ltb-true}
use Rattle.std.proofs.lemmas.List.{get_or-map}
use Rattle.std.proofs.lemmas.List.Folds.{list_any-append}
use Rattle.plain_lists.specs.Lists.{sorted, picked}
use Rattle.plain_lists.proofs.Each.{all_at, all_weaker, each_passes}
use Rattle.plain_lists.proofs.Finding.{any_map, any_agree, any_enumerated, position-none, position-within}
use Rattle.mesh_defs.specs.declared.Poly.{Poly}
use Rattle.mesh_defs.specs.declared.Poly.TheVariants.{Vertex, Segment, Triangle, Quad, Tet, Hex}
use Rattle.mesh_defs.specs.Tables.{Facet, dim_of, corner_count, facets_of, edges_of}
use Rattle.mesh_defs.specs.Mesh.{Cell}
use Rattle.mesh_defs.specs.Points.{Point, shows, vertex_sight, cell_face, cell_faces, cell_edge, cell_edges, sights_of, contains}
use Rattle.input_defs.specs.Content.{Node, Element}
use Rattle.input_defs.specs.Meshes.{poly, vertex_of, cell_of}
use Rattle.input_laws.proofs.Sets.{number_at, position-back}
use Rattle.mesh_check.specs.element_points.Parts.{part, vertex_parts, face_parts, edge_parts, parts_of, is_on}
use Rattle.mesh_check.proofs.element_points.Images.{same_set-images}

-- ---- the tables

-- each place is below a bound
abbrev pub AreBelow : ℕ → List ℕ → Type 0
AreBelow n places = AllByRecursion (λ k. k < n) places

tested : (n : ℕ) (places : List ℕ) → list_all (λ k. nat_lt k n) places ≡ true → AreBelow n places
tested n places h = all_weaker (λ k. nat_lt k n ≡ true) (λ k. k < n) (λ k t. ltb-true k n t) places (each_passes (λ k. nat_lt k n) places h)

-- the corners of facets and edges are corners of the polytope
pub facets-below : (p : Poly) → AllByRecursion (λ (f : Facet). AreBelow (corner_count p) f.corners) (facets_of p)
facets-below p = all_weaker (λ (f : Facet). list_all (λ k. nat_lt k (corner_count p)) f.corners ≡ true) (λ (f : Facet). AreBelow (corner_count p) f.corners) (λ f h. tested (corner_count p) f.corners h) (facets_of p) (each_passes (λ (f : Facet). list_all (λ k. nat_lt k (corner_count p)) f.corners) (facets_of p) (table p))
  where
    table : (q : Poly) → list_all (λ (f : Facet). list_all (λ k. nat_lt k (corner_count q)) f.corners) (facets_of q) ≡ true
    table Vertex = refl
    table Segment = refl
    table Triangle = refl
    table Quad = refl
    table Tet = refl
    table Hex = refl

pub edges-below : (p : Poly) → AllByRecursion (AreBelow (corner_count p)) (edges_of p)
edges-below p = all_weaker (λ e. list_all (λ k. nat_lt k (corner_count p)) e ≡ true) (AreBelow (corner_count p)) (λ e h. tested (corner_count p) e h) (edges_of p) (each_passes (λ e. list_all (λ k. nat_lt k (corner_count p)) e) (edges_of p) (table p))
  where
    table : (q : Poly) → list_all (λ e. list_all (λ k. nat_lt k (corner_count q)) e) (edges_of q) ≡ true
    table Vertex = refl
    table Segment = refl
    table Triangle = refl
    table Quad = refl
    table Tet = refl
    table Hex = refl

picked-map : (f : ℕ → ℕ) (xs ks : List ℕ) → AreBelow (length xs) ks → picked (map f xs) ks ≡ map f (picked xs ks)
picked-map f xs [] h = refl
picked-map f xs (k ∷ ks) h = ap₂ (λ y ys. y ∷ ys) (get_or-map f xs k 0 0 h.0) (picked-map f xs ks h.1)

pub picked-all : (P : ℕ → Type 0) (xs ks : List ℕ) → AllByRecursion P xs → AreBelow (length xs) ks → AllByRecursion P (picked xs ks)
picked-all P xs [] all h = tt
picked-all P xs (k ∷ ks) all h = (all_at P xs k 0 all h.0, picked-all P xs ks all h.1)

-- ---- one sight

-- a node is a vertex
abbrev pub IsVertex : List Node → ℕ → Type 0
IsVertex vs n = list_any (λ (node : Node). node.number == n) vs ≡ true

-- a number with a position is that of the vertex there
vertex-back : (vs : List Node) (n : ℕ) → vertex_of vs n < length vs → number_at vs (vertex_of vs n) ≡ n
vertex-back vs n low = go (list_any (λ (node : Node). node.number == n) vs) refl
  where
    go : (b : Bool) → list_any (λ (node : Node). node.number == n) vs ≡ b → number_at vs (vertex_of vs n) ≡ n
    go true h = position-back vs n h
    go false h = let past = position-none (λ (node : Node). node.number == n) vs h in absurd (omega arith)

-- the point on some nodes, by the positions of vertices
abbrev pub point_at : List Node → ℕ → List ℕ → Point
point_at vs dim nodes = record { dim = dim; vertices = sorted (map (vertex_of vs) nodes) }

-- a sight of vertices shows the point just where it is on the same nodes
shown : (vs : List Node) (dim : ℕ) (nodes : List ℕ) (k : ℕ) (q : Poly) (own : List ℕ) → AllByRecursion (IsVertex vs) own
    → shows (point_at vs dim nodes) (record { key = k; poly = q; arrangement = map (vertex_of vs) own }) ≡ is_on dim nodes (part (dim_of q) own)
shown vs dim nodes k q own known = ap (λ t. (dim == dim_of q) && t)
    (same_set-images (vertex_of vs) (number_at vs) (λ v. v < length vs) nodes own (vertex-back vs) (all_weaker (λ n. list_any (λ (node : Node). node.number == n) vs ≡ true) (λ n. vertex_of vs n < length vs) (λ n h. position-within (λ (node : Node). node.number == n) vs h) own known))

-- ---- a cell

module _ (vs : List Node) (e : Element) (known : AllByRecursion (IsVertex vs) e.nodes) (corners : length e.nodes ≡ corner_count (poly e)) (dim : ℕ) (nodes : List ℕ) where
  abbrev p : Point
  p = point_at vs dim nodes

  abbrev cell : Cell
  cell = cell_of vs e

  -- the vertices at some corners
  at-corners : (k : ℕ) (q : Poly) (places : List ℕ) → AreBelow (corner_count (poly e)) places
      → shows p (record { key = k; poly = q; arrangement = picked (map (vertex_of vs) e.nodes) places }) ≡ is_on dim nodes (part (dim_of q) (picked e.nodes places))
  at-corners k q places low =
      let within : AreBelow (length e.nodes) places = subst (λ n. AreBelow n places) (sym corners) low in
      ap (λ own. shows p (record { key = k; poly = q; arrangement = own })) (picked-map (vertex_of vs) e.nodes places within) ∙ shown vs dim nodes k q (picked e.nodes places) (picked-all (IsVertex vs) e.nodes places known within)

  vertices : list_any (shows p) (map vertex_sight (map (vertex_of vs) e.nodes)) ≡ list_any (is_on dim nodes) (vertex_parts e.nodes)
  vertices = any_map (shows p) vertex_sight (map (vertex_of vs) e.nodes) ∙ any_map (λ v. shows p (vertex_sight v)) (vertex_of vs) e.nodes
      ∙ any_agree (λ n. shows p (vertex_sight (vertex_of vs n))) (λ n. is_on dim nodes (part 0 (n ∷ []))) e.nodes (all_weaker (IsVertex vs) (λ n. shows p (vertex_sight (vertex_of vs n)) ≡ is_on dim nodes (part 0 (n ∷ []))) (λ n h. shown vs dim nodes (vertex_of vs n) Vertex (n ∷ []) (h, tt)) e.nodes known)
      ∙ sym (any_map (is_on dim nodes) (λ n. part 0 (n ∷ [])) e.nodes)

  faces : list_any (shows p) (cell_faces 0 cell) ≡ list_any (is_on dim nodes) (face_parts (poly e) e.nodes)
  faces = go (dim_of (poly e) == 3)
    where
      go : (b : Bool) → list_any (shows p) (cond b (map (cell_face 0 cell) (enumerate_from 0 (facets_of (poly e)))) []) ≡ list_any (is_on dim nodes) (cond b (map (λ (f : Facet). part (dim_of f.poly) (picked e.nodes f.corners)) (facets_of (poly e))) [])
      go false = refl
      go true = any_map (shows p) (cell_face 0 cell) (enumerate_from 0 (facets_of (poly e)))
          ∙ any_enumerated (λ (f : Facet). shows p (record { key = 0; poly = f.poly; arrangement = picked (map (vertex_of vs) e.nodes) f.corners })) 0 (facets_of (poly e))
          ∙ any_agree (λ (f : Facet). shows p (record { key = 0; poly = f.poly; arrangement = picked (map (vertex_of vs) e.nodes) f.corners })) (λ (f : Facet). is_on dim nodes (part (dim_of f.poly) (picked e.nodes f.corners))) (facets_of (poly e))
          (all_weaker (λ (f : Facet). AreBelow (corner_count (poly e)) f.corners) (λ (f : Facet). shows p (record { key = 0; poly = f.poly; arrangement = picked (map (vertex_of vs) e.nodes) f.corners }) ≡ is_on dim nodes (part (dim_of f.poly) (picked e.nodes f.corners))) (λ f low. at-corners 0 f.poly f.corners low) (facets_of (poly e)) (facets-below (poly e)))
          ∙ sym (any_map (is_on dim nodes) (λ (f : Facet). part (dim_of f.poly) (picked e.nodes f.corners)) (facets_of (poly e)))

  edges : list_any (shows p) (cell_edges 0 cell) ≡ list_any (is_on dim nodes) (edge_parts (poly e) e.nodes)
  edges = any_map (shows p) (cell_edge 0 cell) (enumerate_from 0 (edges_of (poly e)))
      ∙ any_enumerated (λ (x : List ℕ). shows p (record { key = 0; poly = Segment; arrangement = picked (map (vertex_of vs) e.nodes) x })) 0 (edges_of (poly e))
      ∙ any_agree (λ (x : List ℕ). shows p (record { key = 0; poly = Segment; arrangement = picked (map (vertex_of vs) e.nodes) x })) (λ (x : List ℕ). is_on dim nodes (part 1 (picked e.nodes x))) (edges_of (poly e))
      (all_weaker (AreBelow (corner_count (poly e))) (λ (x : List ℕ). shows p (record { key = 0; poly = Segment; arrangement = picked (map (vertex_of vs) e.nodes) x }) ≡ is_on dim nodes (part 1 (picked e.nodes x))) (λ x low. at-corners 0 Segment x low) (edges_of (poly e)) (edges-below (poly e)))
      ∙ sym (any_map (is_on dim nodes) (λ (x : List ℕ). part 1 (picked e.nodes x)) (edges_of (poly e)))

  -- the cell contains the point on some nodes just where one of its parts is on these nodes
  pub contained : contains cell p ≡ list_any (is_on dim nodes) (parts_of (poly e) e.nodes)
  unfolding contains sights_of parts_of
  contained = list_any-append (shows p) (map vertex_sight cell.vertices) (sights_of (0, cell))
      ∙ ap₂ (λ a b. a || b) vertices (ap₂ (λ a b. a || b) (shown vs dim nodes 0 (poly e) e.nodes known) (list_any-append (shows p) (cell_faces 0 cell) (cell_edges 0 cell) ∙ ap₂ (λ a b. a || b) faces edges ∙ sym (list_any-append (is_on dim nodes) (face_parts (poly e) e.nodes) (edge_parts (poly e) e.nodes))))
      ∙ sym (list_any-append (is_on dim nodes) (vertex_parts e.nodes) (part (dim_of (poly e)) e.nodes ∷ (face_parts (poly e) e.nodes ++ edge_parts (poly e) e.nodes)))
