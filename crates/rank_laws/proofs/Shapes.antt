-- The sights of sound cells: as many different vertices as corners, and facets that are points of the mesh.
use Rattle.std.proofs.Common.{◌≡◌, ◌≢◌, ℕ, ◌+◌, ◌*◌, ◌<◌, ◌≤◌, Bool, true, false, cond, not, ◌&&◌, ◌||◌, ◌==◌, nat_lt, if◌then◌else◌, List, [], ◌∷◌, ◌++◌, length, get_or, slice_index, refl, sym, ◌∙◌, subst, ⊎_elim, arith}
use Rattle.std.specs.List.{list_any, list_all, AllByRecursion, filter, enumerate_from}
use Rattle.std.proofs.lemmas.Bool.{and_parts, eqb-true, eq-eqb, ltb-true, not-true, both_ways, cases_lt}
use Rattle.std.proofs.lemmas.List.{length-map, get_or-map}
use Rattle.mesh_defs.specs.declared.Poly.{Poly}
use Rattle.mesh_defs.specs.declared.Poly.TheVariants.{Vertex, Segment, Triangle, Quad, Tet, Hex}
use Rattle.plain_lists.specs.Lists.{below, same_list, picked}
use Rattle.plain_lists.proofs.Each.{all_weaker, all_from, all_append, all_map, all_filter, all_flat_map, all_enumerated, all_at, each_passes}
use Rattle.plain_lists.proofs.Below.{passes-below}
use Rattle.mesh_defs.specs.Tables.{Facet, dim_of, corner_count, facets_of, edges_of}
use Rattle.mesh_defs.specs.Mesh.{Mesh, Cell, placed_cells}
use Rattle.mesh_defs.specs.Points.{Sight, sights_of, sights, vertex_sight, vertex_sights, cell_face, cell_edge}
use Rattle.mesh_defs.specs.Diagram.{firsts, stratum, strata}
use Rattle.mesh_laws.proofs.Firsts.{firsts-all}
use Rattle.mesh_laws.proofs.Containing.{all_sights_of}
use Rattle.mesh_defs.specs.RightMesh.{IsSoundCell, IsSoundMesh}
use Rattle.mesh_defs.proofs.RightMeshes.{are_corners}

-- ---- the tables

-- these corners or the same the other way round are an edge
abbrev pub is_edge_of : Poly → List ℕ → Bool
is_edge_of p e = list_any (λ f. same_list f e || same_list f (get_or e 1 0 ∷ get_or e 0 0 ∷ [])) (edges_of p)

-- two different corners below n
abbrev pub is_pair : ℕ → List ℕ → Bool
is_pair n e = (length e == 2) && are_corners n e

-- an edge of a polygon or solid, as a facet of it or of a face
abbrev pub is_side_of : Poly → Facet → Bool
is_side_of p e = (dim_of e.poly == 1) && (is_pair (corner_count p) e.corners && is_edge_of p e.corners)

-- a face of a solid: a polygon on different corners, whose edges are edges of the solid
abbrev pub is_face_of : Poly → Facet → Bool
is_face_of p f =
    ((length f.corners == corner_count f.poly) && (dim_of f.poly == 2))
    && (are_corners (corner_count p) f.corners && list_all (λ (e : Facet). is_pair (length f.corners) e.corners && is_side_of p (record { poly = e.poly; corners = picked f.corners e.corners })) (facets_of f.poly))

-- the edges of every polytope are pairs of corners
pub edges-are_pairs : (p : Poly) → list_all (is_pair (corner_count p)) (edges_of p) ≡ true
edges-are_pairs Vertex = refl
edges-are_pairs Segment = refl
edges-are_pairs Triangle = refl
edges-are_pairs Quad = refl
edges-are_pairs Tet = refl
edges-are_pairs Hex = refl

-- the facets of a polygon are its edges
pub sides-are_edges : (p : Poly) → dim_of p ≡ 2 → list_all (is_side_of p) (facets_of p) ≡ true
sides-are_edges Vertex e = absurd (omega arith)
sides-are_edges Segment e = absurd (omega arith)
sides-are_edges Triangle e = refl
sides-are_edges Quad e = refl
sides-are_edges Tet e = absurd (omega arith)
sides-are_edges Hex e = absurd (omega arith)

-- the facets of a solid are such faces
pub facets-are_faces : (p : Poly) → dim_of p ≡ 3 → list_all (is_face_of p) (facets_of p) ≡ true
facets-are_faces Vertex e = absurd (omega arith)
facets-are_faces Segment e = absurd (omega arith)
facets-are_faces Triangle e = absurd (omega arith)
facets-are_faces Quad e = absurd (omega arith)
facets-are_faces Tet e = refl
facets-are_faces Hex e = refl

-- ---- shapes

-- as many vertices as corners, all different
pub record HasShape (s : Sight) : Type 0 where
  pub corners : length s.arrangement ≡ corner_count s.poly
  pub different : (i j : ℕ) → i < j → j < length s.arrangement → slice_index s.arrangement i ≢ slice_index s.arrangement j

-- different vertices at different places, in whichever order
apart : (vs : List ℕ) → ((i j : ℕ) → i < j → j < length vs → slice_index vs i ≢ slice_index vs j) → (i j : ℕ) → i < length vs → j < length vs → i ≢ j → slice_index vs i ≢ slice_index vs j
apart vs d i j p q ne same = ⊎_elim (λ (lt : i < j). d i j lt q same) (λ (ge : j ≤ i). ⊎_elim (λ (lt : j < i). d j i lt p (sym same)) (λ (le : i ≤ j). ne (omega arith)) (cases_lt j i)) (cases_lt i j)

-- chosen vertices at different corners differ
pub picked-differ : (vs cs : List ℕ) → ((i j : ℕ) → i < j → j < length vs → slice_index vs i ≢ slice_index vs j) → are_corners (length vs) cs ≡ true → (i j : ℕ) → i < j → j < length (picked vs cs) → slice_index (picked vs cs) i ≢ slice_index (picked vs cs) j
picked-differ vs cs d h i j low high same =
    let both = and_parts (list_all (λ c. nat_lt c (length vs)) cs) (list_all (λ k. list_all (λ l. not (get_or cs l 0 == get_or cs k 0)) (below k)) (below (length cs))) h in
    let long = length-map cs (λ k. get_or vs k 0) in
    let corner : AllByRecursion (λ c. c < length vs) cs = all_weaker (λ c. nat_lt c (length vs) ≡ true) (λ c. c < length vs) (λ c e. ltb-true c (length vs) e) cs (each_passes (λ c. nat_lt c (length vs)) cs both.0) in
    apart vs d (get_or cs i 0) (get_or cs j 0) (all_at (λ c. c < length vs) cs i 0 corner (omega arith)) (all_at (λ c. c < length vs) cs j 0 corner (omega arith))
    (λ e. both_ways _ (not-true _ (passes-below (λ l. not (get_or cs l 0 == get_or cs j 0)) j i (passes-below (λ k. list_all (λ l. not (get_or cs l 0 == get_or cs k 0)) (below k)) (length cs) j both.1 (omega arith)) low)) (eq-eqb _ _ e))
    (sym (get_or-map (λ k. get_or vs k 0) cs i 0 0 (omega arith)) ∙ same ∙ get_or-map (λ k. get_or vs k 0) cs j 0 0 (omega arith))

-- chosen vertices have a shape where they are as many as the corners of a polytope
pub picked-shape : (vs cs : List ℕ) (k : ℕ) (p : Poly) → ((i j : ℕ) → i < j → j < length vs → slice_index vs i ≢ slice_index vs j) → length cs ≡ corner_count p → are_corners (length vs) cs ≡ true → HasShape (record { key = k; poly = p; arrangement = picked vs cs })
picked-shape vs cs k p d n h = record { corners = length-map cs (λ i. get_or vs i 0) ∙ n; different = picked-differ vs cs d h }

-- all sights of a sound cell have one
module _ (m : Mesh) (c : ℕ) (cell : Cell) (sound : IsSoundCell m cell) where
  edge-shape : (e : ℕ × List ℕ) → is_pair (corner_count cell.poly) e.1 ≡ true → HasShape (cell_edge c cell e)
  edge-shape e h = let both = and_parts (length e.1 == 2) (are_corners (corner_count cell.poly) e.1) h in
      picked-shape cell.vertices e.1 (64 * c + 8 + e.0) Segment sound.different (eqb-true (length e.1) 2 both.0) (subst (λ n. are_corners n e.1 ≡ true) (sym sound.corners) both.1)

  face-shape : (f : ℕ × Facet) → is_face_of cell.poly f.1 ≡ true → HasShape (cell_face c cell f)
  face-shape f h =
      let both = and_parts _ _ h in
      let sizes = and_parts _ _ both.0 in
      let corners = and_parts _ _ both.1 in
      picked-shape cell.vertices f.1.corners (64 * c + 1 + f.0) f.1.poly sound.different (eqb-true (length f.1.corners) (corner_count f.1.poly) sizes.0) (subst (λ n. are_corners n f.1.corners ≡ true) (sym sound.corners) corners.0)

  pub sights_of-shape : AllByRecursion HasShape (sights_of (c, cell))
  sights_of-shape = all_sights_of HasShape c cell (record { corners = sound.corners; different = sound.different })
      (λ solid. all_weaker (λ (f : ℕ × Facet). is_face_of cell.poly f.1 ≡ true) (λ f. HasShape (cell_face c cell f)) face-shape (enumerate_from 0 (facets_of cell.poly)) (all_enumerated (λ f. is_face_of cell.poly f ≡ true) 0 (facets_of cell.poly) (each_passes (is_face_of cell.poly) (facets_of cell.poly) (facets-are_faces cell.poly solid))))
      (all_weaker (λ (e : ℕ × List ℕ). is_pair (corner_count cell.poly) e.1 ≡ true) (λ e. HasShape (cell_edge c cell e)) edge-shape (enumerate_from 0 (edges_of cell.poly)) (all_enumerated (λ e. is_pair (corner_count cell.poly) e ≡ true) 0 (edges_of cell.poly) (each_passes (is_pair (corner_count cell.poly)) (edges_of cell.poly) (edges-are_pairs cell.poly))))

-- what vertices and all sights of cells have, all points of the mesh have
pub all-of_strata : (P : Sight → Type 0) (m : Mesh) → AllByRecursion P (vertex_sights m) → AllByRecursion P (sights (placed_cells m)) → AllByRecursion P (strata m)
unfolding strata stratum
all-of_strata P m v s = all_append P (level m.dim ++ level 0 ++ faces (m.dim == 3)) (level 1) (all_append P (level m.dim ++ level 0) (faces (m.dim == 3)) (all_append P (level m.dim) (level 0) (of_level m.dim) (of_level 0)) (of_faces (m.dim == 3))) (of_level 1)
  where
    seen : ℕ → List Sight
    seen dim = filter (λ t. dim_of t.poly == dim) (sights (placed_cells m))

    level : ℕ → List Sight
    level dim = if dim == 0 then vertex_sights m else firsts (seen dim)

    of_level : (dim : ℕ) → AllByRecursion P (level dim)
    of_level dim = go (dim == 0)
      where
        go : (b : Bool) → AllByRecursion P (cond b (vertex_sights m) (firsts (seen dim)))
        go true = v
        go false = firsts-all P (seen dim) (all_filter P (λ t. dim_of t.poly == dim) (sights (placed_cells m)) s)

    faces : Bool → List Sight
    faces b = cond b (level 2) []

    of_faces : (b : Bool) → AllByRecursion P (faces b)
    of_faces true = of_level 2
    of_faces false = tt

-- what all sights of each sound cell have, all sights of the mesh have
pub all-of_cells : (P : Sight → Type 0) (m : Mesh) → AllByRecursion (λ c. AllByRecursion P (sights_of c)) (placed_cells m) → AllByRecursion P (sights (placed_cells m))
all-of_cells P m h = all_flat_map P sights_of (placed_cells m) h

-- a vertex has a shape
vertex-shape : (v : ℕ) → HasShape (vertex_sight v)
vertex-shape v = record { corners = refl; different = λ i j low high. absurd (omega arith) }

-- all points of a sound mesh have one
pub strata-shape : (m : Mesh) → IsSoundMesh m → AllByRecursion HasShape (strata m)
strata-shape m sound = all-of_strata HasShape m (all_map HasShape vertex_sight (below (length m.at)) (all_from _ vertex-shape (below (length m.at))))
    (all-of_cells HasShape m (all_weaker (λ (c : ℕ × Cell). IsSoundCell m c.1) (λ c. AllByRecursion HasShape (sights_of c)) (λ c s. sights_of-shape m c.0 c.1 s) (placed_cells m) (all_enumerated (IsSoundCell m) 0 m.cells sound.cells)))
