-- What a cell contains, it contains with its facets.
use Rattle.std.proofs.Common.{◌≡◌, ℕ, zero, suc, ◌+◌, ◌*◌, ◌<◌, true, ◌&&◌, ◌==◌, nat_lt, List, [], ◌∷◌, map, length, get_or, slice_index, refl, sym, ◌∙◌, subst, subst₂, ⊎_elim, arith}
use Rattle.std.specs.List.{list_any, list_all, AllByRecursion, enumerate_from}
use Rattle.std.proofs.lemmas.Bool.{and_parts, ltb-true, eqb-true, eq-eqb, or_left, or_right}
use Rattle.std.proofs.lemmas.List.{get_or-map}
use Rattle.std.proofs.lemmas.List.Folds.{list_any-append}
use Rattle.mesh_defs.specs.declared.Poly.{Poly}
use Rattle.mesh_defs.specs.declared.Poly.TheVariants.{Vertex, Segment}
use Rattle.plain_lists.specs.Lists.{picked}
use Rattle.plain_lists.proofs.Each.{all_at, all_weaker, all_enumerated, each_passes}
use Rattle.plain_lists.proofs.Below.{picked-picked}
use Rattle.mesh_defs.specs.Tables.{Facet, dim_of, corner_count, facets_of, edges_of}
use Rattle.mesh_defs.specs.Mesh.{Mesh, Cell}
use Rattle.mesh_defs.specs.Points.{Point, Sight, point_on, point_of, shows, sights_of, vertex_sight, contains, cell_face, cell_edge}
use Rattle.mesh_laws.proofs.Firsts.{shown_itself}
use Rattle.mesh_laws.proofs.Containing.{sights_of-any_place, vertex-contained, all_sights_of, all_faces_of}
use Rattle.mesh_defs.specs.RightMesh.{IsFlatOrSolid, IsSoundCell}
use Rattle.mesh_defs.proofs.RightMeshes.{are_corners}
use Rattle.rank_laws.proofs.Shapes.{is_pair, is_edge_of, is_side_of, is_face_of, edges-are_pairs, sides-are_edges, facets-are_faces}
use Rattle.rank_laws.proofs.Found.{two-entries, poly-one, edge-there}
use Rattle.rank_laws.proofs.TurnedEdges.{pair-below}

-- an entry of a list stands in it
entry-among : (vs : List ℕ) (k : ℕ) → k < length vs → list_any (λ w. w == slice_index vs k) vs ≡ true
entry-among [] k h = absurd (omega arith)
entry-among (v ∷ vs) zero h = or_left (v == v) (list_any (λ w. w == v) vs) (eq-eqb v v refl)
entry-among (v ∷ vs) (suc k) h = or_right (v == slice_index vs k) (list_any (λ w. w == slice_index vs k) vs) (entry-among vs k (omega arith))

-- what all sights of a solid cell have but for their keys, its faces have
pub faces-have : (P : Poly → List ℕ → Type 0) (c : ℕ) (cell : Cell) → dim_of cell.poly ≡ 3 → AllByRecursion (λ (s : Sight). P s.poly s.arrangement) (sights_of (c, cell)) → AllByRecursion (λ (f : Facet). P f.poly (picked cell.vertices f.corners)) (facets_of cell.poly)
faces-have P c cell solid h = without-keys 0 (facets_of cell.poly) (all_faces_of (λ (s : Sight). P s.poly s.arrangement) c cell solid h)
  where
    without-keys : (n : ℕ) (fs : List Facet) → AllByRecursion (λ (f : ℕ × Facet). P f.1.poly (picked cell.vertices f.1.corners)) (enumerate_from n fs) → AllByRecursion (λ (f : Facet). P f.poly (picked cell.vertices f.corners)) fs
    without-keys n [] x = tt
    without-keys n (f ∷ fs) x = (x.0, without-keys (n + 1) fs x.1)

-- Of the sights of a cell: itself, faces where it is solid, and edges.
pub all-of_sights : (P : Sight → Type 0) (c : ℕ) (cell : Cell) → P (record { key = 64 * c; poly = cell.poly; arrangement = cell.vertices })
    → (dim_of cell.poly ≡ 3 → (k : ℕ) → AllByRecursion (λ (f : Facet). (k : ℕ) → P (record { key = k; poly = f.poly; arrangement = picked cell.vertices f.corners })) (facets_of cell.poly))
    → AllByRecursion (λ (e : List ℕ). (k : ℕ) → P (record { key = k; poly = Segment; arrangement = picked cell.vertices e })) (edges_of cell.poly) → AllByRecursion P (sights_of (c, cell))
all-of_sights P c cell own faces edges = all_sights_of P c cell own
    (λ solid. all_weaker (λ (f : ℕ × Facet). (k : ℕ) → P (record { key = k; poly = f.1.poly; arrangement = picked cell.vertices f.1.corners })) (λ f. P (cell_face c cell f)) (λ f g. g (64 * c + 1 + f.0)) (enumerate_from 0 (facets_of cell.poly))
    (all_enumerated (λ (f : Facet). (k : ℕ) → P (record { key = k; poly = f.poly; arrangement = picked cell.vertices f.corners })) 0 (facets_of cell.poly) (faces solid 0)))
    (all_weaker (λ (e : ℕ × List ℕ). (k : ℕ) → P (record { key = k; poly = Segment; arrangement = picked cell.vertices e.1 })) (λ e. P (cell_edge c cell e)) (λ e f. f (64 * c + 8 + e.0)) (enumerate_from 0 (edges_of cell.poly))
    (all_enumerated (λ e. (k : ℕ) → P (record { key = k; poly = Segment; arrangement = picked cell.vertices e })) 0 (edges_of cell.poly) edges))

module _ (m : Mesh) (dims : IsFlatOrSolid m) (c : ℕ) (cell : Cell) (good : IsSoundCell m cell) where
  -- what the cell sees, it contains
  seen-contained : (p : Point) → list_any (shows p) (sights_of (c, cell)) ≡ true → contains cell p ≡ true
  unfolding contains
  seen-contained p h = list_any-append (shows p) (map vertex_sight cell.vertices) (sights_of (0, cell)) ∙ or_right (list_any (shows p) (map vertex_sight cell.vertices)) _ (sights_of-any_place p 0 c cell ∙ h)

  -- a side of the cell is contained in it
  side-contained : (poly : Poly) (e : List ℕ) → is_side_of cell.poly (record { poly = poly; corners = e }) ≡ true → contains cell (point_on poly (picked cell.vertices e)) ≡ true
  side-contained poly e h =
      let parts = and_parts (dim_of poly == 1) (is_pair (corner_count cell.poly) e && is_edge_of cell.poly e) h in
      let both = and_parts (is_pair (corner_count cell.poly) e) (is_edge_of cell.poly e) parts.1 in
      let two = two-entries e (eqb-true (length e) 2 (and_parts (length e == 2) (are_corners (corner_count cell.poly) e) both.0).0) in
      let segment = poly-one poly (eqb-true (dim_of poly) 1 parts.0) in
      subst₂ (λ p l. contains cell (point_on p (picked cell.vertices l)) ≡ true) (sym segment) (sym two)
      (seen-contained (point_on Segment (picked cell.vertices (slice_index e 0 ∷ slice_index e 1 ∷ []))) (edge-there c cell (slice_index e 0) (slice_index e 1) (subst (λ l. is_edge_of cell.poly l ≡ true) two both.1)))

  -- each facet of a sight is contained in the cell
  abbrev pub Keeps : Sight → Type 0
  Keeps s = AllByRecursion (λ (f : Facet). contains cell (point_on f.poly (picked s.arrangement f.corners)) ≡ true) (facets_of s.poly)

  -- the ends of an edge
  edge-keeps : (e : List ℕ) → is_pair (corner_count cell.poly) e ≡ true → (k : ℕ) → Keeps (record { key = k; poly = Segment; arrangement = picked cell.vertices e })
  edge-keeps e h k = (end 0 (omega arith), (end 1 (omega arith), tt))
    where
      end : (i : ℕ) → i < 2 → contains cell (point_on Vertex (slice_index (picked cell.vertices e) i ∷ [])) ≡ true
      end i low =
          let pair = and_parts (length e == 2) (are_corners (corner_count cell.poly) e) h in
          let long : i < length e = omega (arith, eqb-true (length e) 2 pair.0) in
          let corner = ltb-true (slice_index e i) (corner_count cell.poly) (all_at (λ i. nat_lt i (corner_count cell.poly) ≡ true) e i 0 (each_passes (λ i. nat_lt i (corner_count cell.poly)) e (and_parts (list_all (λ i. nat_lt i (corner_count cell.poly)) e) _ pair.1).0) long) in
          subst (λ v. contains cell (point_on Vertex (v ∷ [])) ≡ true) (sym (get_or-map (λ k. get_or cell.vertices k 0) e i 0 0 long))
          (vertex-contained (slice_index cell.vertices (slice_index e i)) cell (entry-among cell.vertices (slice_index e i) (omega (arith, good.corners))))

  -- the sides of a face
  face-keeps : (f : Facet) → is_face_of cell.poly f ≡ true → (k : ℕ) → Keeps (record { key = k; poly = f.poly; arrangement = picked cell.vertices f.corners })
  face-keeps f h k = all_weaker (λ (e : Facet). (is_pair (length f.corners) e.corners && is_side_of cell.poly (record { poly = e.poly; corners = picked f.corners e.corners })) ≡ true) (λ (e : Facet). contains cell (point_on e.poly (picked (picked cell.vertices f.corners) e.corners)) ≡ true) side (facets_of f.poly)
      (each_passes (λ (e : Facet). is_pair (length f.corners) e.corners && is_side_of cell.poly (record { poly = e.poly; corners = picked f.corners e.corners })) (facets_of f.poly) (and_parts (are_corners (corner_count cell.poly) f.corners) _ (and_parts _ _ h).1).1)
    where
      side : (e : Facet) → (is_pair (length f.corners) e.corners && is_side_of cell.poly (record { poly = e.poly; corners = picked f.corners e.corners })) ≡ true → contains cell (point_on e.poly (picked (picked cell.vertices f.corners) e.corners)) ≡ true
      side e x =
          let both = and_parts (is_pair (length f.corners) e.corners) (is_side_of cell.poly (record { poly = e.poly; corners = picked f.corners e.corners })) x in
          subst (λ l. contains cell (point_on e.poly l) ≡ true) (sym (picked-picked cell.vertices f.corners e.corners (pair-below (length f.corners) e.corners both.0))) (side-contained e.poly (picked f.corners e.corners) both.1)

  -- the facets of the cell
  pub cell-keeps : AllByRecursion (λ (f : Facet). contains cell (point_on f.poly (picked cell.vertices f.corners)) ≡ true) (facets_of cell.poly)
  cell-keeps = ⊎_elim
      (λ flat. all_weaker (λ f. is_side_of cell.poly f ≡ true) (λ (f : Facet). contains cell (point_on f.poly (picked cell.vertices f.corners)) ≡ true) (λ f h. side-contained f.poly f.corners h) (facets_of cell.poly) (each_passes (is_side_of cell.poly) (facets_of cell.poly) (sides-are_edges cell.poly (good.dim ∙ flat))))
      (λ solid. faces-have (λ poly vs. contains cell (point_on poly vs) ≡ true) c cell (good.dim ∙ solid) (all_weaker (λ s. list_any (shows (point_of s)) (sights_of (c, cell)) ≡ true) (λ s. contains cell (point_of s) ≡ true) (λ s h. seen-contained (point_of s) h) (sights_of (c, cell)) (shown_itself (sights_of (c, cell)))))
      dims

  -- all sights of the cell
  pub sights-keep : AllByRecursion Keeps (sights_of (c, cell))
  sights-keep = all-of_sights Keeps c cell cell-keeps
      (λ solid k. all_weaker (λ f. is_face_of cell.poly f ≡ true) (λ (f : Facet). (k : ℕ) → Keeps (record { key = k; poly = f.poly; arrangement = picked cell.vertices f.corners })) face-keeps (facets_of cell.poly) (each_passes (is_face_of cell.poly) (facets_of cell.poly) (facets-are_faces cell.poly solid)))
      (all_weaker (λ e. is_pair (corner_count cell.poly) e ≡ true) (λ (e : List ℕ). (k : ℕ) → Keeps (record { key = k; poly = Segment; arrangement = picked cell.vertices e })) edge-keeps (edges_of cell.poly) (each_passes (is_pair (corner_count cell.poly)) (edges_of cell.poly) (edges-are_pairs cell.poly)))
