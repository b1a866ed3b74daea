-- The facets of every point of an accepted mesh are points of the mesh, seen under some orientation.
use Rattle.std.proofs.Common.{◌≡◌, ◌≢◌, ℕ, ◌+◌, ◌*◌, ◌<◌, Bool, true, false, cond, ◌&&◌, ◌==◌, nat_lt, List, [], ◌∷◌, length, get_or, slice_index, pos, negsuc, Option, Some, None, refl, sym, ap, ◌∙◌, subst, inl, inr, ⊎_elim, arith}
use Rattle.std.specs.Prelude.{find, option_map, option_and_then, is_none}
use Rattle.std.specs.List.{list_any, list_all, AllByRecursion, filter, enumerate_from}
use Rattle.std.specs.Cmp.Lexicographic.{same_text}
use Rattle.std.proofs.lemmas.Bool.{and_parts, and_from, ltb-true, eqb-true, eq-eqb, or_left, or_right, or_cases, both_ways}
use Rattle.std.proofs.lemmas.List.{length-map, get_or-map}
use Rattle.std.proofs.lemmas.List.Folds.{list_any-append}
use Rattle.mesh_defs.specs.declared.Poly.{Poly}
use Rattle.mesh_defs.specs.declared.Poly.TheVariants.{Vertex, Segment}
use Rattle.plain_lists.specs.Lists.{below, same_list, sorted, picked}
use Rattle.plain_lists.proofs.Finding.{each_fails, stands, find-cases, find-has, found-any}
use Rattle.plain_lists.proofs.Each.{all_in_flat_map, all_weaker, all_both, all_from, all_map, all_enumerated, all_at, each_passes}
use Rattle.plain_lists.proofs.Below.{picked-picked}
use Rattle.mesh_defs.specs.Tables.{Facet, dim_of, corner_count, facets_of, edges_of}
use Rattle.mesh_defs.specs.Orientation.{relative}
use Rattle.mesh_defs.specs.Mesh.{Mesh, Cell, placed_cells}
use Rattle.mesh_defs.specs.Points.{Point, Sight, point_on, point_of, shows, sights_of, sights, vertex_sight, vertex_sights, arrangement, cell_face, cell_edge}
use Rattle.mesh_defs.specs.Diagram.{stratum, strata, seen_under, twist_key, IsAccepted}
use Rattle.mesh_laws.proofs.Firsts.{shown_itself}
use Rattle.mesh_laws.proofs.Turns.{relative-vertex, sorted-one}
use Rattle.mesh_laws.proofs.Entries.{relative-edge}
use Rattle.mesh_laws.proofs.Vertices.{vertex_found}
use Rattle.mesh_laws.proofs.Containing.{all_sights_of, all_faces_of}
use Rattle.mesh_defs.specs.RightMesh.{IsFlatOrSolid, IsSoundCell, IsSoundMesh}
use Rattle.rank_laws.proofs.Found.{IsSeen, shown-in_strata, shown-in_stratum, found-first, one-entry, two-entries, poly-zero, poly-one, poly-told, length-sorted, edge-there}
use Rattle.mesh_defs.proofs.RightMeshes.{are_corners}
use Rattle.rank_laws.proofs.Shapes.{HasShape, is_pair, is_edge_of, is_side_of, is_face_of, edges-are_pairs, sides-are_edges, facets-are_faces, picked-differ, picked-shape, strata-shape, all-of_strata, all-of_cells}

-- ---- facets that are seen

-- the vertices show each vertex
vertex-shown : (m : Mesh) (v : ℕ) → v < length m.at → list_any (shows (point_on Vertex (v ∷ []))) (stratum m 0) ≡ true
unfolding stratum
vertex-shown m v low = found-any (shows (point_of (vertex_sight v))) (vertex_sights m) (vertex_sight v) (vertex_found (length m.at) v low)

module _ (m : Mesh) (sound : IsSoundMesh m) where
  -- a sight that is found for a facet has a shape, the facet's dimension and vertices
  shape-of : (p : Point) (t : Sight) → find (shows p) (strata m) ≡ Some t → HasShape t
  shape-of p t e = find-has HasShape (shows p) (strata m) t (strata-shape m sound) e

  -- a vertex of the mesh is seen
  vertex-seen : (v : ℕ) → v < length m.at → IsSeen m Vertex (v ∷ [])
  unfolding seen_under
  vertex-seen v low = from (found-first m q (shown-in_strata m q 0 refl shown (inr (inl refl))))
    where
      q : Point
      q = point_on Vertex (v ∷ [])

      shown : list_any (shows q) (stratum m 0) ≡ true
      shown = vertex-shown m v low

      from : (t : Sight) × (find (shows q) (strata m) ≡ Some t) × (shows q t ≡ true) × (arrangement m q ≡ Some t.arrangement) → IsSeen m Vertex (v ∷ [])
      from (t, found, shows-it, arranged) =
          let both = and_parts (0 == dim_of t.poly) (same_list (sorted (v ∷ [])) (sorted t.arrangement)) shows-it in
          let poly = poly-zero t.poly (sym (eqb-true 0 (dim_of t.poly) both.0)) in
          let one = one-entry t.arrangement ((shape-of q t found).corners ∙ ap corner_count poly) in
          let same : v ∷ [] ≡ slice_index t.arrangement 0 ∷ [] = sym (relative-sorted v) ∙ same_text (sorted (v ∷ [])) (sorted t.arrangement) (sym both.1) ∙ ap sorted one ∙ relative-sorted (slice_index t.arrangement 0) in
          record {
            point = t;
            turn = pos 0;
            found = found;
            same_poly = poly;
            arranged = arranged;
            under = ap (option_and_then (λ own. relative Vertex own (v ∷ []))) (arranged ∙ ap Some (one ∙ sym same)) ∙ relative-vertex v;
          }
        where
          relative-sorted : (x : ℕ) → sorted (x ∷ []) ≡ x ∷ []
          relative-sorted x = sorted-one x

  -- an edge that some cell sees is seen
  edge-seen : (a b : ℕ) → a ≢ b → list_any (shows (point_on Segment (a ∷ b ∷ []))) (sights (placed_cells m)) ≡ true → IsSeen m Segment (a ∷ b ∷ [])
  unfolding seen_under
  edge-seen a b ne h = from (found-first m q (shown-in_strata m q 1 refl (shown-in_stratum m q (λ e. absurd (omega arith)) h) (inr (inr (inl refl)))))
    where
      q : Point
      q = point_on Segment (a ∷ b ∷ [])

      from : (t : Sight) × (find (shows q) (strata m) ≡ Some t) × (shows q t ≡ true) × (arrangement m q ≡ Some t.arrangement) → IsSeen m Segment (a ∷ b ∷ [])
      from (t, found, shows-it, arranged) =
          let both = and_parts (1 == dim_of t.poly) (same_list (sorted (a ∷ b ∷ [])) (sorted t.arrangement)) shows-it in
          let poly = poly-one t.poly (sym (eqb-true 1 (dim_of t.poly) both.0)) in
          let shape = shape-of q t found in
          let long : length t.arrangement ≡ 2 = shape.corners ∙ ap corner_count poly in
          let two = two-entries t.arrangement long in
          let turned = relative-edge (slice_index t.arrangement 0) (slice_index t.arrangement 1) a b (shape.different 0 1 (omega arith) (omega arith)) (ap (λ l. same_list (sorted (a ∷ b ∷ [])) (sorted l)) (sym two) ∙ both.1) in
          record {
            point = t;
            turn = cond (slice_index t.arrangement 0 == a) (pos 0) (negsuc 0);
            found = found;
            same_poly = poly;
            arranged = arranged;
            under = ap (option_and_then (λ own. relative Segment own (a ∷ b ∷ []))) (arranged ∙ ap Some two) ∙ turned;
          }

  -- what some of a choice have, all of the list have where they are chosen
  of-chosen : {X : Type 0} (P : X → Type 0) (q : X → Bool) (xs : List X) → AllByRecursion P (filter q xs) → AllByRecursion (λ x. q x ≡ true → P x) xs
  of-chosen P q [] h = tt
  of-chosen P q (x ∷ xs) h = go (q x) refl h (of-chosen P q xs)
    where
      go : (b : Bool) → q x ≡ b → AllByRecursion P (cond b (x ∷ filter q xs) (filter q xs)) → (AllByRecursion P (filter q xs) → AllByRecursion (λ y. q y ≡ true → P y) xs) → AllByRecursion (λ y. q y ≡ true → P y) (x ∷ xs)
      go true e t r = ((λ y. t.0), r t.1)
      go false e t r = ((λ y. absurd (both_ways (q x) e y)), r t)

  -- an answer that is not none is some
  pub some-answer : {X : Type 0} (o : Option X) → is_none o ≡ false → (x : X) × (o ≡ Some x)
  some-answer None h = absurd (cc h)
  some-answer (Some x) h = (x, refl)

  module _ (accepted : IsAccepted m) where
    -- no cell of a solid mesh sees a face under no orientation
    pub untwisted : AllByRecursion (λ (s : Sight). ((m.dim == 3) && (dim_of s.poly == 2)) ≡ true → is_none (seen_under m s.poly s.arrangement) ≡ false) (sights (placed_cells m))
    unfolding twist_key
    untwisted = of-chosen (λ (s : Sight). is_none (seen_under m s.poly s.arrangement) ≡ false) (λ s. (m.dim == 3) && (dim_of s.poly == 2)) (sights (placed_cells m))
        (each_fails (λ (s : Sight). is_none (seen_under m s.poly s.arrangement)) faces (⊎_elim (λ (w : (s : Sight) × (find (λ (s : Sight). is_none (seen_under m s.poly s.arrangement)) faces ≡ Some s)). absurd (cc (sym accepted ∙ ap (option_map (λ (s : Sight). s.key)) w.1))) (λ none. none) (find-cases (λ (s : Sight). is_none (seen_under m s.poly s.arrangement)) faces)))
      where
        faces : List Sight
        faces = filter (λ s. (m.dim == 3) && (dim_of s.poly == 2)) (sights (placed_cells m))

    -- a face that some cell of a solid mesh sees is seen
    face-seen : (u : Sight) → dim_of u.poly ≡ 2 → m.dim ≡ 3 → HasShape u → list_any (shows (point_of u)) (sights (placed_cells m)) ≡ true → is_none (seen_under m u.poly u.arrangement) ≡ false → IsSeen m u.poly u.arrangement
    face-seen u flat solid shape h some = from (found-first m (point_of u) (shown-in_strata m (point_of u) 2 flat (ap (λ d. list_any (shows (point_of u)) (stratum m d)) (sym flat) ∙ shown-in_stratum m (point_of u) (λ e. absurd (omega (arith, flat))) h) (inr (inr (inr (refl, solid))))))
      where
        from : (t : Sight) × (find (shows (point_of u)) (strata m) ≡ Some t) × (shows (point_of u) t ≡ true) × (arrangement m (point_of u) ≡ Some t.arrangement) → IsSeen m u.poly u.arrangement
        from (t, found, shows-it, arranged) =
            let both = and_parts (dim_of u.poly == dim_of t.poly) (same_list (sorted u.arrangement) (sorted t.arrangement)) shows-it in
            let dims = eqb-true (dim_of u.poly) (dim_of t.poly) both.0 in
            let vertices = same_text (sorted u.arrangement) (sorted t.arrangement) (sym both.1) in
            let other = shape-of (point_of u) t found in
            let (turn, under) = some-answer (seen_under m u.poly u.arrangement) some in
            record {
              point = t;
              turn = turn;
              found = found;
              same_poly = poly-told t.poly u.poly (sym dims) (sym other.corners ∙ sym (length-sorted t.arrangement) ∙ ap length (sym vertices) ∙ length-sorted u.arrangement ∙ shape.corners);
              arranged = arranged;
              under = under;
            }

    -- each facet of a sight is seen
    abbrev pub Covers : Sight → Type 0
    Covers s = AllByRecursion (λ (f : Facet). IsSeen m f.poly (picked s.arrangement f.corners)) (facets_of s.poly)

    -- the facets of the sights of one cell
    module _ (c : ℕ) (cell : Cell) (good : IsSoundCell m cell) (there : (q : ℕ × Cell → Bool) → q (c, cell) ≡ true → list_any q (placed_cells m) ≡ true) where
      -- what a cell sees, the cells see
      seen-by : (p : Point) → list_any (shows p) (sights_of (c, cell)) ≡ true → list_any (shows p) (sights (placed_cells m)) ≡ true
      seen-by p h = joined (placed_cells m) (there (λ d. list_any (shows p) (sights_of d)) h)
        where
          joined : (cells : List (ℕ × Cell)) → list_any (λ d. list_any (shows p) (sights_of d)) cells ≡ true → list_any (shows p) (sights cells) ≡ true
          joined [] e = absurd (cc e)
          joined (d ∷ ds) e = list_any-append (shows p) (sights_of d) (sights ds) ∙ ⊎_elim (λ x. or_left _ _ x) (λ x. or_right (list_any (shows p) (sights_of d)) _ (joined ds x)) (or_cases (list_any (shows p) (sights_of d)) (list_any (λ d. list_any (shows p) (sights_of d)) ds) e)

      -- a corner is a vertex of the mesh
      corner-below : (k : ℕ) → k < length cell.vertices → slice_index cell.vertices k < length m.at
      corner-below k low = all_at (λ v. v < length m.at) cell.vertices k 0 good.in_range low

      -- a side of the cell is seen
      side-seen : (poly : Poly) (e : List ℕ) → is_side_of cell.poly (record { poly = poly; corners = e }) ≡ true → IsSeen m poly (picked cell.vertices e)
      side-seen poly e h =
          let parts = and_parts (dim_of poly == 1) (is_pair (corner_count cell.poly) e && is_edge_of cell.poly e) h in
          let both = and_parts (is_pair (corner_count cell.poly) e) (is_edge_of cell.poly e) parts.1 in
          let pair = and_parts (length e == 2) (are_corners (corner_count cell.poly) e) both.0 in
          let two : e ≡ slice_index e 0 ∷ slice_index e 1 ∷ [] = two-entries e (eqb-true (length e) 2 pair.0) in
          let segment : poly ≡ Segment = poly-one poly (eqb-true (dim_of poly) 1 parts.0) in
          let differ = picked-differ cell.vertices e good.different (subst (λ n. are_corners n e ≡ true) (sym good.corners) pair.1) 0 1 (omega arith) (omega (arith, length-map e (λ k. get_or cell.vertices k 0), eqb-true (length e) 2 pair.0)) in
          subst (λ p. IsSeen m p (picked cell.vertices e)) (sym segment)
          (subst (λ l. IsSeen m Segment (picked cell.vertices l)) (sym two)
          (edge-seen (slice_index cell.vertices (slice_index e 0)) (slice_index cell.vertices (slice_index e 1)) (subst (λ l. slice_index (picked cell.vertices l) 0 ≢ slice_index (picked cell.vertices l) 1) two differ)
          (seen-by (point_on Segment (picked cell.vertices (slice_index e 0 ∷ slice_index e 1 ∷ []))) (edge-there c cell (slice_index e 0) (slice_index e 1) (subst (λ l. is_edge_of cell.poly l ≡ true) two both.1)))))

      -- the ends of an edge of the cell are seen
      edge-covers : (k : ℕ) (e : List ℕ) → is_pair (corner_count cell.poly) e ≡ true → Covers (record { key = k; poly = Segment; arrangement = picked cell.vertices e })
      edge-covers k e h = (vertex-seen (slice_index (picked cell.vertices e) 0) (end 0 (omega arith)), (vertex-seen (slice_index (picked cell.vertices e) 1) (end 1 (omega arith)), tt))
        where
          pair : ((length e == 2) ≡ true) × (are_corners (corner_count cell.poly) e ≡ true)
          pair = and_parts (length e == 2) (are_corners (corner_count cell.poly) e) h

          corners : AllByRecursion (λ i. nat_lt i (corner_count cell.poly) ≡ true) e
          corners = each_passes (λ i. nat_lt i (corner_count cell.poly)) e (and_parts (list_all (λ i. nat_lt i (corner_count cell.poly)) e) _ pair.1).0

          end : (i : ℕ) → i < 2 → slice_index (picked cell.vertices e) i < length m.at
          end i low = let long : i < length e = omega (arith, eqb-true (length e) 2 pair.0) in
              subst (λ v. v < length m.at) (sym (get_or-map (λ k. get_or cell.vertices k 0) e i 0 0 long))
              (corner-below (slice_index e i) (omega (arith, ltb-true (slice_index e i) (corner_count cell.poly) (all_at (λ i. nat_lt i (corner_count cell.poly) ≡ true) e i 0 corners long), good.corners)))

      -- the sides of a face of the cell are seen
      face-covers : (k : ℕ) (f : Facet) → is_face_of cell.poly f ≡ true → Covers (record { key = k; poly = f.poly; arrangement = picked cell.vertices f.corners })
      face-covers k f h = all_weaker (λ (e : Facet). (is_pair (length f.corners) e.corners && is_side_of cell.poly (record { poly = e.poly; corners = picked f.corners e.corners })) ≡ true) (λ (e : Facet). IsSeen m e.poly (picked (picked cell.vertices f.corners) e.corners)) side (facets_of f.poly)
          (each_passes (λ (e : Facet). is_pair (length f.corners) e.corners && is_side_of cell.poly (record { poly = e.poly; corners = picked f.corners e.corners })) (facets_of f.poly) (and_parts (are_corners (corner_count cell.poly) f.corners) _ (and_parts _ _ h).1).1)
        where
          side : (e : Facet) → (is_pair (length f.corners) e.corners && is_side_of cell.poly (record { poly = e.poly; corners = picked f.corners e.corners })) ≡ true → IsSeen m e.poly (picked (picked cell.vertices f.corners) e.corners)
          side e x =
              let both = and_parts (is_pair (length f.corners) e.corners) (is_side_of cell.poly (record { poly = e.poly; corners = picked f.corners e.corners })) x in
              let pair = and_parts (length e.corners == 2) (are_corners (length f.corners) e.corners) both.0 in
              let within = and_parts (list_all (λ c. nat_lt c (length f.corners)) e.corners) _ pair.1 in
              subst (IsSeen m e.poly) (sym (picked-picked cell.vertices f.corners e.corners (all_weaker (λ k. nat_lt k (length f.corners) ≡ true) (λ k. k < length f.corners) (λ k y. ltb-true k (length f.corners) y) e.corners (each_passes (λ k. nat_lt k (length f.corners)) e.corners within.0))))
              (side-seen e.poly (picked f.corners e.corners) both.1)

      -- the sides of a polygon are seen
      polygon-covers : dim_of cell.poly ≡ 2 → AllByRecursion (λ (f : Facet). IsSeen m f.poly (picked cell.vertices f.corners)) (facets_of cell.poly)
      polygon-covers flat = all_weaker (λ f. is_side_of cell.poly f ≡ true) (λ (f : Facet). IsSeen m f.poly (picked cell.vertices f.corners)) (λ f h. side-seen f.poly f.corners h) (facets_of cell.poly) (each_passes (is_side_of cell.poly) (facets_of cell.poly) (sides-are_edges cell.poly flat))

      -- what is known of each sight of the cell: the cells see its point, and not under no orientation if it is a face
      abbrev IsLooked : Sight → Type 0
      IsLooked s = (list_any (shows (point_of s)) (sights (placed_cells m)) ≡ true) × (((m.dim == 3) && (dim_of s.poly == 2)) ≡ true → is_none (seen_under m s.poly s.arrangement) ≡ false)

      -- the faces of a solid are seen
      solid-covers : dim_of cell.poly ≡ 3 → AllByRecursion IsLooked (sights_of (c, cell)) → AllByRecursion (λ (f : Facet). IsSeen m f.poly (picked cell.vertices f.corners)) (facets_of cell.poly)
      solid-covers solid looked = all_both (λ f. is_face_of cell.poly f ≡ true) (λ (f : Facet). (k : ℕ) → IsLooked (face (k, f))) (λ (f : Facet). IsSeen m f.poly (picked cell.vertices f.corners)) one (facets_of cell.poly)
          (each_passes (is_face_of cell.poly) (facets_of cell.poly) (facets-are_faces cell.poly solid)) faces-looked
        where
          face : ℕ × Facet → Sight
          face = cell_face c cell

          -- a key is not looked at
          any-key : (n : ℕ) (fs : List Facet) → AllByRecursion (λ (f : ℕ × Facet). IsLooked (face f)) (enumerate_from n fs) → AllByRecursion (λ (f : Facet). (k : ℕ) → IsLooked (face (k, f))) fs
          any-key n [] h = tt
          any-key n (f ∷ fs) h = ((λ k. h.0), any-key (n + 1) fs h.1)

          faces-looked : AllByRecursion (λ (f : Facet). (k : ℕ) → IsLooked (face (k, f))) (facets_of cell.poly)
          faces-looked = any-key 0 (facets_of cell.poly) (all_faces_of IsLooked c cell solid looked)

          one : (f : Facet) → is_face_of cell.poly f ≡ true → ((k : ℕ) → IsLooked (face (k, f))) → IsSeen m f.poly (picked cell.vertices f.corners)
          one f h look =
              let both = and_parts _ _ h in
              let sizes = and_parts (length f.corners == corner_count f.poly) (dim_of f.poly == 2) both.0 in
              let corners = and_parts (are_corners (corner_count cell.poly) f.corners) _ both.1 in
              let flat = eqb-true (dim_of f.poly) 2 sizes.1 in
              face-seen (face (0, f)) flat (sym good.dim ∙ solid) (picked-shape cell.vertices f.corners (64 * c + 1 + 0) f.poly good.different (eqb-true (length f.corners) (corner_count f.poly) sizes.0) (subst (λ n. are_corners n f.corners ≡ true) (sym good.corners) corners.0))
              (look 0).0 ((look 0).1 (and_from (m.dim == 3) (dim_of f.poly == 2) (eq-eqb m.dim 3 (sym good.dim ∙ solid)) sizes.1))

      -- the facets of all sights of the cell are seen
      sights-cover : AllByRecursion IsLooked (sights_of (c, cell)) → AllByRecursion Covers (sights_of (c, cell))
      sights-cover looked = all_sights_of Covers c cell (whole sound.dim)
          (λ solid. all_weaker (λ (f : ℕ × Facet). is_face_of cell.poly f.1 ≡ true) (λ f. Covers (cell_face c cell f)) (λ f h. face-covers (64 * c + 1 + f.0) f.1 h) (enumerate_from 0 (facets_of cell.poly)) (all_enumerated (λ f. is_face_of cell.poly f ≡ true) 0 (facets_of cell.poly) (each_passes (is_face_of cell.poly) (facets_of cell.poly) (facets-are_faces cell.poly solid))))
          (all_weaker (λ (e : ℕ × List ℕ). is_pair (corner_count cell.poly) e.1 ≡ true) (λ e. Covers (cell_edge c cell e)) (λ e h. edge-covers (64 * c + 8 + e.0) e.1 h) (enumerate_from 0 (edges_of cell.poly)) (all_enumerated (λ e. is_pair (corner_count cell.poly) e ≡ true) 0 (edges_of cell.poly) (each_passes (is_pair (corner_count cell.poly)) (edges_of cell.poly) (edges-are_pairs cell.poly))))
        where
          whole : IsFlatOrSolid m → AllByRecursion (λ (f : Facet). IsSeen m f.poly (picked cell.vertices f.corners)) (facets_of cell.poly)
          whole (inl flat) = polygon-covers (good.dim ∙ flat)
          whole (inr solid) = solid-covers (good.dim ∙ solid) looked

    -- the facets of all points are seen
    pub strata-cover : AllByRecursion Covers (strata m)
    strata-cover = all-of_strata Covers m (all_map Covers vertex_sight (below (length m.at)) (all_from _ (λ v. tt) (below (length m.at))))
        (all-of_cells Covers m (all_both (λ (d : ℕ × Cell). IsSoundCell m d.1 × ((q : ℕ × Cell → Bool) → q d ≡ true → list_any q (placed_cells m) ≡ true)) (λ d. AllByRecursion Looked (sights_of d)) (λ d. AllByRecursion Covers (sights_of d))
        (λ d g l. sights-cover d.0 d.1 g.0 g.1 l) (placed_cells m)
        (all_both (λ (d : ℕ × Cell). IsSoundCell m d.1) (λ (d : ℕ × Cell). (q : ℕ × Cell → Bool) → q d ≡ true → list_any q (placed_cells m) ≡ true) _ (λ d g t. (g, t)) (placed_cells m) (all_enumerated (IsSoundCell m) 0 m.cells sound.cells) (stands (placed_cells m)))
        (all_in_flat_map Looked sights_of (placed_cells m) (all_both (λ s. list_any (shows (point_of s)) (sights (placed_cells m)) ≡ true) (λ (s : Sight). ((m.dim == 3) && (dim_of s.poly == 2)) ≡ true → is_none (seen_under m s.poly s.arrangement) ≡ false) Looked (λ s e f. (e, f)) (sights (placed_cells m)) (shown_itself (sights (placed_cells m))) untwisted))))
      where
        Looked : Sight → Type 0
        Looked s = (list_any (shows (point_of s)) (sights (placed_cells m)) ≡ true) × (((m.dim == 3) && (dim_of s.poly == 2)) ≡ true → is_none (seen_under m s.poly s.arrangement) ≡ false)
