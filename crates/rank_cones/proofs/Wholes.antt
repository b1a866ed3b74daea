-- The diagram of parts that fit together is whole where no cell sees a face under no orientation: each entry is of a point with the
-- polytope of its facet, under an orientation.
use Rattle.std.proofs.Common.{◌≡◌, ℕ, suc, ◌+◌, ◌^◌, ◌<◌, Bool, true, false, cond, ◌==◌, List, [], ◌∷◌, ◌++◌, map, length, get_or, slice_index, ℤ, pos, negsuc, Option, Some, None, Contains, refl, sym, ap, ap₂, ◌∙◌, subst, subst₂, ⊎_elim, length-append, arith}
use Rattle.std.specs.Prelude.{find, option_and_then, unwrap_or, is_none}
use Rattle.std.specs.List.{list_any, position_or_len, AllZip, AllByRecursion, enumerate_from}
use Rattle.std.specs.Cmp.Lexicographic.{same_text}
use Rattle.std.proofs.lemmas.Bool.{and_parts, eqb-true, eq-eqb, ne_eqb, cond-true, cond-false, both_ways}
use Rattle.std.proofs.lemmas.List.{length-map, get_or-map, get_or_append_left, get_or-append-add}
use Rattle.std.proofs.lemmas.List.Elements.{All-from_recursion}
use Rattle.plain_lists.specs.Lists.{same_list, sorted, picked}
use Rattle.plain_lists.proofs.Each.{each_passes, all_weaker, all_both, all_map, all_mapped, all_append, all_at, all_from}
use Rattle.plain_lists.proofs.Finding.{position-within, find-cases, find-has, find-passes}
use Rattle.mesh_defs.specs.declared.Poly.{Poly}
use Rattle.mesh_defs.specs.declared.Poly.TheVariants.{Vertex, Segment}
use Rattle.mesh_defs.specs.Tables.{Facet, dim_of, corner_count, facets_of, edges_of}
use Rattle.mesh_defs.specs.Orientation.{rotations, reflections, act, orientations, relative}
use Rattle.mesh_defs.specs.Mesh.{Cell}
use Rattle.mesh_defs.specs.Points.{Sight, point_on, shows, vertex_sight, cell_face, cell_faces}
use Rattle.mesh_defs.specs.Diagram.{Covering}
use Rattle.mesh_defs.specs.Sights.{IsEdgeSight}
use Rattle.mesh_laws.proofs.Entries.{relative-edge}
use Rattle.rank_laws.proofs.Shapes.{is_pair, edges-are_pairs, is_face_of, facets-are_faces}
use Rattle.rank_laws.proofs.Found.{at-found, two-entries, poly-told, length-sorted}
use Rattle.rank_laws.proofs.TurnedEdges.{polygon-facets}
use Rattle.plex_chart.specs.Chart.{no_point, point_at, FitsFacet, IsWhole}
use Rattle.rank_laws.specs.diagram_laws.Strata.{face_sights, turn_among, entry_from, cone_from, bare_cover, first_twist}
use Rattle.rank_chart_laws.specs.rank_diagram_laws.Parts.{Parts, sides, HasFacets, IsCellPart, IsFacePart, IsEdgePart, AreParts, cell_part, face_part, end_part, edge_part, parts_diagram}
use Rattle.rank_cones.specs.Placed.{sight_at}
use Rattle.rank_cones.proofs.Polygons.{pair-long}
use Rattle.rank_cones.proofs.Strata.{some-answer, turned-all}

-- ---- lists

-- facets with what is made of each
zip-map : {X Y : Type 0} (R : X → Y → Type 0) (h : X → Y) (xs : List X) → AllByRecursion (λ x. R x (h x)) xs → AllZip R xs (map h xs)
zip-map R h [] a = tt
zip-map R h (x ∷ xs) a = (a.0, zip-map R h xs a.1)

-- what is found is among the elements
found-contained : {X : Type 0} (p : X → Bool) (xs : List X) (x : X) → find p xs ≡ Some x → Contains xs x
found-contained p [] x h = absurd (cc h)
found-contained p (y ∷ ys) x h = go (p y) h (found-contained p ys x)
  where
    go : (b : Bool) → cond b (Some y) (find p ys) ≡ Some x → (find p ys ≡ Some x → Contains ys x) → Contains (y ∷ ys) x
    go true e r = (0, omega arith, cc e)
    go false e r = let (i, low, at) = r e in (suc i, omega arith, at)

-- an orientation that relates two lists is one of the polytope
relative-contained : (poly : Poly) (from to : List ℕ) (o : ℤ) → relative poly from to ≡ Some o → Contains (orientations poly) o
unfolding relative
relative-contained poly from to o h = found-contained (λ o. same_list (act poly o from) to) (orientations poly) o h

-- the one orientation of a vertex
vertex-turn : Contains (orientations Vertex) (pos 0)
unfolding orientations rotations reflections
vertex-turn = (0, omega arith, refl)

-- ---- entries

-- an entry of a facet that is shown fits where the point there has the facet's polytope, and the facet is seen under an orientation
entry-fits : (p : Parts) (points : List Sight) (base : ℕ) (cover : Sight → Covering) → ((s : Sight) → (cover s).poly ≡ s.poly) → ((k : ℕ) → k < length points → point_at (parts_diagram p) (base + k) ≡ cover (sight_at points k))
    → (f : Facet) (list : List ℕ) → list_any (shows (point_on f.poly list)) points ≡ true → ((s : Sight) → find (shows (point_on f.poly list)) points ≡ Some s → s.poly ≡ f.poly) → (o : ℤ) → turn_among points f.poly list ≡ Some o → FitsFacet (parts_diagram p) f (entry_from base points f.poly list)
unfolding entry_from turn_among
entry-fits p points base cover same at f list shown poly o turn = ⊎_elim
    (λ (w : (s : Sight) × (find (shows (point_on f.poly list)) points ≡ Some s)).
    let within = position-within (shows (point_on f.poly list)) points shown in
    record {
      poly = ap (λ (c : Covering). c.poly) (at (position_or_len (shows (point_on f.poly list)) points) within) ∙ same (sight_at points (position_or_len (shows (point_on f.poly list)) points))
          ∙ ap (λ (s : Sight). s.poly) (at-found (shows (point_on f.poly list)) points w.0 (vertex_sight 0) w.1) ∙ poly w.0 w.1;
      o = subst (Contains (orientations f.poly)) (sym (ap (λ z. unwrap_or z (pos 0)) turn)) (turn-contained (find (shows (point_on f.poly list)) points) turn);
    })
    (λ none. absurd (both_ways (list_any (shows (point_on f.poly list)) points) none shown))
    (find-cases (shows (point_on f.poly list)) points)
  where
    turn-contained : (a : Option Sight) → option_and_then (λ (own : Sight). relative f.poly own.arrangement list) a ≡ Some o → Contains (orientations f.poly) o
    turn-contained None h = absurd (cc h)
    turn-contained (Some own) h = relative-contained f.poly own.arrangement list o h

module _ (p : Parts) (fit : AreParts p) where
  abbrev g_points : List Covering
  g_points = (parts_diagram p).points

  abbrev a_part : List Covering
  a_part = map (cell_part p) p.cells

  abbrev b_part : List Covering
  b_part = map (λ (v : ℕ). bare_cover) p.vertices

  abbrev c_part : List Covering
  c_part = map (face_part p) p.faces

  abbrev d_part : List Covering
  d_part = map (edge_part p) p.edges

  length-a : length (map (cell_part p) p.cells) ≡ length p.cells
  length-a = length-map p.cells (cell_part p)

  length-ab : length (a_part ++ b_part) ≡ length p.cells + length p.vertices
  length-ab = length-append a_part b_part ∙ ap₂ (λ a b. a + b) length-a (length-map p.vertices (λ (v : ℕ). bare_cover))

  length-abc : length (a_part ++ b_part ++ c_part) ≡ length p.cells + length p.vertices + length p.faces
  length-abc = length-append (a_part ++ b_part) c_part ∙ ap₂ (λ a b. a + b) length-ab (length-map p.faces (face_part p))

  -- ---- where the points stand

  at-edge : (k : ℕ) → k < length p.edges → point_at (parts_diagram p) (length p.cells + length p.vertices + length p.faces + k) ≡ edge_part p (sight_at p.edges k)
  at-edge k low = ap (λ n. get_or (a_part ++ b_part ++ c_part ++ d_part) (n + k) no_point) (sym length-abc) ∙ get_or-append-add (a_part ++ b_part ++ c_part) d_part k no_point ∙ get_or-map (edge_part p) p.edges k (vertex_sight 0) no_point low

  at-face : (k : ℕ) → k < length p.faces → point_at (parts_diagram p) (length p.cells + length p.vertices + k) ≡ face_part p (sight_at p.faces k)
  at-face k low = get_or_append_left (a_part ++ b_part ++ c_part) d_part no_point (length p.cells + length p.vertices + k) (omega (arith, length-abc, low))
      ∙ ap (λ n. get_or (a_part ++ b_part ++ c_part) (n + k) no_point) (sym length-ab) ∙ get_or-append-add (a_part ++ b_part) c_part k no_point ∙ get_or-map (face_part p) p.faces k (vertex_sight 0) no_point low

  at-vertex : (k : ℕ) → k < length p.vertices → point_at (parts_diagram p) (length p.cells + k) ≡ bare_cover
  at-vertex k low = get_or_append_left (a_part ++ b_part ++ c_part) d_part no_point (length p.cells + k) (omega (arith, length-abc, low))
      ∙ get_or_append_left (a_part ++ b_part) c_part no_point (length p.cells + k) (omega (arith, length-ab, low))
      ∙ ap (λ n. get_or (a_part ++ b_part) (n + k) no_point) (sym length-a) ∙ get_or-append-add a_part b_part k no_point ∙ get_or-map (λ (v : ℕ). bare_cover) p.vertices k 0 no_point low

  -- ---- edges

  edges-sound : AllByRecursion (IsEdgeSight (2 ^ 32)) p.edges
  edges-sound = all_weaker (IsEdgePart p) (IsEdgeSight (2 ^ 32)) (λ s e. e.edge) p.edges fit.edges

  -- an edge that is shown is seen under some orientation
  edge-turn : (list : List ℕ) → length list ≡ 2 → list_any (shows (point_on Segment list)) p.edges ≡ true → (o : ℤ) × (turn_among p.edges Segment list ≡ Some o)
  unfolding turn_among
  edge-turn list long shown = ⊎_elim
      (λ (w : (s : Sight) × (find (shows (point_on Segment list)) p.edges ≡ Some s)).
      let own = find-has (IsEdgeSight (2 ^ 32)) (shows (point_on Segment list)) p.edges w.0 edges-sound w.1 in
      let both = and_parts (1 == dim_of w.0.poly) (same_list (sorted list) (sorted w.0.arrangement)) (find-passes (shows (point_on Segment list)) p.edges w.0 w.1) in
      let two = two-entries list long in
      let a = slice_index w.0.arrangement 0 in
      let b = slice_index w.0.arrangement 1 in
      let x = slice_index list 0 in
      let y = slice_index list 1 in
      let turned = relative-edge a b x y own.apart (subst₂ (λ u v. same_list (sorted u) (sorted v) ≡ true) two own.ends both.1) in (
        cond (a == x) (pos 0) (negsuc 0),
        ap (option_and_then (λ (s : Sight). relative Segment s.arrangement list)) w.1 ∙ (λ i. relative Segment (own.ends i) (two i)) ∙ turned,
      ))
      (λ none. absurd (both_ways (list_any (shows (point_on Segment list)) p.edges) none shown))
      (find-cases (shows (point_on Segment list)) p.edges)

  -- the entry of an edge fits
  segment-fits : (base : ℕ) → ((k : ℕ) → k < length p.edges → point_at (parts_diagram p) (base + k) ≡ edge_part p (sight_at p.edges k)) → (f : Facet) → f.poly ≡ Segment → (list : List ℕ) → list_any (shows (point_on f.poly list)) p.edges ≡ true → (o : ℤ) → turn_among p.edges f.poly list ≡ Some o → FitsFacet (parts_diagram p) f (entry_from base p.edges f.poly list)
  segment-fits base at f segment list shown o turn = entry-fits p p.edges base covered (λ s. refl)
      (λ k low. at k low ∙ (λ i. record { poly = sym (all_at (IsEdgeSight (2 ^ 32)) p.edges k (vertex_sight 0) edges-sound low).poly i; covers = (edge_part p (sight_at p.edges k)).covers }))
      f list shown (λ s found. (find-has (IsEdgeSight (2 ^ 32)) (shows (point_on f.poly list)) p.edges s edges-sound found).poly ∙ sym segment) o turn
    where
      covered : Sight → Covering
      covered s = record { poly = s.poly; covers = (edge_part p s).covers }

  -- the sides of a polygon fit
  polygon-fits : (base : ℕ) → ((k : ℕ) → k < length p.edges → point_at (parts_diagram p) (base + k) ≡ edge_part p (sight_at p.edges k))
      → (poly : Poly) (list : List ℕ) → dim_of poly ≡ 2 → HasFacets p.edges (facets_of poly) list → AllZip (FitsFacet (parts_diagram p)) (facets_of poly) (cone_from base p.edges poly list)
  polygon-fits base at poly list two has = zip-map (FitsFacet (parts_diagram p)) (λ (f : Facet). entry_from base p.edges f.poly (picked list f.corners)) (facets_of poly)
      (subst (AllByRecursion (λ (f : Facet). FitsFacet (parts_diagram p) f (entry_from base p.edges f.poly (picked list f.corners)))) (sym (polygon-facets poly two))
      (all_map (λ (f : Facet). FitsFacet (parts_diagram p) f (entry_from base p.edges f.poly (picked list f.corners))) (λ e. record { poly = Segment; corners = e }) (edges_of poly)
      (all_both (λ e. is_pair (corner_count poly) e ≡ true) (λ e. list_any (shows (point_on Segment (picked list e))) p.edges ≡ true) (λ e. FitsFacet (parts_diagram p) (record { poly = Segment; corners = e }) (entry_from base p.edges Segment (picked list e))) one (edges_of poly)
      (each_passes (is_pair (corner_count poly)) (edges_of poly) (edges-are_pairs poly))
      (all_mapped (λ (f : Facet). list_any (shows (point_on f.poly (picked list f.corners))) p.edges ≡ true) (λ e. record { poly = Segment; corners = e }) (edges_of poly)
      (subst (AllByRecursion (λ (f : Facet). list_any (shows (point_on f.poly (picked list f.corners))) p.edges ≡ true)) (polygon-facets poly two) has)))))
    where
      one : (e : List ℕ) → is_pair (corner_count poly) e ≡ true → list_any (shows (point_on Segment (picked list e))) p.edges ≡ true → FitsFacet (parts_diagram p) (record { poly = Segment; corners = e }) (entry_from base p.edges Segment (picked list e))
      one e pair shown =
          let (o, turn) = edge-turn (picked list e) (length-map e (λ k. get_or list k 0) ∙ pair-long (corner_count poly) e pair) shown in
          segment-fits base at (record { poly = Segment; corners = e }) refl (picked list e) shown o turn

  -- ---- faces

  module _ (none : first_twist p.faces (face_sights p.cells) ≡ None) where
    -- the faces of a solid, without their keys
    from-faces : (P : Poly → List ℕ → Type 0) (n : ℕ) (cell : Cell) → dim_of cell.poly ≡ 3 → AllByRecursion (λ (s : Sight). P s.poly s.arrangement) (cell_faces n cell) → AllByRecursion (λ (f : Facet). P f.poly (picked cell.vertices f.corners)) (facets_of cell.poly)
    from-faces P n cell solid h = without 0 (facets_of cell.poly) (all_mapped (λ (s : Sight). P s.poly s.arrangement) (cell_face n cell) (enumerate_from 0 (facets_of cell.poly))
        (subst (AllByRecursion (λ (s : Sight). P s.poly s.arrangement)) (cond-true (dim_of cell.poly == 3) (map (cell_face n cell) (enumerate_from 0 (facets_of cell.poly))) [] (eq-eqb (dim_of cell.poly) 3 solid)) h))
      where
        without : (k : ℕ) (fs : List Facet) → AllByRecursion (λ (f : ℕ × Facet). P f.1.poly (picked cell.vertices f.1.corners)) (enumerate_from k fs) → AllByRecursion (λ (f : Facet). P f.poly (picked cell.vertices f.corners)) fs
        without k [] x = tt
        without k (f ∷ fs) x = (x.0, without (k + 1) fs x.1)

    -- the faces of a solid fit
    solid-fits : (cell : Cell) → dim_of cell.poly ≡ 3 → HasFacets p.faces (facets_of cell.poly) cell.vertices → AllByRecursion (λ (f : Facet). is_none (turn_among p.faces f.poly (picked cell.vertices f.corners)) ≡ false) (facets_of cell.poly)
        → AllZip (FitsFacet (parts_diagram p)) (facets_of cell.poly) (cone_from (length p.cells + length p.vertices) p.faces cell.poly cell.vertices)
    solid-fits cell three has turns = zip-map (FitsFacet (parts_diagram p)) (λ (f : Facet). entry_from (length p.cells + length p.vertices) p.faces f.poly (picked cell.vertices f.corners)) (facets_of cell.poly)
        (all_both (λ f. is_face_of cell.poly f ≡ true) (λ (f : Facet). (list_any (shows (point_on f.poly (picked cell.vertices f.corners))) p.faces ≡ true) × (is_none (turn_among p.faces f.poly (picked cell.vertices f.corners)) ≡ false)) (λ (f : Facet). FitsFacet (parts_diagram p) f (entry_from (length p.cells + length p.vertices) p.faces f.poly (picked cell.vertices f.corners))) one (facets_of cell.poly)
        (each_passes (is_face_of cell.poly) (facets_of cell.poly) (facets-are_faces cell.poly three))
        (all_both (λ (f : Facet). list_any (shows (point_on f.poly (picked cell.vertices f.corners))) p.faces ≡ true) (λ (f : Facet). is_none (turn_among p.faces f.poly (picked cell.vertices f.corners)) ≡ false) _ (λ f a b. (a, b)) (facets_of cell.poly) has turns))
      where
        one : (f : Facet) → is_face_of cell.poly f ≡ true → (list_any (shows (point_on f.poly (picked cell.vertices f.corners))) p.faces ≡ true) × (is_none (turn_among p.faces f.poly (picked cell.vertices f.corners)) ≡ false) → FitsFacet (parts_diagram p) f (entry_from (length p.cells + length p.vertices) p.faces f.poly (picked cell.vertices f.corners))
        one f face known =
            let sizes = and_parts (length f.corners == corner_count f.poly) (dim_of f.poly == 2) (and_parts _ _ face).0 in
            let (o, turn) = some-answer (turn_among p.faces f.poly (picked cell.vertices f.corners)) known.1 in
            entry-fits p p.faces (length p.cells + length p.vertices) (face_part p) (λ s. refl) at-face f (picked cell.vertices f.corners) known.0
            (λ s found.
            let part = find-has IsFacePart (shows (point_on f.poly (picked cell.vertices f.corners))) p.faces s fit.faces found in
            let both = and_parts (dim_of f.poly == dim_of s.poly) (same_list (sorted (picked cell.vertices f.corners)) (sorted s.arrangement)) (find-passes (shows (point_on f.poly (picked cell.vertices f.corners))) p.faces s found) in
            poly-told s.poly f.poly (sym (eqb-true (dim_of f.poly) (dim_of s.poly) both.0))
            (sym part.list.long ∙ sym (length-sorted s.arrangement) ∙ ap length (sym (same_text (sorted (picked cell.vertices f.corners)) (sorted s.arrangement) (sym both.1))) ∙ length-sorted (picked cell.vertices f.corners)
            ∙ length-map f.corners (λ k. get_or cell.vertices k 0) ∙ eqb-true (length f.corners) (corner_count f.poly) sizes.0))
            o turn

    -- ---- all points

    abbrev Fits : Covering → Type 0
    Fits c = AllZip (FitsFacet (parts_diagram p)) (facets_of c.poly) c.covers

    cells-fit : AllByRecursion Fits (map (cell_part p) p.cells)
    cells-fit = all_map Fits (cell_part p) p.cells (all_both (IsCellPart p) (λ (c : ℕ × Cell). AllByRecursion (λ (s : Sight). is_none (turn_among p.faces s.poly s.arrangement) ≡ false) (cell_faces c.0 c.1)) (λ c. Fits (cell_part p c))
        (λ c part turns. ⊎_elim (flat c part) (solid c part turns) fit.dim) p.cells fit.cells (turned-all p.faces p.cells none))
      where
        flat : (c : ℕ × Cell) → IsCellPart p c → p.dim ≡ 2 → Fits (cell_part p c)
        flat c part two =
            let edges : p.edges ≡ sides p = sym (cond-false (p.dim == 3) p.faces p.edges (ne_eqb p.dim 3 (λ e. absurd (omega arith)))) in
            subst (λ ss. AllZip (FitsFacet (parts_diagram p)) (facets_of c.1.poly) (cone_from (length p.cells + length p.vertices) ss c.1.poly c.1.vertices)) edges
            (polygon-fits (length p.cells + length p.vertices)
            (λ k low. (λ i. point_at (parts_diagram p) (no_faces i + k)) ∙ at-edge k low)
            c.1.poly c.1.vertices (part.dim ∙ two) (subst (λ ss. HasFacets ss (facets_of c.1.poly) c.1.vertices) (sym edges) part.facets))
          where
            no_faces : length p.cells + length p.vertices ≡ length p.cells + length p.vertices + length p.faces
            no_faces = omega (arith, ap length (fit.flat two))

        solid : (c : ℕ × Cell) → IsCellPart p c → AllByRecursion (λ (s : Sight). is_none (turn_among p.faces s.poly s.arrangement) ≡ false) (cell_faces c.0 c.1) → p.dim ≡ 3 → Fits (cell_part p c)
        solid c part turns three =
            let faces : p.faces ≡ sides p = sym (cond-true (p.dim == 3) p.faces p.edges (eq-eqb p.dim 3 three)) in
            subst (λ ss. AllZip (FitsFacet (parts_diagram p)) (facets_of c.1.poly) (cone_from (length p.cells + length p.vertices) ss c.1.poly c.1.vertices)) faces
            (solid-fits c.1 (part.dim ∙ three) (subst (λ ss. HasFacets ss (facets_of c.1.poly) c.1.vertices) (sym faces) part.facets)
            (from-faces (λ poly list. is_none (turn_among p.faces poly list) ≡ false) c.0 c.1 (part.dim ∙ three) turns))

    faces-fit : AllByRecursion Fits (map (face_part p) p.faces)
    faces-fit = all_map Fits (face_part p) p.faces (all_both IsFacePart (λ (s : Sight). HasFacets p.edges (facets_of s.poly) s.arrangement) (λ s. Fits (face_part p s))
        (λ s part has. polygon-fits (length p.cells + length p.vertices + length p.faces) at-edge s.poly s.arrangement part.dim has) p.faces fit.faces (fit.sides none))

    edges-fit : AllByRecursion Fits (map (edge_part p) p.edges)
    edges-fit = all_map Fits (edge_part p) p.edges (all_weaker (IsEdgePart p) (λ s. Fits (edge_part p s)) (λ s part. (end (0 ∷ []) (slice_index s.arrangement 0) part.first, (end (1 ∷ []) (slice_index s.arrangement 1) part.second, tt))) p.edges fit.edges)
      where
        end : (corners : List ℕ) (v : ℕ) → list_any (λ w. w == v) p.vertices ≡ true → FitsFacet (parts_diagram p) (record { poly = Vertex; corners = corners }) (end_part p v)
        end corners v there = record { poly = ap (λ (c : Covering). c.poly) (at-vertex (position_or_len (λ w. w == v) p.vertices) (position-within (λ w. w == v) p.vertices there)); o = vertex-turn }

    -- the diagram is whole
    pub parts-whole : IsWhole (parts_diagram p)
    parts-whole = record {
      full = length-append (a_part ++ b_part ++ c_part) d_part ∙ ap₂ (λ a b. a + b) length-abc (length-map p.edges (edge_part p));
      facets = All-from_recursion Fits (parts_diagram p).points (all_append Fits (a_part ++ b_part ++ c_part) d_part (all_append Fits (a_part ++ b_part) c_part (all_append Fits a_part b_part cells-fit (all_map Fits (λ (v : ℕ). bare_cover) p.vertices (all_from (λ v. Fits bare_cover) (λ v. tt) p.vertices))) faces-fit) edges-fit);
    }
