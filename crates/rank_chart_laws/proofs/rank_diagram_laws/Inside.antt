-- The facets of what some cells have in their chart are had by the cells too, and a twist is told by the chart.
use Rattle.std.proofs.Common.{◌≡◌, ◌≢◌, ℕ, ◌<◌, ◌≤◌, min, max, Bool, true, false, ◌&&◌, ◌==◌, List, [], ◌∷◌, ◌++◌, length, slice_index, Some, None, refl, sym, ap, ap₂, ◌∙◌, subst, inl, inr, ⊎_elim, arith}
use Rattle.std.specs.Prelude.{find, option_map, option_and_then, is_none}
use Rattle.std.specs.List.{list_any, AllByRecursion, filter}
use Rattle.std.specs.Cmp.Lexicographic.{same_text}
use Rattle.std.proofs.lemmas.Bool.{and_parts, and_from, eq-eqb, ne_eqb, eqb-true, or_left, or_right, cases_lt}
use Rattle.std.proofs.lemmas.List.Elements.{filter-append}
use Rattle.plain_lists.specs.Lists.{below, same_list, sorted, picked}
use Rattle.plain_lists.proofs.Below.{at-below}
use Rattle.plain_lists.proofs.Each.{all_weaker, all_both, all_from, all_map, all_mapped, all_filter, all_in_flat_map, all_enumerated}
use Rattle.plain_lists.proofs.Finding.{any_filter, among, stands, each_fails, find-cases, find_agree}
use Rattle.plain_lists.proofs.Filters.{filter_passing, filter_agree, filter_none}
use Rattle.mesh_defs.specs.declared.Poly.{Poly}
use Rattle.mesh_defs.specs.declared.Poly.TheVariants.{Vertex, Segment, Triangle, Quad, Tet, Hex}
use Rattle.mesh_defs.specs.Tables.{Facet, dim_of, facets_of, edges_of}
use Rattle.mesh_defs.specs.Orientation.{relative}
use Rattle.mesh_defs.specs.Mesh.{Mesh, Cell, placed_cells}
use Rattle.mesh_defs.specs.Points.{Sight, point_on, point_of, shows, cell_faces, sights_of, sights, first_sight, arrangement, contains}
use Rattle.mesh_defs.specs.Diagram.{stratum, seen_under}
use Rattle.mesh_defs.specs.Sights.{IsEdgeSight}
use Rattle.mesh_defs.specs.RightMesh.{IsFlatOrSolid, IsSoundCell, IsSoundMesh, AreCells, in_some}
use Rattle.mesh_laws.proofs.Firsts.{shows-true, firsts-all}
use Rattle.mesh_laws.proofs.Containing.{sights-contained}
use Rattle.mesh_laws.proofs.Turns.{sorted-min_max}
use Rattle.rank_laws.proofs.Shapes.{HasShape, sights_of-shape, all-of_cells}
use Rattle.rank_laws.proofs.Found.{poly-told, length-sorted, sorted-turned}
use Rattle.rank_laws.proofs.Facets.{some-answer}
use Rattle.rank_laws.proofs.TurnedEdges.{polygon-facets, turned-edges}
use Rattle.rank_laws.proofs.Inherited.{cell-keeps, sights-keep}
use Rattle.rank_laws.specs.diagram_laws.Strata.{face_sights, turn_among, first_twist}
use Rattle.rank_laws.proofs.diagram_laws.Parts.{of_dim, stratum-edges, cell-dims}
use Rattle.rank_laws.proofs.diagram_laws.Edges.{OfDim, edges-are}
use Rattle.rank_laws.specs.share_laws.Charts.{vertex_point}
use Rattle.rank_laws.proofs.share_laws.Own.{sound-cells}
use Rattle.rank_laws.proofs.share_laws.Vertices.{vertices-inside}
use Rattle.rank_laws.specs.orient_laws.Named.{chart_stratum}
use Rattle.rank_laws.proofs.orient_laws.Seen.{IsFirst, cell-seen, stratum-own, stratum-first}
use Rattle.rank_laws.proofs.orient_laws.OwnSights.{all-chosen}
use Rattle.rank_chart_laws.specs.OwnRanks.{own_vertices}
use Rattle.rank_chart_laws.specs.rank_diagram_laws.Parts.{held_faces}
use Rattle.rank_chart_laws.proofs.rank_diagram_laws.Charted.{held-turn, stratum-of_dim, solid-faces}

-- ---- numbers and ends

-- a number below n is among those below n that pass, where it passes
passes-among : (n v : ℕ) (q : ℕ → Bool) → v < n → q v ≡ true → list_any (λ w. w == v) (filter q (below n)) ≡ true
passes-among n v q low e = any_filter (λ w. w == v) q (below n)
    ∙ at-below (λ w. (t : ℕ → Bool) → t w ≡ true → list_any t (below n) ≡ true) n (stands (below n)) v low (λ w. q w && (w == v)) (and_from (q v) (v == v) e (eq-eqb v v refl))

-- the ends of a pair are in its set
first-end : (a b : ℕ) → list_any (λ w. w == a) (sorted (a ∷ b ∷ [])) ≡ true
first-end a b = ap (list_any (λ w. w == a)) (sorted-min_max a b)
    ∙ ⊎_elim (λ (lt : a < b). or_left (min a b == a) _ (eq-eqb (min a b) a (omega arith))) (λ (ge : b ≤ a). or_right (min a b == a) _ (or_left (max a b == a) false (eq-eqb (max a b) a (omega arith)))) (cases_lt a b)

second-end : (a b : ℕ) → list_any (λ w. w == b) (sorted (a ∷ b ∷ [])) ≡ true
second-end a b = ap (list_any (λ w. w == b)) (sorted-turned a b) ∙ first-end b a

-- ---- what cells see of faces

-- a solid sees its faces
faces-of : (p : Poly) (c : ℕ) (vs : List ℕ) → dim_of p ≡ 3 → filter (of_dim 2) (sights_of (c, record { poly = p; vertices = vs })) ≡ cell_faces c (record { poly = p; vertices = vs })
unfolding sights_of
faces-of Vertex c vs h = absurd (omega arith)
faces-of Segment c vs h = absurd (omega arith)
faces-of Triangle c vs h = absurd (omega arith)
faces-of Quad c vs h = absurd (omega arith)
faces-of Tet c vs h = refl
faces-of Hex c vs h = refl

-- a polygon sees none beside itself
no-faces : (p : Poly) (c : ℕ) (vs : List ℕ) → dim_of p ≡ 2 → cell_faces c (record { poly = p; vertices = vs }) ≡ []
no-faces Vertex c vs h = refl
no-faces Segment c vs h = refl
no-faces Triangle c vs h = refl
no-faces Quad c vs h = refl
no-faces Tet c vs h = absurd (omega arith)
no-faces Hex c vs h = absurd (omega arith)

pub faces-filtered : (cells : List (ℕ × Cell)) → AllByRecursion (λ (c : ℕ × Cell). dim_of c.1.poly ≡ 3) cells → filter (of_dim 2) (sights cells) ≡ face_sights cells
faces-filtered [] h = refl
faces-filtered (c ∷ cs) h = filter-append (of_dim 2) (sights_of c) (sights cs) ∙ ap₂ (λ a b. a ++ b) (faces-of c.1.poly c.0 c.1.vertices h.0) (faces-filtered cs h.1)

pub faces-none : (cells : List (ℕ × Cell)) → AllByRecursion (λ (c : ℕ × Cell). dim_of c.1.poly ≡ 2) cells → face_sights cells ≡ []
faces-none [] h = refl
faces-none (c ∷ cs) h = ap₂ (λ a b. a ++ b) (no-faces c.1.poly c.0 c.1.vertices h.0) (faces-none cs h.1)

-- a face of a solid mesh
abbrev is_face : Mesh → Sight → Bool
is_face m s = (m.dim == 3) && (dim_of s.poly == 2)

module _ (m : Mesh) (sound : IsSoundMesh m) (cells : List (ℕ × Cell)) (are : AreCells m cells) where
  sounds : AllByRecursion (λ (c : ℕ × Cell). IsSoundCell m c.1) cells
  sounds = sound-cells m sound cells are

  -- the cells have the point
  abbrev pub In : Poly → List ℕ → Type 0
  In poly list = in_some (point_on poly list) cells ≡ true

  -- the facets of each cell
  pub cells-inside : AllByRecursion (λ (c : ℕ × Cell). AllByRecursion (λ (f : Facet). In f.poly (picked c.1.vertices f.corners)) (facets_of c.1.poly)) cells
  cells-inside = all_both (λ (c : ℕ × Cell). IsSoundCell m c.1) (λ (c : ℕ × Cell). (q : ℕ × Cell → Bool) → q c ≡ true → list_any q cells ≡ true) (λ (c : ℕ × Cell). AllByRecursion (λ (f : Facet). In f.poly (picked c.1.vertices f.corners)) (facets_of c.1.poly))
      (λ c good there. all_weaker (λ (f : Facet). contains c.1 (point_on f.poly (picked c.1.vertices f.corners)) ≡ true) (λ (f : Facet). In f.poly (picked c.1.vertices f.corners)) (λ f h. there (λ (d : ℕ × Cell). contains d.1 (point_on f.poly (picked c.1.vertices f.corners))) h) (facets_of c.1.poly) (cell-keeps m sound.dim c.0 c.1 good))
      cells sounds (stands cells)

  -- ---- edges

  -- the edges are segments between different vertices of the mesh
  pub edges-sound : AllByRecursion (IsEdgeSight (length m.at)) (chart_stratum m cells 1)
  unfolding chart_stratum
  edges-sound = all_filter (IsEdgeSight (length m.at)) (λ s. in_some (point_of s) cells) (stratum m 1) (subst (AllByRecursion (IsEdgeSight (length m.at))) (sym (stratum-edges m sound.dim (cell-dims m sound))) (edges-are m sound))

  -- what stands in a stratum is had by the cells
  pub stratum-inside : (d : ℕ) → AllByRecursion (λ s. in_some (point_of s) cells ≡ true) (chart_stratum m cells d)
  unfolding chart_stratum
  stratum-inside d = filter_passing (λ s. in_some (point_of s) cells) (stratum m d)

  -- the ends of an edge are vertices of the cells
  pub ends-inside : (s : Sight) → IsEdgeSight (length m.at) s → in_some (point_of s) cells ≡ true → (list_any (λ w. w == slice_index s.arrangement 0) (own_vertices m cells) ≡ true) × (list_any (λ w. w == slice_index s.arrangement 1) (own_vertices m cells) ≡ true)
  ends-inside s is here =
      let a = slice_index s.arrangement 0 in
      let b = slice_index s.arrangement 1 in (
        passes-among (length m.at) a (λ v. in_some (vertex_point v) cells) is.first (vertices-inside m cells sound are (point_of s) a here (ap (λ l. list_any (λ w. w == a) (sorted l)) is.ends ∙ first-end a b)),
        passes-among (length m.at) b (λ v. in_some (vertex_point v) cells) is.second (vertices-inside m cells sound are (point_of s) b here (ap (λ l. list_any (λ w. w == b) (sorted l)) is.ends ∙ second-end a b)),
      )

  -- ---- twists

  -- the first face that a cell sees under no orientation is told by the faces in the chart
  pub twist-by : option_map (λ (s : Sight). s.key) (find (λ s. is_none (seen_under m s.poly s.arrangement)) (filter (is_face m) (sights cells))) ≡ first_twist (held_faces m cells) (face_sights cells)
  twist-by = go sound.dim
    where
      unseen : Sight → Bool
      unseen s = is_none (seen_under m s.poly s.arrangement)

      go : IsFlatOrSolid m → option_map (λ (s : Sight). s.key) (find (λ s. is_none (seen_under m s.poly s.arrangement)) (filter (is_face m) (sights cells))) ≡ first_twist (held_faces m cells) (face_sights cells)
      go (inl flat) =
          ap (λ ss. option_map (λ (s : Sight). s.key) (find unseen ss)) (filter_none (is_face m) (sights cells) (all_from (λ s. is_face m s ≡ false) (λ s. ap (λ b. b && (dim_of s.poly == 2)) (ne_eqb m.dim 3 (λ e. absurd (omega arith)))) (sights cells)))
          ∙ sym (ap (first_twist (held_faces m cells)) (faces-none cells (all_weaker (λ (c : ℕ × Cell). IsSoundCell m c.1) (λ (c : ℕ × Cell). dim_of c.1.poly ≡ 2) (λ c s. s.dim ∙ flat) cells sounds)))
      go (inr solid) =
          ap (λ ss. option_map (λ (s : Sight). s.key) (find unseen ss)) (filter_agree (is_face m) (of_dim 2) (sights cells) (all_from (λ s. is_face m s ≡ of_dim 2 s) (λ s. ap (λ b. b && (dim_of s.poly == 2)) (eq-eqb m.dim 3 solid)) (sights cells)))
          ∙ ap (option_map (λ (s : Sight). s.key))
          (find_agree unseen (λ (s : Sight). is_none (turn_among (held_faces m cells) s.poly s.arrangement)) (filter (of_dim 2) (sights cells))
          (all_both (λ s. of_dim 2 s ≡ true) (λ s. in_some (point_of s) cells ≡ true) (λ s. unseen s ≡ is_none (turn_among (held_faces m cells) s.poly s.arrangement))
          (λ s two here. let flat : dim_of s.poly ≡ 2 = eqb-true (dim_of s.poly) 2 two in
          ap is_none (held-turn m cells s.poly s.arrangement (λ e. absurd (omega arith)) here ∙ ap (λ d. turn_among (chart_stratum m cells d) s.poly s.arrangement) flat ∙ ap (λ l. turn_among l s.poly s.arrangement) (sym (solid-faces m cells solid))))
          (filter (of_dim 2) (sights cells)) (filter_passing (of_dim 2) (sights cells)) (all_filter (λ s. in_some (point_of s) cells ≡ true) (of_dim 2) (sights cells) (sights-contained cells))))
          ∙ ap (first_twist (held_faces m cells)) (faces-filtered cells (all_weaker (λ (c : ℕ × Cell). IsSoundCell m c.1) (λ (c : ℕ × Cell). dim_of c.1.poly ≡ 3) (λ c s. s.dim ∙ solid) cells sounds))

  -- ---- the sides of faces

  -- seen under some orientation where it is a face
  abbrev Looked : Sight → Type 0
  Looked s = is_face m s ≡ true → is_none (seen_under m s.poly s.arrangement) ≡ false

  -- without a twist the cells see each face under some orientation
  untwisted : first_twist (held_faces m cells) (face_sights cells) ≡ None → AllByRecursion (λ c. AllByRecursion Looked (sights_of c)) cells
  untwisted none = all_in_flat_map Looked sights_of cells (all-chosen (λ (s : Sight). is_none (seen_under m s.poly s.arrangement) ≡ false) (is_face m) (sights cells)
      (each_fails unseen (filter (is_face m) (sights cells)) (⊎_elim (λ (w : (s : Sight) × (find unseen (filter (is_face m) (sights cells)) ≡ Some s)). absurd (cc (sym (twist-by ∙ none) ∙ ap (option_map (λ (s : Sight). s.key)) w.1))) (λ e. e) (find-cases unseen (filter (is_face m) (sights cells))))))
    where
      unseen : Sight → Bool
      unseen s = is_none (seen_under m s.poly s.arrangement)

  -- what is known of a cell that sees no face under no orientation
  Known : ℕ × Cell → Type 0
  Known d = (IsSoundCell m d.1 × AllByRecursion Looked (sights_of d)) × ((q : ℕ × Cell → Bool) → q d ≡ true → list_any q cells ≡ true)

  -- the sides of a face that such a cell has are had by the cells
  face-sides : m.dim ≡ 3 → (s : Sight) → dim_of s.poly ≡ 2 → HasShape s → IsFirst m s → (d : ℕ × Cell) → Known d → contains d.1 (point_of s) ≡ true → AllByRecursion (λ (f : Facet). In f.poly (picked s.arrangement f.corners)) (facets_of s.poly)
  unfolding Known seen_under arrangement
  face-sides solid s flat shape first d known holds = from (among (λ (u : Sight). (HasShape u × Looked u) × AllByRecursion (λ (f : Facet). contains d.1 (point_on f.poly (picked u.arrangement f.corners)) ≡ true) (facets_of u.poly)) (shows (point_of s)) (sights_of d)
      (all_both (λ u. HasShape u × Looked u) (λ (u : Sight). AllByRecursion (λ (f : Facet). contains d.1 (point_on f.poly (picked u.arrangement f.corners)) ≡ true) (facets_of u.poly)) _ (λ u a b. (a, b)) (sights_of d)
      (all_both HasShape Looked _ (λ u a b. (a, b)) (sights_of d) (sights_of-shape m d.0 d.1 known.0.0) known.0.1) (sights-keep m sound.dim d.0 d.1 known.0.0))
      (sym (cell-seen (point_of s) (λ e. absurd (omega (arith, flat, e))) d) ∙ holds))
    where
      from : (u : Sight) × ((HasShape u × Looked u) × AllByRecursion (λ (f : Facet). contains d.1 (point_on f.poly (picked u.arrangement f.corners)) ≡ true) (facets_of u.poly)) × (shows (point_of s) u ≡ true) → AllByRecursion (λ (f : Facet). In f.poly (picked s.arrangement f.corners)) (facets_of s.poly)
      from (u, ((ushape, looked), keeps), shown) =
          let both = and_parts (dim_of s.poly == dim_of u.poly) (same_list (sorted s.arrangement) (sorted u.arrangement)) shown in
          let dims : dim_of s.poly ≡ dim_of u.poly = eqb-true (dim_of s.poly) (dim_of u.poly) both.0 in
          let sets : sorted s.arrangement ≡ sorted u.arrangement = same_text (sorted s.arrangement) (sorted u.arrangement) (sym both.1) in
          let poly : s.poly ≡ u.poly = poly-told s.poly u.poly dims (sym shape.corners ∙ sym (length-sorted s.arrangement) ∙ ap length sets ∙ length-sorted u.arrangement ∙ ushape.corners) in
          let two : dim_of u.poly ≡ 2 = sym dims ∙ flat in
          let (o, under) = some-answer m sound (seen_under m u.poly u.arrangement) (looked (and_from (m.dim == 3) (dim_of u.poly == 2) (eq-eqb m.dim 3 solid) (eq-eqb (dim_of u.poly) 2 two))) in
          let turned : relative u.poly s.arrangement u.arrangement ≡ Some o =
          sym (ap (λ f. option_and_then (λ own. relative u.poly own u.arrangement) (option_map (λ (t : Sight). t.arrangement) f)) (ap (first_sight m) (sym (shows-true (point_of s) u shown)) ∙ first)) ∙ under in
          let sides : AllByRecursion (λ x. In Segment (picked u.arrangement x)) (edges_of u.poly) = all_mapped (λ (f : Facet). In f.poly (picked u.arrangement f.corners)) (λ x. record { poly = Segment; corners = x }) (edges_of u.poly)
          (subst (AllByRecursion (λ (f : Facet). In f.poly (picked u.arrangement f.corners))) (polygon-facets u.poly two)
          (all_weaker (λ (f : Facet). contains d.1 (point_on f.poly (picked u.arrangement f.corners)) ≡ true) (λ (f : Facet). In f.poly (picked u.arrangement f.corners)) (λ f h. known.1 (λ (e : ℕ × Cell). contains e.1 (point_on f.poly (picked u.arrangement f.corners))) h) (facets_of u.poly) keeps)) in
          subst (λ p. AllByRecursion (λ (f : Facet). In f.poly (picked s.arrangement f.corners)) (facets_of p)) (sym poly)
          (subst (AllByRecursion (λ (f : Facet). In f.poly (picked s.arrangement f.corners))) (sym (polygon-facets u.poly two))
          (all_map (λ (f : Facet). In f.poly (picked s.arrangement f.corners)) (λ x. record { poly = Segment; corners = x }) (edges_of u.poly) (turned-edges (λ l. in_some (record { dim = 1; vertices = l }) cells ≡ true) u.poly s.arrangement u.arrangement o two ushape.corners turned sides)))

  -- the faces in the chart are polygons with different vertices
  pub shapes : (d : ℕ) → d ≢ 0 → AllByRecursion HasShape (chart_stratum m cells d)
  unfolding chart_stratum
  shapes d ne = all_filter HasShape (λ s. in_some (point_of s) cells) (stratum m d) (subst (AllByRecursion HasShape) (sym (stratum-own m d ne))
      (firsts-all HasShape (filter (λ s. dim_of s.poly == d) (sights (placed_cells m))) (all_filter HasShape (λ s. dim_of s.poly == d) (sights (placed_cells m))
      (all-of_cells HasShape m (all_weaker (λ (c : ℕ × Cell). IsSoundCell m c.1) (λ c. AllByRecursion HasShape (sights_of c)) (λ c s. sights_of-shape m c.0 c.1 s) (placed_cells m) (all_enumerated (IsSoundCell m) 0 m.cells sound.cells))))))

  stratum-firsts : (d : ℕ) → d ≢ 0 → AllByRecursion (IsFirst m) (chart_stratum m cells d)
  unfolding chart_stratum
  stratum-firsts d ne = all_filter (IsFirst m) (λ s. in_some (point_of s) cells) (stratum m d) (stratum-first m d ne)

  -- without a twist the sides of the faces in the chart are had by the cells
  pub sides-inside : m.dim ≡ 3 → first_twist (held_faces m cells) (face_sights cells) ≡ None → AllByRecursion (λ (s : Sight). AllByRecursion (λ (f : Facet). In f.poly (picked s.arrangement f.corners)) (facets_of s.poly)) (chart_stratum m cells 2)
  unfolding Known
  sides-inside solid none = all_both (λ s. HasShape s × OfDim 2 s) (λ s. IsFirst m s × (in_some (point_of s) cells ≡ true)) (λ (s : Sight). AllByRecursion (λ (f : Facet). In f.poly (picked s.arrangement f.corners)) (facets_of s.poly))
      (λ s a b. let (d, known, holds) = among Known (λ (d : ℕ × Cell). contains d.1 (point_of s)) cells knowns b.1 in face-sides solid s a.1 a.0 b.0 d known holds) (chart_stratum m cells 2)
      (all_both HasShape (OfDim 2) _ (λ s a b. (a, b)) (chart_stratum m cells 2) (shapes 2 two) (stratum-of_dim m cells 2 two))
      (all_both (IsFirst m) (λ s. in_some (point_of s) cells ≡ true) _ (λ s a b. (a, b)) (chart_stratum m cells 2) (stratum-firsts 2 two) (stratum-inside 2))
    where
      two : ◌≢◌ {A = ℕ} 2 0
      two e = absurd (omega arith)

      knowns : AllByRecursion Known cells
      knowns = all_both (λ (d : ℕ × Cell). IsSoundCell m d.1 × AllByRecursion Looked (sights_of d)) (λ (d : ℕ × Cell). (q : ℕ × Cell → Bool) → q d ≡ true → list_any q cells ≡ true) Known (λ d a b. (a, b)) cells
          (all_both (λ (d : ℕ × Cell). IsSoundCell m d.1) (λ d. AllByRecursion Looked (sights_of d)) _ (λ d a b. (a, b)) cells sounds (untwisted none)) (stands cells)
