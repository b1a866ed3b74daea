-- Which cells have the faces that a rank holds: the sides of a face are edges of each cell that has it, seen under some orientation.
use Rattle.std.proofs.Common.{◌≡◌, ℕ, ◌<◌, Bool, true, false, ◌||◌, ◌&&◌, ◌==◌, min, max, List, [], ◌∷◌, length, get_or, set, None, Some, sym, ap, ◌∙◌, subst, ⊎_elim, arith}
use Rattle.std.specs.Prelude.{slice_index}
use Rattle.std.specs.List.{list_any, list_all, slice_get, position_or_len, AllByRecursion, enumerate_from}
use Rattle.std.specs.Cmp.Lexicographic.{same_text}
use Rattle.std.proofs.lemmas.Bool.{and_parts, eqb-true, or_cases, or_left, or_right, cases_eq}
use Rattle.std.proofs.lemmas.List.{get_or-set_same, get_or-set_other, get_or_default}
use Rattle.std.proofs.lemmas.List.Sums.{passes_at_first}
use Rattle.std.proofs.lemmas.Option.{slice_get-get_or}
use Rattle.plain_lists.specs.Lists.{picked, same_list, sorted}
use Rattle.plain_lists.proofs.Each.{all_at, all_weaker, all_mapped, each_passes}
use Rattle.plain_lists.proofs.Finding.{any_map, any_enumerated, any_weaker, same_tests, position-within}
use Rattle.plain_lists.proofs.Sorted.{same_list-self}
use Rattle.plain_lists.proofs.Below.{picked-picked}
use Rattle.mesh_defs.specs.declared.Poly.TheVariants.{Vertex, Segment}
use Rattle.mesh_defs.specs.Tables.{Facet, dim_of, corner_count, facets_of, edges_of, facet_at}
use Rattle.mesh_defs.specs.Mesh.{Cell}
use Rattle.mesh_defs.specs.Points.{Point, Sight, same_point, point_on, point_of, shows, vertex_sight, cell_edge, cell_edges, cell_face, cell_faces}
use Rattle.mesh_defs.specs.Diagram.{place_in}
use Rattle.mesh_defs.proofs.RightMeshes.{are_corners}
use Rattle.mesh_laws.proofs.Firsts.{shows-true}
use Rattle.mesh_laws.proofs.Entries.{shows-edge_ends}
use Rattle.rank_laws.proofs.Shapes.{is_edge_of, is_pair, is_side_of, is_face_of, facets-are_faces}
use Rattle.rank_laws.proofs.Found.{two-entries, sorted-turned, shows-list}
use Rattle.rank_laws.proofs.TurnedEdges.{polygon-facets, pair-below, turned-edges}
use Rattle.rank_laws.specs.diagram_laws.Strata.{face_sights, first_twist, turn_among}
use Rattle.rank_laws.proofs.reach_laws.Tables.{any-flat_map}
use Rattle.local_points.specs.Cells.{cell_at, faces_seen}
use Rattle.rank_cones.specs.held_points.Held.{Held}
use Rattle.rank_chart_laws.specs.rank_diagram_laws.Parts.{Parts, IsCellPart, IsFacePart, AreParts}
use Rattle.rank_cones.specs.Placed.{IsOn, is_twisted, sight_at}
use Rattle.rank_cones.specs.Seen.{HasFace, HasSides, AreSeen, AreSeeing, AreSolidsOn}
use Rattle.rank_cones.proofs.Rows.{face-is_at, length-faces}
use Rattle.rank_cones.proofs.FaceRows.{face-at, facet-shown, facet-long, own-poly, own-turn}
use Rattle.rank_cones.proofs.Polygons.{pair-long}
use Rattle.rank_cones.proofs.Strata.{some-answer, turned-all, cell-kind}

-- ---- what is noted

-- what is noted at a place stands there
pub note-made : (P : ℕ → ℕ → Type 0) (notes : List ℕ) (at v : ℕ) → at < length notes → P at v → (k : ℕ) → k ≡ at → P k (slice_index (set notes at v) k)
note-made P notes at v low here k same = subst (λ j. P j (slice_index (set notes at v) j)) (sym same) (subst (P at) (sym (get_or-set_same notes at v 0 low)) here)

-- a note that is right where it is written leaves each right note right
pub note-kept : (P : ℕ → ℕ → Type 0) (notes : List ℕ) (at v : ℕ) → at < length notes → P at v → (k : ℕ) → P k (slice_index notes k) → P k (slice_index (set notes at v) k)
note-kept P notes at v low here k before = ⊎_elim
    (note-made P notes at v low here k)
    (λ (other : k ≡ at → ⊥). subst (P k) (sym (get_or-set_other notes at k v 0 other)) before)
    (cases_eq k at)

-- ---- edges

-- two edges have the same ends where these stand in one order or the other
same-pairs : (a b c d : ℕ) → (same_list (a ∷ b ∷ []) (c ∷ d ∷ []) || same_list (a ∷ b ∷ []) (d ∷ c ∷ [])) ≡ same_point (point_on Segment (a ∷ b ∷ [])) (point_on Segment (c ∷ d ∷ []))
same-pairs a b c d = same_tests (same_list (a ∷ b ∷ []) (c ∷ d ∷ []) || same_list (a ∷ b ∷ []) (d ∷ c ∷ [])) (same_point (point_on Segment (a ∷ b ∷ [])) (point_on Segment (c ∷ d ∷ [])))
    (λ h. ⊎_elim
    (λ e. shows-list Segment (a ∷ b ∷ []) (c ∷ d ∷ []) 0 (ap sorted (same_text (a ∷ b ∷ []) (c ∷ d ∷ []) (sym e))))
    (λ e. shows-list Segment (a ∷ b ∷ []) (c ∷ d ∷ []) 0 (ap sorted (same_text (a ∷ b ∷ []) (d ∷ c ∷ []) (sym e)) ∙ sorted-turned d c))
    (or_cases (same_list (a ∷ b ∷ []) (c ∷ d ∷ [])) (same_list (a ∷ b ∷ []) (d ∷ c ∷ [])) h))
    (λ h.
    let both = and_parts (min a b == min c d) (max a b == max c d) (sym (shows-edge_ends 0 0 a b c d) ∙ h) in
    let low = eqb-true (min a b) (min c d) both.0 in
    let high = eqb-true (max a b) (max c d) both.1 in
    ⊎_elim
    (λ (same : a ≡ c). or_left (same_list (a ∷ b ∷ []) (c ∷ d ∷ [])) _ (let rest : b ≡ d = omega (arith, same, low, high) in ap (λ l. same_list (a ∷ b ∷ []) l) (λ i. sym same i ∷ sym rest i ∷ []) ∙ same_list-self (a ∷ b ∷ [])))
    (λ (other : a ≡ c → ⊥). or_right (same_list (a ∷ b ∷ []) (c ∷ d ∷ [])) _ (let first : a ≡ d = omega (arith, other, low, high) in let second : b ≡ c = omega (arith, other, low, high) in ap (λ l. same_list (a ∷ b ∷ []) l) (λ i. sym first i ∷ sym second i ∷ []) ∙ same_list-self (a ∷ b ∷ [])))
    (cases_eq a c))

pub same-ends : (ends others : List ℕ) → length ends ≡ 2 → length others ≡ 2 → (same_list ends (slice_index others 0 ∷ slice_index others 1 ∷ []) || same_list ends (slice_index others 1 ∷ slice_index others 0 ∷ [])) ≡ same_point (point_on Segment ends) (point_on Segment others)
same-ends ends others two two' =
    let e = two-entries ends two in
    let o = two-entries others two' in
    (λ i. same_list (e i) (slice_index others 0 ∷ slice_index others 1 ∷ []) || same_list (e i) (slice_index others 1 ∷ slice_index others 0 ∷ []))
    ∙ same-pairs (slice_index ends 0) (slice_index ends 1) (slice_index others 0) (slice_index others 1)
    ∙ (λ i. same_point (point_on Segment (sym e i)) (point_on Segment (sym o i)))

-- a pair of corners that is an edge of the cell's polytope, one way or the other, is among the cell's edges
edge-seen : (n : ℕ) (cell : Cell) (e : List ℕ) → length e ≡ 2 → is_edge_of cell.poly e ≡ true → list_any (shows (point_on Segment (picked cell.vertices e))) (cell_edges n cell) ≡ true
edge-seen n cell e two there =
    any_map (shows q) (cell_edge n cell) (enumerate_from 0 (edges_of cell.poly)) ∙ any_enumerated (λ f. same_point q (point_on Segment (picked cell.vertices f))) 0 (edges_of cell.poly)
    ∙ any_weaker (λ f. same_list f e || same_list f (get_or e 1 0 ∷ get_or e 0 0 ∷ [])) (λ f. same_point q (point_on Segment (picked cell.vertices f))) one (edges_of cell.poly) there
  where
    q : Point
    q = point_on Segment (picked cell.vertices e)

    turned : sorted (picked cell.vertices e) ≡ sorted (picked cell.vertices (get_or e 1 0 ∷ get_or e 0 0 ∷ []))
    turned = ap (λ l. sorted (picked cell.vertices l)) (two-entries e two) ∙ sorted-turned (get_or cell.vertices (get_or e 0 0) 0) (get_or cell.vertices (get_or e 1 0) 0)

    one : (f : List ℕ) → (same_list f e || same_list f (get_or e 1 0 ∷ get_or e 0 0 ∷ [])) ≡ true → same_point q (point_on Segment (picked cell.vertices f)) ≡ true
    one f h = shows-list Segment (picked cell.vertices e) (picked cell.vertices f) 0 (⊎_elim
        (λ x. ap (λ l. sorted (picked cell.vertices l)) (sym (same_text f e (sym x))))
        (λ x. turned ∙ ap (λ l. sorted (picked cell.vertices l)) (sym (same_text f (get_or e 1 0 ∷ get_or e 0 0 ∷ []) (sym x))))
        (or_cases (same_list f e) (same_list f (get_or e 1 0 ∷ get_or e 0 0 ∷ [])) h))

-- the sides of a face of a solid, as the solid sees it, are edges of the solid
sides-seen : (n : ℕ) (cell : Cell) (f : ℕ) → dim_of cell.poly ≡ 3 → f < length (facets_of cell.poly) → AllByRecursion (λ e. list_any (shows (point_on Segment (picked (picked cell.vertices (facet_at cell.poly f).corners) e))) (cell_edges n cell) ≡ true) (edges_of (facet_at cell.poly f).poly)
sides-seen n cell f solid low = all_mapped Told (λ e. record { poly = Segment; corners = e }) (edges_of facet.poly)
    (subst (AllByRecursion Told) (polygon-facets facet.poly (face-at cell.poly f solid low).flat) (all_weaker (λ (e : Facet). Side e ≡ true) Told told (facets_of facet.poly) sides))
  where
    facet : Facet
    facet = facet_at cell.poly f

    Told : Facet → Type 0
    Told e = list_any (shows (point_on Segment (picked (picked cell.vertices facet.corners) e.corners))) (cell_edges n cell) ≡ true

    Side : Facet → Bool
    Side e = is_pair (length facet.corners) e.corners && is_side_of cell.poly (record { poly = e.poly; corners = picked facet.corners e.corners })

    sides : AllByRecursion (λ (e : Facet). Side e ≡ true) (facets_of facet.poly)
    sides =
        let face = all_at (λ g. is_face_of cell.poly g ≡ true) (facets_of cell.poly) f (record { poly = Vertex; corners = [] }) (each_passes (is_face_of cell.poly) (facets_of cell.poly) (facets-are_faces cell.poly solid)) low in
        each_passes Side (facets_of facet.poly) (and_parts (are_corners (corner_count cell.poly) facet.corners) (list_all Side (facets_of facet.poly)) (and_parts ((length facet.corners == corner_count facet.poly) && (dim_of facet.poly == 2)) (are_corners (corner_count cell.poly) facet.corners && list_all Side (facets_of facet.poly)) face).1).1

    told : (e : Facet) → Side e ≡ true → Told e
    told e h =
        let both = and_parts (is_pair (length facet.corners) e.corners) (is_side_of cell.poly (record { poly = e.poly; corners = picked facet.corners e.corners })) h in
        let edge = and_parts (is_pair (corner_count cell.poly) (picked facet.corners e.corners)) (is_edge_of cell.poly (picked facet.corners e.corners)) (and_parts (dim_of e.poly == 1) _ both.1).1 in
        ap (λ l. list_any (shows (point_on Segment l)) (cell_edges n cell)) (picked-picked cell.vertices facet.corners e.corners (pair-below (length facet.corners) e.corners both.0))
        ∙ edge-seen n cell (picked facet.corners e.corners) (pair-long (corner_count cell.poly) (picked facet.corners e.corners) edge.0) edge.1

-- ---- faces

-- the solids of parts are on their faces
pub solids-on : (p : Parts) → AreParts p → AreSolidsOn p.faces p.cells
solids-on p fit = all_weaker (IsCellPart p) (λ (c : ℕ × Cell). dim_of c.1.poly ≡ 3 → IsOn 3 p.faces c.1) (λ c part solid. ⊎_elim (λ on. on) (λ (flat : IsOn 2 p.edges c.1). absurd (omega (arith, solid, flat.dim_is))) (cell-kind p fit c part)) p.cells fit.cells

module _ (p : Parts) (fit : AreParts p) (k i : ℕ) (has : HasFace p.cells p.faces k i) where
  abbrev cell : Cell
  cell = (cell_at p.cells i).1

  abbrev facet : Facet
  facet = facet_at (cell_at p.cells i).1.poly has.facet

  abbrev list : List ℕ
  list = picked (cell_at p.cells i).1.vertices (facet_at (cell_at p.cells i).1.poly has.facet).corners

  on : IsOn 3 p.faces (cell_at p.cells i).1
  on = all_at (λ (c : ℕ × Cell). dim_of c.1.poly ≡ 3 → IsOn 3 p.faces c.1) p.cells i (cell_at [] 0) (solids-on p fit) has.cell has.solid

  -- without a twist a cell sees its face under some orientation, and so has the sides of the face
  pub has-sides : k < length p.faces → first_twist p.faces (face_sights p.cells) ≡ None → HasSides (cell_at p.cells i) (sight_at p.faces k)
  has-sides low none =
      let n : ℕ = (cell_at p.cells i).0 in
      let own : Sight = sight_at p.faces k in
      let there : slice_get p.faces (place_in p.faces (point_on facet.poly list)) ≡ Some own = ap (slice_get p.faces) (sym has.place) ∙ slice_get-get_or p.faces k (vertex_sight 0) low in
      let here = all_at (λ (s : Sight). is_twisted p.faces s ≡ false) (cell_faces n cell) has.facet (vertex_sight 0)
      (all_at (λ (c : ℕ × Cell). AllByRecursion (λ (s : Sight). is_twisted p.faces s ≡ false) (cell_faces c.0 c.1)) p.cells i (cell_at [] 0) (turned-all p.faces p.cells none) has.cell) (omega (arith, length-faces n cell has.solid, has.among)) in
      let (o, turn) = some-answer (turn_among p.faces facet.poly list) (ap (is_twisted p.faces) (sym (face-is_at n cell has.solid has.facet has.among)) ∙ here) in
      let told = turned-edges (λ l. list_any (shows (record { dim = 1; vertices = l })) (cell_edges n cell) ≡ true) facet.poly own.arrangement list o (face-at cell.poly has.facet has.solid has.among).flat
      (facet-long p.faces fit.faces cell on has.facet has.among) (sym (own-turn p.faces fit.faces cell on has.facet has.among own there) ∙ turn) (sides-seen n cell has.facet has.solid has.among) in
      subst (λ q. AllByRecursion (λ e. list_any (shows (point_on Segment (picked own.arrangement e))) (cell_edges n cell) ≡ true) (edges_of q)) (sym (own-poly p.faces fit.faces cell on has.facet has.among own there)) told

-- the place of a facet of a solid is that of a face
pub facet-within_faces : (held : Held) (cells : List (ℕ × Cell)) → AllByRecursion IsFacePart held.faces → AreSolidsOn held.faces cells → (i f : ℕ) → i < length cells → dim_of (cell_at cells i).1.poly ≡ 3 → f < length (facets_of (cell_at cells i).1.poly)
    → place_in held.faces (point_on (facet_at (cell_at cells i).1.poly f).poly (picked (cell_at cells i).1.vertices (facet_at (cell_at cells i).1.poly f).corners)) < length held.faces
facet-within_faces held cells all solids i f low solid among =
    let on : IsOn 3 held.faces (cell_at cells i).1 = all_at (λ (c : ℕ × Cell). dim_of c.1.poly ≡ 3 → IsOn 3 held.faces c.1) cells i (cell_at [] 0) solids low solid in
    position-within (shows (point_on (facet_at (cell_at cells i).1.poly f).poly (picked (cell_at cells i).1.vertices (facet_at (cell_at cells i).1.poly f).corners))) held.faces (facet-shown held.faces all (cell_at cells i).1 on f among)

-- a face at its place that some solids see is had by one of them
pub seen-by : (cells : List (ℕ × Cell)) (faces : List Sight) (k : ℕ) (q : Point) → AllByRecursion (λ (c : ℕ × Cell). dim_of c.1.poly ≡ 3) cells → k ≡ place_in faces q → list_any (shows q) (faces_seen cells) ≡ true → (i : ℕ) × HasFace cells faces k i
seen-by cells faces k q solids at seen =
    let some : list_any (λ (c : ℕ × Cell). list_any (shows q) (cell_faces c.0 c.1)) cells ≡ true = sym (any-flat_map (shows q) (λ (c : ℕ × Cell). cell_faces c.0 c.1) cells) ∙ seen in
    let i : ℕ = position_or_len (λ (c : ℕ × Cell). list_any (shows q) (cell_faces c.0 c.1)) cells in
    let inside : i < length cells = position-within (λ (c : ℕ × Cell). list_any (shows q) (cell_faces c.0 c.1)) cells some in
    let n : ℕ = (cell_at cells i).0 in
    let cell : Cell = (cell_at cells i).1 in
    let solid : dim_of cell.poly ≡ 3 = all_at (λ (c : ℕ × Cell). dim_of c.1.poly ≡ 3) cells i (cell_at [] 0) solids inside in
    let here : list_any (shows q) (cell_faces n cell) ≡ true = passes_at_first (λ (c : ℕ × Cell). list_any (shows q) (cell_faces c.0 c.1)) cells (cell_at [] 0) inside in
    let f : ℕ = position_or_len (shows q) (cell_faces n cell) in
    let within : f < length (cell_faces n cell) = position-within (shows q) (cell_faces n cell) here in
    let among : f < length (facets_of cell.poly) = omega (arith, within, length-faces n cell solid) in
    let same : q ≡ point_of (cell_face n cell (f, facet_at cell.poly f)) = shows-true q (get_or (cell_faces n cell) f (vertex_sight 0)) (passes_at_first (shows q) (cell_faces n cell) (vertex_sight 0) within) ∙ ap point_of (face-is_at n cell solid f among) in
    (i, record { cell = inside; solid = solid; facet = f; among = among; place = at ∙ ap (place_in faces) same })

-- the cell that is told for a face that some cell has, has it
pub seeing-has : (cells : List (ℕ × Cell)) (faces : List Sight) (seeing : List ℕ) → AreSeen cells faces → AreSeeing cells faces seeing → (k i : ℕ) → k < length faces → i ≡ get_or seeing k i → HasFace cells faces k i
seeing-has cells faces seeing seen told k i low at =
    let (j, has) = seen k low in
    subst (HasFace cells faces k) (get_or_default seeing k 0 i (omega (arith, told.count, low)) ∙ sym at) (told.each k j has)
