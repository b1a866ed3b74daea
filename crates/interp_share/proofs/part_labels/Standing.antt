-- Where the points of marks stand among the points of a part.
use Rattle.std.proofs.Common.{◌≡◌, ◌≢◌, ◌⊎◌, ℕ, ◌+◌, ◌<◌, ◌≤◌, Bool, true, false, ◌||◌, ◌&&◌, ◌==◌, List, [], ◌∷◌, ◌++◌, map, length, refl, sym, ap, ap₂, ◌∙◌, subst, ⊎_elim, arith}
use Rattle.std.specs.Prelude.{slice_index, position, Some}
use Rattle.std.specs.List.{list_any, position_or_len, AllByRecursion}
use Rattle.std.proofs.lemmas.Bool.{eq-eqb}
use Rattle.std.proofs.lemmas.List.{length-map, length-append}
use Rattle.std.proofs.lemmas.List.Folds.{list_any-append}
use Rattle.plain_lists.specs.Lists.{sorted, same_set}
use Rattle.plain_lists.proofs.Each.{all_weaker, all_map, all_from}
use Rattle.plain_lists.proofs.Finding.{any_map, any_agree, any_same, position_map, position_agree, position-append_found, position-append_none, position-within}
use Rattle.input_laws.proofs.place_laws.Firsts.{position-some}
use Rattle.mesh_defs.specs.declared.Poly.TheVariants.{Segment}
use Rattle.mesh_defs.specs.Tables.{dim_of}
use Rattle.mesh_defs.specs.Mesh.{Mesh, Cell, Mark}
use Rattle.mesh_defs.specs.Points.{Point, Sight, point_on, point_of, shows, cell_sight, vertex_sight, marked_point}
use Rattle.mesh_defs.specs.Diagram.{place_in}
use Rattle.mesh_laws.proofs.Containing.{shows-vertex, eqb-sym}
use Rattle.rank_laws.proofs.Found.{one-entry, two-entries}
use Rattle.rank_laws.proofs.diagram_laws.Edges.{OfDim, none-of_dim}
use Rattle.rank_chart_laws.specs.mark_laws.Sets.{IsShort}
use Rattle.rank_chart_laws.proofs.mark_laws.Marks.{on-cell, on-vertex, on-edge, not-above}
use Rattle.local_points.specs.Points.{faces_among, edges_among}
use Rattle.rank_defs.specs.Spread.{ScatterPart}
use Rattle.dist_state.specs.scatter_state.Parts.{mark_at}
use Rattle.interp_share.specs.part_labels.Parts.{IsPartOf, cells_among, points_of_part}
use Rattle.interp_share.proofs.part_labels.Given.{dims, points-show, mark-placed, faces-of_dim, edges-of_dim, no-face}

or_false : (b : Bool) → (b || false) ≡ b
or_false true = refl
or_false false = refl

-- what two lists show, the first shows where the second does not, and the second where the first does not
in-first : (p : Point) (xs ys : List Sight) → list_any (shows p) (xs ++ ys) ≡ true → list_any (shows p) ys ≡ false → list_any (shows p) xs ≡ true
in-first p xs ys h none = sym (or_false (list_any (shows p) xs)) ∙ ap (λ b. list_any (shows p) xs || b) (sym none) ∙ sym (list_any-append (shows p) xs ys) ∙ h

in-second : (p : Point) (xs ys : List Sight) → list_any (shows p) (xs ++ ys) ≡ true → list_any (shows p) xs ≡ false → list_any (shows p) ys ≡ true
in-second p xs ys h none = ap (λ b. b || list_any (shows p) ys) (sym none) ∙ sym (list_any-append (shows p) xs ys) ∙ h

in-neither : (p : Point) (xs ys : List Sight) → list_any (shows p) xs ≡ false → list_any (shows p) ys ≡ false → list_any (shows p) (xs ++ ys) ≡ false
in-neither p xs ys h k = list_any-append (shows p) xs ys ∙ ap₂ (λ a b. a || b) h k

-- cells, vertices, faces and edges, end to end
module _ (p : Point) (tops vs faces edges : List Sight) (there : list_any (shows p) (tops ++ vs ++ faces ++ edges) ≡ true) where
  top-place : list_any (shows p) vs ≡ false → list_any (shows p) faces ≡ false → list_any (shows p) edges ≡ false → (list_any (shows p) tops ≡ true) × (place_in (tops ++ vs ++ faces ++ edges) p ≡ place_in tops p)
  top-place no-v no-f no-e =
      let three = in-first p (tops ++ vs ++ faces) edges there no-e in
      let two = in-first p (tops ++ vs) faces three no-f in
      let one = in-first p tops vs two no-v in
      (one, position-append_found (shows p) (tops ++ vs ++ faces) edges three ∙ position-append_found (shows p) (tops ++ vs) faces two ∙ position-append_found (shows p) tops vs one)

  vertex-place : list_any (shows p) tops ≡ false → list_any (shows p) faces ≡ false → list_any (shows p) edges ≡ false → (list_any (shows p) vs ≡ true) × (place_in (tops ++ vs ++ faces ++ edges) p ≡ length tops + place_in vs p)
  vertex-place no-t no-f no-e =
      let three = in-first p (tops ++ vs ++ faces) edges there no-e in
      let two = in-first p (tops ++ vs) faces three no-f in
      (in-second p tops vs two no-t, position-append_found (shows p) (tops ++ vs ++ faces) edges three ∙ position-append_found (shows p) (tops ++ vs) faces two ∙ position-append_none (shows p) tops vs no-t)

  face-place : list_any (shows p) tops ≡ false → list_any (shows p) vs ≡ false → list_any (shows p) edges ≡ false → (list_any (shows p) faces ≡ true) × (place_in (tops ++ vs ++ faces ++ edges) p ≡ length tops + length vs + place_in faces p)
  face-place no-t no-v no-e =
      let three = in-first p (tops ++ vs ++ faces) edges there no-e in
      let none = in-neither p tops vs no-t no-v in
      (in-second p (tops ++ vs) faces three none, position-append_found (shows p) (tops ++ vs ++ faces) edges three ∙ position-append_none (shows p) (tops ++ vs) faces none ∙ ap (λ n. n + place_in faces p) (length-append tops vs))

  edge-place : list_any (shows p) tops ≡ false → list_any (shows p) vs ≡ false → list_any (shows p) faces ≡ false → (list_any (shows p) edges ≡ true) × (place_in (tops ++ vs ++ faces ++ edges) p ≡ length tops + length vs + length faces + place_in edges p)
  edge-place no-t no-v no-f =
      let none = in-neither p (tops ++ vs) faces (in-neither p tops vs no-t no-v) no-f in
      (in-second p (tops ++ vs ++ faces) edges there none, position-append_none (shows p) (tops ++ vs ++ faces) edges none ∙ ap (λ n. n + place_in edges p) (length-append (tops ++ vs) faces ∙ ap (λ n. n + length faces) (length-append tops vs)))

-- ---- cells and vertices as sights

-- a cell is shown where its vertices are these
pub whole-test : (d : ℕ) (vs : List ℕ) (c : ℕ × Cell) → dim_of c.1.poly ≡ d → shows (record { dim = d; vertices = sorted vs }) (cell_sight c.0 c.1) ≡ same_set vs c.1.vertices
whole-test d vs c e = ap (λ b. b && same_set vs c.1.vertices) (eq-eqb d (dim_of c.1.poly) (sym e))

whole-tests : (d : ℕ) (vs : List ℕ) (cells : List (ℕ × Cell)) → AllByRecursion (λ (c : ℕ × Cell). dim_of c.1.poly ≡ d) cells → AllByRecursion (λ (c : ℕ × Cell). shows (record { dim = d; vertices = sorted vs }) (cell_sight c.0 c.1) ≡ same_set vs c.1.vertices) cells
whole-tests d vs cells h = all_weaker (λ (c : ℕ × Cell). dim_of c.1.poly ≡ d) (λ (c : ℕ × Cell). shows (record { dim = d; vertices = sorted vs }) (cell_sight c.0 c.1) ≡ same_set vs c.1.vertices) (whole-test d vs) cells h

vertex-test : (v w : ℕ) → shows (point_of (vertex_sight v)) (vertex_sight w) ≡ (w == v)
vertex-test v w = shows-vertex v w ∙ eqb-sym v w

-- ---- marks by their dimension

pub record IsOnCell (part : ScatterPart) (k : Mark) : Type 0 where
  pub short : IsShort k.vertices
  pub place : position (λ (c : ℕ × Cell). same_set k.vertices c.1.vertices) part.cells ≡ Some (place_in (points_of_part part) (marked_point k))

pub record IsOnVertex (part : ScatterPart) (k : Mark) : Type 0 where
  pub one : length k.vertices ≡ 1
  pub there : list_any (λ w. w == slice_index k.vertices 0) part.vertices ≡ true
  pub place : place_in (points_of_part part) (marked_point k) ≡ length part.cells + position_or_len (λ w. w == slice_index k.vertices 0) part.vertices

pub record IsOnEdge (part : ScatterPart) (k : Mark) : Type 0 where
  pub two : length k.vertices ≡ 2
  pub found : position (shows (point_on Segment (slice_index k.vertices 0 ∷ slice_index k.vertices 1 ∷ []))) (edges_among part.cells) ≡ Some (place_in (edges_among part.cells) (marked_point k))
  pub within : place_in (edges_among part.cells) (marked_point k) < length (edges_among part.cells)
  pub place : place_in (points_of_part part) (marked_point k) ≡ length part.cells + length part.vertices + length (faces_among part.cells) + place_in (edges_among part.cells) (marked_point k)

pub record IsOnFace (part : ScatterPart) (k : Mark) : Type 0 where
  pub found : position (shows (record { dim = 2; vertices = sorted k.vertices })) (faces_among part.cells) ≡ Some (place_in (faces_among part.cells) (marked_point k))
  pub within : place_in (faces_among part.cells) (marked_point k) < length (faces_among part.cells)
  pub place : place_in (points_of_part part) (marked_point k) ≡ length part.cells + length part.vertices + place_in (faces_among part.cells) (marked_point k)

module _ (part : ScatterPart) (m : Mesh) (a : List ℕ) (n r : ℕ) (is : IsPartOf part m a n r) (i : ℕ) (low : i < length part.marks) where
  there : list_any (shows (marked_point (mark_at part.marks i))) (cells_among part.cells ++ map vertex_sight part.vertices ++ faces_among part.cells ++ edges_among part.cells) ≡ true
  unfolding points_of_part
  there = points-show part m a n r is i low

  no-top : (mark_at part.marks i).dim ≢ m.dim → list_any (shows (marked_point (mark_at part.marks i))) (cells_among part.cells) ≡ false
  no-top ne = none-of_dim (marked_point (mark_at part.marks i)) m.dim (cells_among part.cells) ne (all_map (OfDim m.dim) (λ (c : ℕ × Cell). cell_sight c.0 c.1) part.cells (dims part m a n r is))

  no-vertex : (mark_at part.marks i).dim ≢ 0 → list_any (shows (marked_point (mark_at part.marks i))) (map vertex_sight part.vertices) ≡ false
  no-vertex ne = none-of_dim (marked_point (mark_at part.marks i)) 0 (map vertex_sight part.vertices) ne (all_map (OfDim 0) vertex_sight part.vertices (all_from (λ v. OfDim 0 (vertex_sight v)) (λ v. refl) part.vertices))

  no-other_face : (mark_at part.marks i).dim ≢ 2 → list_any (shows (marked_point (mark_at part.marks i))) (faces_among part.cells) ≡ false
  no-other_face ne = none-of_dim (marked_point (mark_at part.marks i)) 2 (faces_among part.cells) ne (faces-of_dim part m a n r is)

  no-edge : (mark_at part.marks i).dim ≢ 1 → list_any (shows (marked_point (mark_at part.marks i))) (edges_among part.cells) ≡ false
  no-edge ne = none-of_dim (marked_point (mark_at part.marks i)) 1 (edges_among part.cells) ne (edges-of_dim part m a n r is)

  high : 2 ≤ m.dim
  high = ⊎_elim (λ flat. omega (arith, flat)) (λ solid. omega (arith, solid)) is.mesh.sound.dim

  pub on-own_cell : (mark_at part.marks i).dim ≡ m.dim → IsOnCell part (mark_at part.marks i)
  unfolding points_of_part
  on-own_cell e =
      let k = mark_at part.marks i in
      let test : ℕ × Cell → Bool = λ c. same_set k.vertices c.1.vertices in
      let above : 2 ≤ k.dim = omega (arith, e, high) in
      let faces : list_any (shows (marked_point k)) (faces_among part.cells) ≡ false = ⊎_elim
      (λ (flat : m.dim ≡ 2). ap (list_any (shows (marked_point k))) (no-face part m a n r is flat))
      (λ (solid : m.dim ≡ 3). no-other_face (λ two. absurd (omega (arith, e, solid, two)))) is.mesh.sound.dim in
      let at = top-place (marked_point k) (cells_among part.cells) (map vertex_sight part.vertices) (faces_among part.cells) (edges_among part.cells) there (no-vertex (λ z. absurd (omega (arith, z, above)))) faces (no-edge (λ z. absurd (omega (arith, z, above)))) in
      let dims-k : AllByRecursion (λ (c : ℕ × Cell). dim_of c.1.poly ≡ k.dim) part.cells = subst (λ d. AllByRecursion (λ (c : ℕ × Cell). dim_of c.1.poly ≡ d) part.cells) (sym e) (dims part m a n r is) in
      let tests = whole-tests k.dim k.vertices part.cells dims-k in
      let some : list_any test part.cells ≡ true = sym (any_agree (λ (c : ℕ × Cell). shows (marked_point k) (cell_sight c.0 c.1)) test part.cells tests) ∙ sym (any_map (shows (marked_point k)) (λ (c : ℕ × Cell). cell_sight c.0 c.1) part.cells) ∙ at.0 in
      record {
        short = (on-cell m is.mesh k (mark-placed part m a n r is i low) e).short;
        place = position-some test part.cells some
            ∙ ap (λ n. Some n) (sym (at.1 ∙ position_map (shows (marked_point k)) (λ (c : ℕ × Cell). cell_sight c.0 c.1) part.cells ∙ position_agree (λ (c : ℕ × Cell). shows (marked_point k) (cell_sight c.0 c.1)) test part.cells tests));
      }

  pub on-own_vertex : (mark_at part.marks i).dim ≡ 0 → IsOnVertex part (mark_at part.marks i)
  unfolding points_of_part
  on-own_vertex e =
      let k = mark_at part.marks i in
      let v = slice_index k.vertices 0 in
      let is-one = (on-vertex m is.mesh k (mark-placed part m a n r is i low) e).one in
      let point : marked_point k ≡ point_of (vertex_sight v) = λ j. record { dim = e j; vertices = sorted (one-entry k.vertices is-one j) } in
      let at = vertex-place (marked_point k) (cells_among part.cells) (map vertex_sight part.vertices) (faces_among part.cells) (edges_among part.cells) there (no-top (λ z. absurd (omega (arith, z, e, high)))) (no-other_face (λ z. absurd (omega (arith, z, e)))) (no-edge (λ z. absurd (omega (arith, z, e)))) in
      record {
        one = is-one;
        there = sym (any_same (λ w. shows (point_of (vertex_sight v)) (vertex_sight w)) (λ w. w == v) (vertex-test v) part.vertices) ∙ sym (any_map (shows (point_of (vertex_sight v))) vertex_sight part.vertices) ∙ ap (λ q. list_any (shows q) (map vertex_sight part.vertices)) (sym point) ∙ at.0;
        place = at.1
            ∙ ap₂ (λ x y. x + y) (length-map part.cells (λ (c : ℕ × Cell). cell_sight c.0 c.1))
            (ap (place_in (map vertex_sight part.vertices)) point ∙ position_map (shows (point_of (vertex_sight v))) vertex_sight part.vertices
            ∙ position_agree (λ w. shows (point_of (vertex_sight v)) (vertex_sight w)) (λ w. w == v) part.vertices (all_from (λ w. shows (point_of (vertex_sight v)) (vertex_sight w) ≡ (w == v)) (vertex-test v) part.vertices));
      }

  counts : length (cells_among part.cells) + length (map vertex_sight part.vertices) ≡ length part.cells + length part.vertices
  counts = ap₂ (λ x y. x + y) (length-map part.cells (λ (c : ℕ × Cell). cell_sight c.0 c.1)) (length-map part.vertices vertex_sight)

  pub on-own_edge : (mark_at part.marks i).dim ≡ 1 → IsOnEdge part (mark_at part.marks i)
  unfolding points_of_part
  on-own_edge e =
      let k = mark_at part.marks i in
      let is-two = (on-edge m is.mesh k (mark-placed part m a n r is i low) e).two in
      let own : k.vertices ≡ slice_index k.vertices 0 ∷ slice_index k.vertices 1 ∷ [] = two-entries k.vertices is-two in
      let point : point_on Segment (slice_index k.vertices 0 ∷ slice_index k.vertices 1 ∷ []) ≡ marked_point k = λ j. record { dim = sym e j; vertices = sorted (sym own j) } in
      let at = edge-place (marked_point k) (cells_among part.cells) (map vertex_sight part.vertices) (faces_among part.cells) (edges_among part.cells) there (no-top (λ z. absurd (omega (arith, z, e, high)))) (no-vertex (λ z. absurd (omega (arith, z, e)))) (no-other_face (λ z. absurd (omega (arith, z, e)))) in
      record {
        two = is-two;
        found = ap (λ q. position (shows q) (edges_among part.cells)) point ∙ position-some (shows (marked_point k)) (edges_among part.cells) at.0;
        within = position-within (shows (marked_point k)) (edges_among part.cells) at.0;
        place = at.1 ∙ ap (λ n. n + length (faces_among part.cells) + place_in (edges_among part.cells) (marked_point k)) counts;
      }

  pub on-own_face : (mark_at part.marks i).dim ≢ m.dim → ((mark_at part.marks i).dim ≡ 2) ⊎ ((mark_at part.marks i).dim ≡ 3) → IsOnFace part (mark_at part.marks i)
  unfolding points_of_part
  on-own_face ne big =
      let k = mark_at part.marks i in
      let e : k.dim ≡ 2 = ⊎_elim (λ two. two) (λ three. absurd (⊎_elim (λ flat. not-above m is.mesh k (mark-placed part m a n r is i low) three flat) (λ solid. ne (three ∙ sym solid)) is.mesh.sound.dim)) big in
      let point : record { dim = 2; vertices = sorted k.vertices } ≡ marked_point k = λ j. record { dim = sym e j; vertices = sorted k.vertices } in
      let at = face-place (marked_point k) (cells_among part.cells) (map vertex_sight part.vertices) (faces_among part.cells) (edges_among part.cells) there (no-top ne) (no-vertex (λ z. absurd (omega (arith, z, e)))) (no-edge (λ z. absurd (omega (arith, z, e)))) in
      record {
        found = ap (λ q. position (shows q) (faces_among part.cells)) point ∙ position-some (shows (marked_point k)) (faces_among part.cells) at.0;
        within = position-within (shows (marked_point k)) (faces_among part.cells) at.0;
        place = at.1 ∙ ap (λ n. n + place_in (faces_among part.cells) (marked_point k)) counts;
      }
