use Rattle.std.proofs.Common.{◌≡◌, ◌≢◌, ◌⊎◌, ℕ, ◌+◌, ◌<◌, Option, List, [], ◌∷◌, map, length, Some, None, refl, sym, ap, ap₂, subst, ◌∙◌, ⊎_elim, inl, inr, arith}
use Rattle.std.specs.Prelude.{◌==◌, slice_index, position}
use Rattle.std.specs.List.{list_any, position_or_len}
use Rattle.std.proofs.lemmas.List.{length-map}
use Rattle.plain_lists.specs.Lists.{sorted}
use Rattle.plain_lists.proofs.Finding.{position-within}
use Rattle.mesh_defs.specs.declared.Poly.TheVariants.{Segment}
use Rattle.mesh_defs.specs.Tables.{dim_of}
use Rattle.mesh_defs.specs.Mesh.{Mesh, Mark}
use Rattle.mesh_defs.specs.Points.{point_on, shows, marked_point}
use Rattle.mesh_defs.specs.Diagram.{place_in}
use Rattle.plex_base.specs.Dim.{dim_number}
use Rattle.plex_base.specs.declared.dim.Dim.{Dim}
use Rattle.plex_base.specs.declared.dim.Dim.TheVariants.{Zero, One, Two, Three}
use Rattle.local_points.specs.Points.{Local, faces_among, edges_among}
use Rattle.rank_chart_laws.specs.meeting_laws.Sets.{Rising}
use Rattle.rank_defs.specs.Spread.{ScatterPart}
use Rattle.dist_state.specs.scatter_state.Parts.{cell_at, mark_at, number_of}
use Rattle.interp_share.specs.part_labels.Parts.{IsPartOf}
use Rattle.interp_share.proofs.part_labels.Given.{first-dim, mark-cell, few-cells, few-vertices, vertices-rise, few-faces, few-edges}
use Rattle.interp_share.proofs.part_labels.Standing.{IsOnFace, on-own_vertex, on-own_edge, on-own_face}
use Rattle.interp_share.proofs.part_labels.places.lower_place.Goals as goal

-- neither 0 nor 1
two-or-three : (d : Dim) → (d ≡ Zero → ⊥) → (d ≡ One → ⊥) → (dim_number d ≡ 2) ⊎ (dim_number d ≡ 3)
two-or-three Zero a b = absurd (a refl)
two-or-three One a b = absurd (b refl)
two-or-three Two a b = inl refl
two-or-three Three a b = inr refl

-- what is found is the place
some-same : (a b : ℕ) (o : Option ℕ) → o ≡ Some a → o ≡ Some b → a ≡ b
some-same a b o x y = let e : Some a ≡ Some b = sym x ∙ y in cc

none-not : (a : ℕ) (o : Option ℕ) → o ≡ None → o ≡ Some a → ⊥
none-not a o x y = let e : None ≡ Some a = sym x ∙ y in cc

-- how many cells there are
cell-count : (part : ScatterPart) (numbers : List ℕ) → numbers ≡ map number_of part.cells → length numbers ≡ length part.cells
cell-count part numbers are = ap length are ∙ length-map part.cells number_of

-- a mark that is on no cell is on a face, where it is on no vertex and no edge
on-face : (part : ScatterPart) (m : Mesh) (a : List ℕ) (n r : ℕ) (is : IsPartOf part m a n r) (i : ℕ) → i < length part.marks → (mark_at part.marks i).dim ≢ dim_of (cell_at part.cells 0).1.poly → ((mark_at part.marks i).dim ≡ 2) ⊎ ((mark_at part.marks i).dim ≡ 3) → IsOnFace part (mark_at part.marks i)
on-face part m a n r is i low ne big = on-own_face part m a n r is i low (λ e. ne (e ∙ sym (first-dim part m a n r is (mark-cell part m a n r is i low)))) big

pub overflow_cast-cells : goal.overflow_cast-cells
overflow_cast-cells c = let g = c.requires.given in omega (arith, cell-count c.args.part.now c.cells.result.now c.cells.ensures.cells, few-cells c.args.part.now g.m g.a g.n g.r g.is)

pub overflow_cast-behind_vertices : goal.overflow_cast-behind_vertices
overflow_cast-behind_vertices c = let g = c.requires.given in omega (arith, ap length c.vertices.ensures, few-vertices c.args.part.now g.m g.a g.n g.r g.is)

pub overflow_add-behind_vertices : goal.overflow_add-behind_vertices
overflow_add-behind_vertices c = let g = c.requires.given in omega (arith, cell-count c.args.part.now c.cells.result.now c.cells.ensures.cells, few-cells c.args.part.now g.m g.a g.n g.r g.is, ap length c.vertices.ensures, few-vertices c.args.part.now g.m g.a g.n g.r g.is)

pub bounds-vertices-0 : goal.bounds-vertices-0
bounds-vertices-0 c =
    let g = c.requires.given in
    let e : (mark_at c.args.part.now.marks c.args.i).dim ≡ 0 = ap (λ (x : Mark). x.dim) c.mark-dim.ensures ∙ ap dim_number c.in-Zero.is in
    let v = on-own_vertex c.args.part.now g.m g.a g.n g.r g.is c.args.i c.requires.mark e in
    omega (arith, ap (λ (x : Mark). length x.vertices) c.mark-dim.ensures, v.one)

pub vertex_place-requires-clause-rising : goal.vertex_place-requires-clause-rising
vertex_place-requires-clause-rising c = let g = c.requires.given in subst Rising (sym c.vertices-in-Zero.ensures) (vertices-rise c.args.part.now g.m g.a g.n g.r g.is)

pub vertex_place-requires-clause-there : goal.vertex_place-requires-clause-there
vertex_place-requires-clause-there c =
    let g = c.requires.given in
    let e : (mark_at c.args.part.now.marks c.args.i).dim ≡ 0 = ap (λ (x : Mark). x.dim) c.mark-dim.ensures ∙ ap dim_number c.in-Zero.is in
    let v = on-own_vertex c.args.part.now g.m g.a g.n g.r g.is c.args.i c.requires.mark e in
    ap₂ (λ (w : ℕ) (l : List ℕ). list_any (λ u. u == w) l) (sym (ap (λ (x : Mark). slice_index x.vertices 0) c.mark-dim.ensures)) c.vertices-in-Zero.ensures ∙ v.there

pub vertex_place-requires-clause-few : goal.vertex_place-requires-clause-few
vertex_place-requires-clause-few c = let g = c.requires.given in omega (arith, ap length c.vertices-in-Zero.ensures, few-vertices c.args.part.now g.m g.a g.n g.r g.is)

pub overflow_add-result : goal.overflow_add-result
overflow_add-result c =
    let g = c.requires.given in
    let e : (mark_at c.args.part.now.marks c.args.i).dim ≡ 0 = ap (λ (x : Mark). x.dim) c.mark-dim.ensures ∙ ap dim_number c.in-Zero.is in
    let v = on-own_vertex c.args.part.now g.m g.a g.n g.r g.is c.args.i c.requires.mark e in
    let vertex : ℕ = slice_index (mark_at c.args.part.now.marks c.args.i).vertices 0 in
    let place : c.vertex_place.result ≡ position_or_len (λ w. w == vertex) c.args.part.now.vertices =
    c.vertex_place.ensures ∙ ap₂ (λ (w : ℕ) (l : List ℕ). position_or_len (λ u. u == w) l) (sym (ap (λ (x : Mark). slice_index x.vertices 0) c.mark-dim.ensures)) c.vertices-in-Zero.ensures in
    omega (arith, cell-count c.args.part.now c.cells.result.now c.cells.ensures.cells, few-cells c.args.part.now g.m g.a g.n g.r g.is, place, position-within (λ w. w == vertex) c.args.part.now.vertices v.there, few-vertices c.args.part.now g.m g.a g.n g.r g.is)

pub returns-in-Zero : goal.returns-in-Zero
returns-in-Zero c =
    let g = c.requires.given in
    let e : (mark_at c.args.part.now.marks c.args.i).dim ≡ 0 = ap (λ (x : Mark). x.dim) c.mark-dim.ensures ∙ ap dim_number c.in-Zero.is in
    let v = on-own_vertex c.args.part.now g.m g.a g.n g.r g.is c.args.i c.requires.mark e in
    let place : c.vertex_place.result ≡ position_or_len (λ w. w == slice_index (mark_at c.args.part.now.marks c.args.i).vertices 0) c.args.part.now.vertices =
    c.vertex_place.ensures ∙ ap₂ (λ (w : ℕ) (l : List ℕ). position_or_len (λ u. u == w) l) (sym (ap (λ (x : Mark). slice_index x.vertices 0) c.mark-dim.ensures)) c.vertices-in-Zero.ensures in
    ap (λ (q : ℕ). Some q) (ap₂ (λ (x y : ℕ). x + y) (cell-count c.args.part.now c.cells.result.now c.cells.ensures.cells) place ∙ sym v.place)

pub bounds-vertices-0-in-One : goal.bounds-vertices-0-in-One
bounds-vertices-0-in-One c =
    let g = c.requires.given in
    let e : (mark_at c.args.part.now.marks c.args.i).dim ≡ 1 = ap (λ (x : Mark). x.dim) c.mark-dim.ensures ∙ ap dim_number c.in-One.is in
    let v = on-own_edge c.args.part.now g.m g.a g.n g.r g.is c.args.i c.requires.mark e in
    omega (arith, ap (λ (x : Mark). length x.vertices) c.mark-dim.ensures, v.two)

pub bounds-vertices-1 : goal.bounds-vertices-1
bounds-vertices-1 c =
    let g = c.requires.given in
    let e : (mark_at c.args.part.now.marks c.args.i).dim ≡ 1 = ap (λ (x : Mark). x.dim) c.mark-dim.ensures ∙ ap dim_number c.in-One.is in
    let v = on-own_edge c.args.part.now g.m g.a g.n g.r g.is c.args.i c.requires.mark e in
    omega (arith, ap (λ (x : Mark). length x.vertices) c.mark-dim.ensures, v.two)

pub returns-in_err-k-in-One : goal.returns-in_err-k-in-One
returns-in_err-k-in-One c =
    let g = c.requires.given in
    let k = mark_at c.args.part.now.marks c.args.i in
    let e : k.dim ≡ 1 = ap (λ (x : Mark). x.dim) c.mark-dim.ensures ∙ ap dim_number c.in-One.is in
    let v = on-own_edge c.args.part.now g.m g.a g.n g.r g.is c.args.i c.requires.mark e in
    let vs = ap (λ (x : Mark). x.vertices) c.mark-dim.ensures in
    let found : c.find_edge.result ≡ Some (place_in (edges_among c.args.part.now.cells) (marked_point k)) =
    c.find_edge.ensures ∙ (λ j. position (shows (point_on Segment (slice_index (sym vs j) 0 ∷ slice_index (sym vs j) 1 ∷ []))) (c.requires.local j).edges) ∙ v.found in
    absurd (none-not (place_in (edges_among c.args.part.now.cells) (marked_point k)) c.find_edge.result c.in_err-k-in-One.was found)

pub overflow_add-result-in-One : goal.overflow_add-result-in-One
overflow_add-result-in-One c = let g = c.requires.given in omega (arith, cell-count c.args.part.now c.cells.result.now c.cells.ensures.cells, few-cells c.args.part.now g.m g.a g.n g.r g.is, ap length c.vertices.ensures, few-vertices c.args.part.now g.m g.a g.n g.r g.is, c.faces.ensures.few)

pub overflow_add-result-in-One-2 : goal.overflow_add-result-in-One-2
overflow_add-result-in-One-2 c =
    let g = c.requires.given in
    let k = mark_at c.args.part.now.marks c.args.i in
    let e : k.dim ≡ 1 = ap (λ (x : Mark). x.dim) c.mark-dim.ensures ∙ ap dim_number c.in-One.is in
    let v = on-own_edge c.args.part.now g.m g.a g.n g.r g.is c.args.i c.requires.mark e in
    let vs = ap (λ (x : Mark). x.vertices) c.mark-dim.ensures in
    let found : c.find_edge.result ≡ Some (place_in (edges_among c.args.part.now.cells) (marked_point k)) =
    c.find_edge.ensures ∙ (λ j. position (shows (point_on Segment (slice_index (sym vs j) 0 ∷ slice_index (sym vs j) 1 ∷ []))) (c.requires.local j).edges) ∙ v.found in
    let place = some-same c.in_ok-k-in-One.k (place_in (edges_among c.args.part.now.cells) (marked_point k)) c.find_edge.result c.in_ok-k-in-One.was found in
    omega (arith, cell-count c.args.part.now c.cells.result.now c.cells.ensures.cells, few-cells c.args.part.now g.m g.a g.n g.r g.is, ap length c.vertices.ensures, few-vertices c.args.part.now g.m g.a g.n g.r g.is, c.faces.ensures.few, place, v.within, few-edges c.args.part.now g.m g.a g.n g.r g.is)

pub returns-in_ok-k-in-One : goal.returns-in_ok-k-in-One
returns-in_ok-k-in-One c =
    let g = c.requires.given in
    let k = mark_at c.args.part.now.marks c.args.i in
    let e : k.dim ≡ 1 = ap (λ (x : Mark). x.dim) c.mark-dim.ensures ∙ ap dim_number c.in-One.is in
    let v = on-own_edge c.args.part.now g.m g.a g.n g.r g.is c.args.i c.requires.mark e in
    let vs = ap (λ (x : Mark). x.vertices) c.mark-dim.ensures in
    let found : c.find_edge.result ≡ Some (place_in (edges_among c.args.part.now.cells) (marked_point k)) =
    c.find_edge.ensures ∙ (λ j. position (shows (point_on Segment (slice_index (sym vs j) 0 ∷ slice_index (sym vs j) 1 ∷ []))) (c.requires.local j).edges) ∙ v.found in
    let place = some-same c.in_ok-k-in-One.k (place_in (edges_among c.args.part.now.cells) (marked_point k)) c.find_edge.result c.in_ok-k-in-One.was found in
    let cells = cell-count c.args.part.now c.cells.result.now c.cells.ensures.cells in
    let vertices = ap length c.vertices.ensures in
    let faces : c.faces.result ≡ length (faces_among c.args.part.now.cells) = c.faces.ensures.count ∙ ap (λ (l : Local). length l.faces) (c.local.ensures ∙ c.requires.local) in
    ap (λ (q : ℕ). Some q) ((λ j. cells j + vertices j + faces j + place j) ∙ sym v.place)

pub returns-in_err-find_face-in_default : goal.returns-in_err-find_face-in_default
returns-in_err-find_face-in_default c =
    let g = c.requires.given in
    let k = mark_at c.args.part.now.marks c.args.i in
    let d = ap (λ (x : Mark). x.dim) c.mark-dim.ensures in
    let big : (k.dim ≡ 2) ⊎ (k.dim ≡ 3) = ⊎_elim (λ a. inl (d ∙ a)) (λ a. inr (d ∙ a)) (two-or-three c.mark-dim.result.0 c.in_default.not-Zero c.in_default.not-One) in
    let v = on-face c.args.part.now g.m g.a g.n g.r g.is c.args.i c.requires.mark c.requires.lower big in
    let vs = ap (λ (x : Mark). x.vertices) c.mark-dim.ensures in
    let found : c.find_face.result ≡ Some (place_in (faces_among c.args.part.now.cells) (marked_point k)) =
    c.find_face.ensures ∙ (λ j. position (shows (record { dim = 2; vertices = sorted (sym vs j) })) (c.requires.local j).faces) ∙ v.found in
    absurd (none-not (place_in (faces_among c.args.part.now.cells) (marked_point k)) c.find_face.result c.in_err-find_face-in_default.was found)

pub overflow_add-result-in_default : goal.overflow_add-result-in_default
overflow_add-result-in_default c =
    let g = c.requires.given in
    let k = mark_at c.args.part.now.marks c.args.i in
    let d = ap (λ (x : Mark). x.dim) c.mark-dim.ensures in
    let big : (k.dim ≡ 2) ⊎ (k.dim ≡ 3) = ⊎_elim (λ a. inl (d ∙ a)) (λ a. inr (d ∙ a)) (two-or-three c.mark-dim.result.0 c.in_default.not-Zero c.in_default.not-One) in
    let v = on-face c.args.part.now g.m g.a g.n g.r g.is c.args.i c.requires.mark c.requires.lower big in
    let vs = ap (λ (x : Mark). x.vertices) c.mark-dim.ensures in
    let found : c.find_face.result ≡ Some (place_in (faces_among c.args.part.now.cells) (marked_point k)) =
    c.find_face.ensures ∙ (λ j. position (shows (record { dim = 2; vertices = sorted (sym vs j) })) (c.requires.local j).faces) ∙ v.found in
    let place = some-same c.in_ok-find_face-in_default.field-0 (place_in (faces_among c.args.part.now.cells) (marked_point k)) c.find_face.result c.in_ok-find_face-in_default.was found in
    omega (arith, cell-count c.args.part.now c.cells.result.now c.cells.ensures.cells, few-cells c.args.part.now g.m g.a g.n g.r g.is, ap length c.vertices.ensures, few-vertices c.args.part.now g.m g.a g.n g.r g.is, place, v.within, few-faces c.args.part.now g.m g.a g.n g.r g.is)

pub returns-in_ok-find_face-in_default : goal.returns-in_ok-find_face-in_default
returns-in_ok-find_face-in_default c =
    let g = c.requires.given in
    let k = mark_at c.args.part.now.marks c.args.i in
    let d = ap (λ (x : Mark). x.dim) c.mark-dim.ensures in
    let big : (k.dim ≡ 2) ⊎ (k.dim ≡ 3) = ⊎_elim (λ a. inl (d ∙ a)) (λ a. inr (d ∙ a)) (two-or-three c.mark-dim.result.0 c.in_default.not-Zero c.in_default.not-One) in
    let v = on-face c.args.part.now g.m g.a g.n g.r g.is c.args.i c.requires.mark c.requires.lower big in
    let vs = ap (λ (x : Mark). x.vertices) c.mark-dim.ensures in
    let found : c.find_face.result ≡ Some (place_in (faces_among c.args.part.now.cells) (marked_point k)) =
    c.find_face.ensures ∙ (λ j. position (shows (record { dim = 2; vertices = sorted (sym vs j) })) (c.requires.local j).faces) ∙ v.found in
    let place = some-same c.in_ok-find_face-in_default.field-0 (place_in (faces_among c.args.part.now.cells) (marked_point k)) c.find_face.result c.in_ok-find_face-in_default.was found in
    let cells = cell-count c.args.part.now c.cells.result.now c.cells.ensures.cells in
    let vertices = ap length c.vertices.ensures in
    ap (λ (q : ℕ). Some q) ((λ j. cells j + vertices j + place j) ∙ sym v.place)
