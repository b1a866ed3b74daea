use Rattle.std.proofs.Common.{◌≡◌, ◌≢◌, ◌⊎◌, ◌<◌, ℕ, false, List, [], ◌∷◌, length, refl, ap, sym, subst, ◌∙◌, ⊎_elim, inl, inr, arith}
use Rattle.std.specs.Prelude.{◌==◌, slice_index, position, is_some}
use Rattle.std.specs.List.{list_any}
use Rattle.std.proofs.lemmas.List.{get_or_read}
use Rattle.plain_lists.specs.Lists.{sorted}
use Rattle.mesh_defs.specs.declared.Poly.TheVariants.{Segment}
use Rattle.mesh_defs.specs.Mesh.{Mark}
use Rattle.mesh_defs.specs.Points.{point_on, shows}
use Rattle.plex_base.specs.Dim.{dim_number}
use Rattle.plex_base.specs.declared.dim.Dim.{Dim}
use Rattle.plex_base.specs.declared.dim.Dim.TheVariants.{Zero, One, Two, Three}
use Rattle.plex_mesh.specs.Right.{mark_at}
use Rattle.rank_chart_laws.specs.mark_laws.Sets.{IsShort}
use Rattle.headline_laws.specs.seed_laws.Given.{vertices_of}
use Rattle.dist_seed.specs.rank_marks.Own.{some_on}
use Rattle.dist_seed.proofs.rank_marks.Marked.{short-cells, short-mark, marked-cell, one-vertex, low-vertex, marked-vertex, two-vertices, marked-edge, marked-face, no-solid, mark-on}
use Rattle.dist_seed.proofs.rank_marks.own_points.OwnPoints.has_marked.Goals as goal

-- neither 0 nor 1
two-or-three : (d : Dim) → (d ≡ Zero → ⊥) → (d ≡ One → ⊥) → (dim_number d ≡ 2) ⊎ (dim_number d ≡ 3)
two-or-three Zero a b = absurd (a refl)
two-or-three One a b = absurd (b refl)
two-or-three Two a b = inl refl
two-or-three Three a b = inr refl

pub has-requires-clause-cells : goal.has-requires-clause-cells
has-requires-clause-cells c = short-cells c.args.mesh.now c.requires.right c.args.own.now.cells c.requires.cells

pub has-requires-clause-short : goal.has-requires-clause-short
has-requires-clause-short c =
    let m = c.args.mesh.now in
    let k = mark_at m.marks c.args.i in
    let e : k.dim ≡ m.dim = ap (λ (x : Mark). x.dim) c.mark-dim.ensures ∙ sym c.number.ensures ∙ c.if-number.true ∙ c.number-2.ensures ∙ c.dim.ensures.dim in
    subst IsShort (ap (λ (x : Mark). x.vertices) c.mark-dim.ensures) (short-mark m c.requires.right c.args.own.now.cells c.requires.cells k (mark-on m c.args.i c.requires.right c.requires.mark) e)

pub returns-then-number : goal.returns-then-number
returns-then-number c =
    let m = c.args.mesh.now in
    let cells = c.args.own.now.cells in
    let k = mark_at m.marks c.args.i in
    let e : k.dim ≡ m.dim = ap (λ (x : Mark). x.dim) c.mark-dim.ensures ∙ sym c.number.ensures ∙ c.if-number.true ∙ c.number-2.ensures ∙ c.dim.ensures.dim in
    c.has.ensures ∙ ap (λ (l : List ℕ). some_on l cells) (sym (ap (λ (x : Mark). x.vertices) c.mark-dim.ensures))
    ∙ marked-cell m c.requires.right cells c.requires.cells k (mark-on m c.args.i c.requires.right c.requires.mark) e

pub bounds-vertices-0 : goal.bounds-vertices-0
bounds-vertices-0 c =
    let m = c.args.mesh.now in
    let k = mark_at m.marks c.args.i in
    let e : k.dim ≡ 0 = ap (λ (x : Mark). x.dim) c.mark-dim.ensures ∙ ap dim_number c.in-Zero.is in
    let one = one-vertex m c.requires.right c.args.own.now.cells c.requires.cells k (mark-on m c.args.i c.requires.right c.requires.mark) e in
    omega (arith, ap (λ (x : Mark). length x.vertices) c.mark-dim.ensures, one)

pub index-requires : goal.index-requires
index-requires c =
    let m = c.args.mesh.now in
    let k = mark_at m.marks c.args.i in
    let e : k.dim ≡ 0 = ap (λ (x : Mark). x.dim) c.mark-dim.ensures ∙ ap dim_number c.in-Zero.is in
    let low = low-vertex m c.requires.right c.args.own.now.cells c.requires.cells k (mark-on m c.args.i c.requires.right c.requires.mark) e in
    let many = c.requires.own.vertices.many in
    omega (arith, ap (λ (x : Mark). slice_index x.vertices 0) c.mark-dim.ensures, low, many, c.args.self.now.vertices.ok.0)

pub returns-in-Zero : goal.returns-in-Zero
returns-in-Zero c =
    let m = c.args.mesh.now in
    let cells = c.args.own.now.cells in
    let k = mark_at m.marks c.args.i in
    let told = c.args.self.now.vertices.items in
    let v : ℕ = slice_index c.mark-dim.result.1.now 0 in
    let e : k.dim ≡ 0 = ap (λ (x : Mark). x.dim) c.mark-dim.ensures ∙ ap dim_number c.in-Zero.is in
    let there : slice_index k.vertices 0 ≡ v = ap (λ (x : Mark). slice_index x.vertices 0) c.mark-dim.ensures in
    let low : v < length m.at = subst (λ w. w < length m.at) there (low-vertex m c.requires.right cells c.requires.cells k (mark-on m c.args.i c.requires.right c.requires.mark) e) in
    let within : v < length told = let many = c.requires.own.vertices.many in omega (arith, low, many) in
    get_or_read told v c.index.result.now within c.index.ensures false
    ∙ c.requires.own.vertices.each v low
    ∙ ap (λ (vs : List ℕ). list_any (λ w. w == v) vs) c.requires.own.own
    ∙ ap (λ u. list_any (λ w. w == u) (vertices_of (length m.at) cells)) (sym there)
    ∙ marked-vertex m c.requires.right cells c.requires.cells k (mark-on m c.args.i c.requires.right c.requires.mark) e

pub bounds-vertices-0-in-One : goal.bounds-vertices-0-in-One
bounds-vertices-0-in-One c =
    let m = c.args.mesh.now in
    let k = mark_at m.marks c.args.i in
    let e : k.dim ≡ 1 = ap (λ (x : Mark). x.dim) c.mark-dim.ensures ∙ ap dim_number c.in-One.is in
    let two = two-vertices m c.requires.right c.args.own.now.cells c.requires.cells k (mark-on m c.args.i c.requires.right c.requires.mark) e in
    omega (arith, ap (λ (x : Mark). length x.vertices) c.mark-dim.ensures, two)

pub bounds-vertices-1 : goal.bounds-vertices-1
bounds-vertices-1 c =
    let m = c.args.mesh.now in
    let k = mark_at m.marks c.args.i in
    let e : k.dim ≡ 1 = ap (λ (x : Mark). x.dim) c.mark-dim.ensures ∙ ap dim_number c.in-One.is in
    let two = two-vertices m c.requires.right c.args.own.now.cells c.requires.cells k (mark-on m c.args.i c.requires.right c.requires.mark) e in
    omega (arith, ap (λ (x : Mark). length x.vertices) c.mark-dim.ensures, two)

pub returns-in-One : goal.returns-in-One
returns-in-One c =
    let m = c.args.mesh.now in
    let cells = c.args.own.now.cells in
    let k = mark_at m.marks c.args.i in
    let e : k.dim ≡ 1 = ap (λ (x : Mark). x.dim) c.mark-dim.ensures ∙ ap dim_number c.in-One.is in
    let vs = ap (λ (x : Mark). x.vertices) c.mark-dim.ensures in
    c.is_some.ensures
    ∙ ap is_some (c.find_edge.ensures ∙ (λ j. position (shows (point_on Segment (slice_index (sym vs j) 0 ∷ slice_index (sym vs j) 1 ∷ []))) (c.requires.own.between j).edges))
    ∙ marked-edge m c.requires.right cells c.requires.cells k (mark-on m c.args.i c.requires.right c.requires.mark) e

pub returns-in_default : goal.returns-in_default
returns-in_default c =
    let m = c.args.mesh.now in
    let cells = c.args.own.now.cells in
    let k = mark_at m.marks c.args.i in
    let on = mark-on m c.args.i c.requires.right c.requires.mark in
    let d = ap (λ (x : Mark). x.dim) c.mark-dim.ensures in
    let vs = ap (λ (x : Mark). x.vertices) c.mark-dim.ensures in
    let ne : k.dim ≢ m.dim = λ a. c.if-number.false (c.number.ensures ∙ sym d ∙ a ∙ sym (c.number-2.ensures ∙ c.dim.ensures.dim)) in
    let two : k.dim ≡ 2 = ⊎_elim (λ a. d ∙ a) (λ a. absurd (no-solid m c.requires.right cells c.requires.cells k on ne (d ∙ a))) (two-or-three c.mark-dim.result.0 c.in_default.not-Zero c.in_default.not-One) in
    c.is_some-in_default.ensures
    ∙ ap is_some (c.find_face.ensures ∙ (λ j. position (shows (record { dim = 2; vertices = sorted (sym vs j) })) (c.requires.own.between j).faces))
    ∙ marked-face m c.requires.right cells c.requires.cells k on ne two
