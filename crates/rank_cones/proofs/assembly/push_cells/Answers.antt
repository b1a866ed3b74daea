use Rattle.std.proofs.Common.{◌≡◌, ℕ, ◌+◌, ◌-◌, ◌<◌, ◌++◌, List, [], ◌∷◌, map, length, take, sym, ap, ◌∙◌, subst, arith}
use Rattle.std.specs.Prelude.{Result, Err, IfErr}
use Rattle.std.specs.List.{list_any, AllByRecursion}
use Rattle.std.proofs.lemmas.List.{map_more, take_all, length-map, length-take}
use Rattle.std.proofs.lemmas.Result.{err_from_is_err_and}
use Rattle.plain_lists.proofs.Each.{all_at}
use Rattle.mesh_defs.specs.declared.ConeEntry.{ConeEntry}
use Rattle.mesh_defs.specs.Tables.{dim_of, facets_of}
use Rattle.mesh_defs.specs.Mesh.{Cell}
use Rattle.mesh_defs.specs.Diagram.{Diagram}
use Rattle.plex_chart.specs.Chart.{IsInStratum}
use Rattle.rank_laws.specs.diagram_laws.Strata.{face_sights}
use Rattle.local_points.specs.Cells.{cell_at}
use Rattle.rank_chart_laws.specs.rank_diagram_laws.Parts.{Parts, IsCellPart, cell_part}
use Rattle.rank_cones.specs.Placed.{is_twisted, IsFirstTwist}
use Rattle.rank_cones.specs.Assembly.{rank_parts, IsFor}
use Rattle.rank_cones.specs.declared.stop.Stop.{Stop}
use Rattle.rank_cones.proofs.Strata.{in-cells, still-for, cell-kind, cell-cone, cell-below, untwisted-more, untwisted-none, twist-of}
use Rattle.rank_cones.proofs.assembly.push_cells.Goals as goal

pub cell_cone-requires-clause-kind : goal.cell_cone-requires-clause-kind
cell_cone-requires-clause-kind g c =
    let cells : List (ℕ × Cell) = g.C.CellList.cells c.args.cells.now in
    let p : Parts = rank_parts c.args.plex.now.dim cells c.args.vertices.now c.args.held.now in
    let i = c.loop-i.i in
    let within : i < length cells = omega (arith, c.loop-i-test.true, c.len-i-end.ensures) in
    let part : IsCellPart p (cell_at cells i) = all_at (IsCellPart p) cells i (cell_at [] 0) c.requires.whole.parts.cells within in
    cell-kind p c.requires.whole.parts (cell_at cells i) part

pub returns-in_err-cell_cone-clause-stop : goal.returns-in_err-cell_cone-clause-stop
returns-in_err-cell_cone-clause-stop g c =
    let cells : List (ℕ × Cell) = g.C.CellList.cells c.args.cells.now in
    let p : Parts = rank_parts c.args.plex.now.dim cells c.args.vertices.now c.args.held.now in
    let i = c.loop-i.i in
    let within : i < length cells = omega (arith, c.loop-i-test.true, c.len-i-end.ensures) in
    let part : IsCellPart p (cell_at cells i) = all_at (IsCellPart p) cells i (cell_at [] 0) c.requires.whole.parts.cells within in
    let faces = c.args.held.now.faces in
    let stop : Stop = c.in_err-cell_cone.field-0.0 in
    let told : IsFirstTwist faces (face_sights cells) stop = twist-of faces cells i within c.loop-i.invariant.untwisted stop c.in_err-cell_cone.ensures.stop in
    let q = err_from_is_err_and c.from_residual.result c.from_residual.ensures.1 in
    subst (λ (r : Result (Unit {0}) Stop). IfErr r (IsFirstTwist faces (face_sights cells))) (sym (q.1 ∙ ap Err q.2)) told

pub push-requires-clause-place : goal.push-requires-clause-place
push-requires-clause-place g c =
    let cells : List (ℕ × Cell) = g.C.CellList.cells c.args.cells.now in
    let p : Parts = rank_parts c.args.plex.now.dim cells c.args.vertices.now c.args.held.now in
    let i = c.loop-i.i in
    let within : i < length cells = omega (arith, c.loop-i-test.true, c.len-i-end.ensures) in
    let part : IsCellPart p (cell_at cells i) = all_at (IsCellPart p) cells i (cell_at [] 0) c.requires.whole.parts.cells within in
    let h : Diagram = c.loop-i.plex in
    let same : h.dim ≡ p.dim = ap (λ (x : Diagram). x.dim) c.loop-i.invariant.plex in
    let is : IsFor p h = subst (IsFor p) (sym c.loop-i.invariant.plex) (still-for p c.args.plex.now (map (cell_part p) (take i cells)) c.requires.plex) in
    let poly : c.poly.result ≡ (cell_at cells i).1.poly = c.poly.ensures in
    let here : length h.points ≡ i =
    ap (λ (x : Diagram). length x.points) c.loop-i.invariant.plex ∙ length-map (take i cells) (cell_part p) ∙ omega (arith, length-take i cells, within) in
    in-cells h (dim_of c.poly.result) (length h.points) (ap dim_of poly ∙ part.dim ∙ sym same) (omega (arith, here, is.cells, within))

pub push-requires-clause-arity : goal.push-requires-clause-arity
push-requires-clause-arity g c =
    let cells : List (ℕ × Cell) = g.C.CellList.cells c.args.cells.now in
    let p : Parts = rank_parts c.args.plex.now.dim cells c.args.vertices.now c.args.held.now in
    let i = c.loop-i.i in
    let within : i < length cells = omega (arith, c.loop-i-test.true, c.len-i-end.ensures) in
    let part : IsCellPart p (cell_at cells i) = all_at (IsCellPart p) cells i (cell_at [] 0) c.requires.whole.parts.cells within in
    let h : Diagram = c.loop-i.plex in
    let same : h.dim ≡ p.dim = ap (λ (x : Diagram). x.dim) c.loop-i.invariant.plex in
    let is : IsFor p h = subst (IsFor p) (sym c.loop-i.invariant.plex) (still-for p c.args.plex.now (map (cell_part p) (take i cells)) c.requires.plex) in
    let poly : c.poly.result ≡ (cell_at cells i).1.poly = c.poly.ensures in
    let base : c.len.result + length c.args.vertices.now ≡ length cells + length c.args.vertices.now = ap (λ n. n + length c.args.vertices.now) c.len.ensures in
    let covers : c.deref.result.now ≡ (cell_part p (cell_at cells i)).covers = c.deref.ensures.value ∙ c.in_ok-cell_cone.ensures.cone ∙ cell-cone p (c.len.result + length c.args.vertices.now) (cell_at cells i) part base in
    ap length covers ∙ length-map (facets_of (cell_at cells i).1.poly) _ ∙ ap (λ q. length (facets_of q)) (sym poly)

pub push-requires-clause-below : goal.push-requires-clause-below
push-requires-clause-below g c =
    let cells : List (ℕ × Cell) = g.C.CellList.cells c.args.cells.now in
    let p : Parts = rank_parts c.args.plex.now.dim cells c.args.vertices.now c.args.held.now in
    let i = c.loop-i.i in
    let within : i < length cells = omega (arith, c.loop-i-test.true, c.len-i-end.ensures) in
    let part : IsCellPart p (cell_at cells i) = all_at (IsCellPart p) cells i (cell_at [] 0) c.requires.whole.parts.cells within in
    let h : Diagram = c.loop-i.plex in
    let same : h.dim ≡ p.dim = ap (λ (x : Diagram). x.dim) c.loop-i.invariant.plex in
    let is : IsFor p h = subst (IsFor p) (sym c.loop-i.invariant.plex) (still-for p c.args.plex.now (map (cell_part p) (take i cells)) c.requires.plex) in
    let poly : c.poly.result ≡ (cell_at cells i).1.poly = c.poly.ensures in
    let base : c.len.result + length c.args.vertices.now ≡ length cells + length c.args.vertices.now = ap (λ n. n + length c.args.vertices.now) c.len.ensures in
    let covers : c.deref.result.now ≡ (cell_part p (cell_at cells i)).covers = c.deref.ensures.value ∙ c.in_ok-cell_cone.ensures.cone ∙ cell-cone p (c.len.result + length c.args.vertices.now) (cell_at cells i) part base in
    let lower : p.dim - 1 ≡ dim_of c.poly.result - 1 = ap (λ d. d - 1) (sym (ap dim_of poly ∙ part.dim)) in
    subst (λ d. AllByRecursion (λ (e : ConeEntry). IsInStratum h d e.point) c.deref.result.now) lower
    (subst (AllByRecursion (λ (e : ConeEntry). IsInStratum h (p.dim - 1) e.point)) (sym covers) (cell-below p c.requires.whole.parts h same is (cell_at cells i) part))

pub loop-i-preserved : goal.loop-i-preserved
loop-i-preserved g c =
    let cells : List (ℕ × Cell) = g.C.CellList.cells c.args.cells.now in
    let p : Parts = rank_parts c.args.plex.now.dim cells c.args.vertices.now c.args.held.now in
    let i = c.loop-i.i in
    let within : i < length cells = omega (arith, c.loop-i-test.true, c.len-i-end.ensures) in
    let part : IsCellPart p (cell_at cells i) = all_at (IsCellPart p) cells i (cell_at [] 0) c.requires.whole.parts.cells within in
    let h : Diagram = c.loop-i.plex in
    let same : h.dim ≡ p.dim = ap (λ (x : Diagram). x.dim) c.loop-i.invariant.plex in
    let is : IsFor p h = subst (IsFor p) (sym c.loop-i.invariant.plex) (still-for p c.args.plex.now (map (cell_part p) (take i cells)) c.requires.plex) in
    let poly : c.poly.result ≡ (cell_at cells i).1.poly = c.poly.ensures in
    let base : c.len.result + length c.args.vertices.now ≡ length cells + length c.args.vertices.now = ap (λ n. n + length c.args.vertices.now) c.len.ensures in
    let covers : c.deref.result.now ≡ (cell_part p (cell_at cells i)).covers = c.deref.ensures.value ∙ c.in_ok-cell_cone.ensures.cone ∙ cell-cone p (c.len.result + length c.args.vertices.now) (cell_at cells i) part base in
    record {
      plex = c.in_ok-push.ensures.ok
          ∙ (λ j. record (c.loop-i.invariant.plex j) { points = (c.loop-i.invariant.plex j).points ++ record { poly = poly j; covers = covers j } ∷ [] })
          ∙ ap (λ l. record c.args.plex.now { points = l }) (sym (map_more (cell_part p) cells i (cell_at [] 0) within));
      untwisted = untwisted-more (is_twisted c.args.held.now.faces) cells i within c.loop-i.invariant.untwisted c.in_ok-cell_cone.ensures.untwisted;
    }

pub returns-clause-plex : goal.returns-clause-plex
returns-clause-plex g c =
    let cells : List (ℕ × Cell) = g.C.CellList.cells c.args.cells.now in
    let p : Parts = rank_parts c.args.plex.now.dim cells c.args.vertices.now c.args.held.now in
    c.loop-i.invariant.plex ∙ ap (λ l. record c.args.plex.now { points = map (cell_part p) l }) (take_all c.loop-i.i cells (omega (arith, c.loop-i-test.false, c.len-i-end.ensures)))

pub returns-clause-untwisted : goal.returns-clause-untwisted
returns-clause-untwisted g c =
    let cells : List (ℕ × Cell) = g.C.CellList.cells c.args.cells.now in
    untwisted-none c.args.held.now.faces (face_sights cells)
    (ap (λ l. list_any (is_twisted c.args.held.now.faces) (face_sights l)) (sym (take_all c.loop-i.i cells (omega (arith, c.loop-i-test.false, c.len-i-end.ensures)))) ∙ c.loop-i.invariant.untwisted)
