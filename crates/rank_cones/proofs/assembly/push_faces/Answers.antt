use Rattle.std.proofs.Common.{◌≡◌, ℕ, ◌+◌, ◌-◌, ◌<◌, ◌++◌, List, [], ◌∷◌, map, length, take, sym, ap, ◌∙◌, subst, append_assoc, length-append, arith}
use Rattle.std.specs.List.{AllByRecursion}
use Rattle.std.proofs.lemmas.List.{map_more, take_all, length-map, length-take}
use Rattle.std.proofs.lemmas.Option.{get_or_from_slice_get}
use Rattle.plain_lists.proofs.Each.{all_at}
use Rattle.mesh_defs.specs.declared.ConeEntry.{ConeEntry}
use Rattle.mesh_defs.specs.Tables.{dim_of, facets_of}
use Rattle.mesh_defs.specs.Mesh.{Cell}
use Rattle.mesh_defs.specs.Points.{Sight, vertex_sight}
use Rattle.mesh_defs.specs.Diagram.{Diagram}
use Rattle.plex_chart.specs.Chart.{IsInStratum}
use Rattle.rank_laws.specs.diagram_laws.Strata.{cone_from}
use Rattle.rank_chart_laws.specs.rank_diagram_laws.Parts.{Parts, HasFacets, IsCellPart, IsFacePart, face_part}
use Rattle.rank_cones.specs.Placed.{sight_at}
use Rattle.rank_cones.specs.Assembly.{rank_parts, IsFor}
use Rattle.local_points.specs.Cells.{cell_at}
use Rattle.rank_cones.proofs.Seeing.{seeing-has, has-sides, solids-on}
use Rattle.rank_cones.proofs.Strata.{in-faces, still-for, solid-where, face-below}
use Rattle.rank_cones.proofs.assembly.push_faces.Goals as goal

pub seeing_cells-requires-clause-solids : goal.seeing_cells-requires-clause-solids
seeing_cells-requires-clause-solids g c = solids-on (rank_parts c.args.plex.now.dim (g.C.CellList.cells c.args.cells.now) c.args.vertices.now c.args.held.now) c.requires.whole.parts

pub face_cone-requires-clause-cell : goal.face_cone-requires-clause-cell
face_cone-requires-clause-cell g c =
    let cells : List (ℕ × Cell) = g.C.CellList.cells c.args.cells.now in
    let within : c.loop-k.k < length c.args.held.now.faces = omega (arith, c.loop-k-test.true, c.faces-k-end.ensures.count) in
    (seeing-has cells c.args.held.now.faces c.in_ok-seeing.seeing.items c.requires.whole.seen c.in_ok-seeing.ensures c.loop-k.k c.index.result.now within c.index.ensures).cell

pub face_cone-requires-clause-corners : goal.face_cone-requires-clause-corners
face_cone-requires-clause-corners g c =
    let cells : List (ℕ × Cell) = g.C.CellList.cells c.args.cells.now in
    let p : Parts = rank_parts c.args.plex.now.dim cells c.args.vertices.now c.args.held.now in
    let within : c.loop-k.k < length c.args.held.now.faces = omega (arith, c.loop-k-test.true, c.faces-k-end.ensures.count) in
    let has = seeing-has cells c.args.held.now.faces c.in_ok-seeing.seeing.items c.requires.whole.seen c.in_ok-seeing.ensures c.loop-k.k c.index.result.now within c.index.ensures in
    (all_at (IsCellPart p) cells c.index.result.now (cell_at [] 0) c.requires.whole.parts.cells has.cell).list.long

pub face_cone-requires-clause-seen : goal.face_cone-requires-clause-seen
face_cone-requires-clause-seen g c =
    let cells : List (ℕ × Cell) = g.C.CellList.cells c.args.cells.now in
    let faces : List Sight = c.args.held.now.faces in
    let p : Parts = rank_parts c.args.plex.now.dim cells c.args.vertices.now c.args.held.now in
    let within : c.loop-k.k < length faces = omega (arith, c.loop-k-test.true, c.faces-k-end.ensures.count) in
    let has = seeing-has cells faces c.in_ok-seeing.seeing.items c.requires.whole.seen c.in_ok-seeing.ensures c.loop-k.k c.index.result.now within c.index.ensures in
    has-sides p c.requires.whole.parts c.loop-k.k c.index.result.now has within c.requires.untwisted

pub face_cone-requires-clause-sides : goal.face_cone-requires-clause-sides
face_cone-requires-clause-sides g c =
    let cells : List (ℕ × Cell) = g.C.CellList.cells c.args.cells.now in
    let faces : List Sight = c.args.held.now.faces in
    let p : Parts = rank_parts c.args.plex.now.dim cells c.args.vertices.now c.args.held.now in
    let k = c.loop-k.k in
    let within : k < length faces = omega (arith, c.loop-k-test.true, c.faces-k-end.ensures.count) in
    let has : HasFacets p.edges (facets_of (sight_at faces k).poly) (sight_at faces k).arrangement = all_at (λ (s : Sight). HasFacets p.edges (facets_of s.poly) s.arrangement) faces k (vertex_sight 0) (c.requires.whole.parts.sides c.requires.untwisted) within in
    has

pub push-requires-clause-place : goal.push-requires-clause-place
push-requires-clause-place g c =
    let cells : List (ℕ × Cell) = g.C.CellList.cells c.args.cells.now in
    let faces : List Sight = c.args.held.now.faces in
    let p : Parts = rank_parts c.args.plex.now.dim cells c.args.vertices.now c.args.held.now in
    let k = c.loop-k.k in
    let within : k < length faces = omega (arith, c.loop-k-test.true, c.faces-k-end.ensures.count) in
    let has : HasFacets p.edges (facets_of (sight_at faces k).poly) (sight_at faces k).arrangement = all_at (λ (s : Sight). HasFacets p.edges (facets_of s.poly) s.arrangement) faces k (vertex_sight 0) (c.requires.whole.parts.sides c.requires.untwisted) within in
    let two : dim_of (sight_at faces k).poly ≡ 2 = (all_at IsFacePart faces k (vertex_sight 0) c.requires.whole.parts.faces within).dim in
    let h : Diagram = c.loop-k.plex in
    let same : h.dim ≡ p.dim = ap (λ (x : Diagram). x.dim) c.loop-k.invariant in
    let is : IsFor p h = subst (IsFor p) (sym c.loop-k.invariant) (still-for p c.args.plex.now (c.args.plex.now.points ++ map (face_part p) (take k faces)) c.requires.plex) in
    let seen : Sight = record { key = c.face.result.0.0; poly = c.face.result.1; arrangement = c.face.result.2.now } in
    let at : sight_at faces k ≡ seen = get_or_from_slice_get faces k seen (vertex_sight 0) c.face.ensures in
    let poly : c.face.result.1 ≡ (sight_at faces k).poly = ap (λ (s : Sight). s.poly) (sym at) in
    let here : length h.points ≡ length c.args.plex.now.points + k =
    ap (λ (x : Diagram). length x.points) c.loop-k.invariant ∙ length-append c.args.plex.now.points (map (face_part p) (take k faces))
    ∙ ap (λ n. length c.args.plex.now.points + n) (length-map (take k faces) (face_part p)) ∙ omega (arith, length-take k faces, within) in
    subst (λ d. IsInStratum h d (length h.points)) (sym (ap dim_of poly ∙ two))
    (in-faces h (length h.points) (same ∙ solid-where p c.requires.whole.parts k within) (omega (arith, here, is.cells, is.vertices, c.requires.start)) (omega (arith, here, is.cells, is.vertices, is.faces, c.requires.start, within)))

pub push-requires-clause-arity : goal.push-requires-clause-arity
push-requires-clause-arity g c =
    let cells : List (ℕ × Cell) = g.C.CellList.cells c.args.cells.now in
    let faces : List Sight = c.args.held.now.faces in
    let p : Parts = rank_parts c.args.plex.now.dim cells c.args.vertices.now c.args.held.now in
    let k = c.loop-k.k in
    let within : k < length faces = omega (arith, c.loop-k-test.true, c.faces-k-end.ensures.count) in
    let has : HasFacets p.edges (facets_of (sight_at faces k).poly) (sight_at faces k).arrangement = all_at (λ (s : Sight). HasFacets p.edges (facets_of s.poly) s.arrangement) faces k (vertex_sight 0) (c.requires.whole.parts.sides c.requires.untwisted) within in
    let two : dim_of (sight_at faces k).poly ≡ 2 = (all_at IsFacePart faces k (vertex_sight 0) c.requires.whole.parts.faces within).dim in
    let h : Diagram = c.loop-k.plex in
    let same : h.dim ≡ p.dim = ap (λ (x : Diagram). x.dim) c.loop-k.invariant in
    let is : IsFor p h = subst (IsFor p) (sym c.loop-k.invariant) (still-for p c.args.plex.now (c.args.plex.now.points ++ map (face_part p) (take k faces)) c.requires.plex) in
    let seen : Sight = record { key = c.face.result.0.0; poly = c.face.result.1; arrangement = c.face.result.2.now } in
    let at : sight_at faces k ≡ seen = get_or_from_slice_get faces k seen (vertex_sight 0) c.face.ensures in
    let poly : c.face.result.1 ≡ (sight_at faces k).poly = ap (λ (s : Sight). s.poly) (sym at) in
    let base : c.len.result + length c.args.vertices.now + c.faces.result ≡ length cells + length c.args.vertices.now + length faces = omega (arith, c.len.ensures, c.faces.ensures.count) in
    let covers : c.deref.result.now ≡ (face_part p (sight_at faces k)).covers = c.deref.ensures.value ∙ c.in_ok-face_cone.ensures ∙ ap (λ b. cone_from b p.edges (sight_at faces k).poly (sight_at faces k).arrangement) base in
    ap length covers ∙ length-map (facets_of (sight_at faces k).poly) _ ∙ ap (λ q. length (facets_of q)) (sym poly)

pub push-requires-clause-below : goal.push-requires-clause-below
push-requires-clause-below g c =
    let cells : List (ℕ × Cell) = g.C.CellList.cells c.args.cells.now in
    let faces : List Sight = c.args.held.now.faces in
    let p : Parts = rank_parts c.args.plex.now.dim cells c.args.vertices.now c.args.held.now in
    let k = c.loop-k.k in
    let within : k < length faces = omega (arith, c.loop-k-test.true, c.faces-k-end.ensures.count) in
    let has : HasFacets p.edges (facets_of (sight_at faces k).poly) (sight_at faces k).arrangement = all_at (λ (s : Sight). HasFacets p.edges (facets_of s.poly) s.arrangement) faces k (vertex_sight 0) (c.requires.whole.parts.sides c.requires.untwisted) within in
    let two : dim_of (sight_at faces k).poly ≡ 2 = (all_at IsFacePart faces k (vertex_sight 0) c.requires.whole.parts.faces within).dim in
    let h : Diagram = c.loop-k.plex in
    let same : h.dim ≡ p.dim = ap (λ (x : Diagram). x.dim) c.loop-k.invariant in
    let is : IsFor p h = subst (IsFor p) (sym c.loop-k.invariant) (still-for p c.args.plex.now (c.args.plex.now.points ++ map (face_part p) (take k faces)) c.requires.plex) in
    let seen : Sight = record { key = c.face.result.0.0; poly = c.face.result.1; arrangement = c.face.result.2.now } in
    let at : sight_at faces k ≡ seen = get_or_from_slice_get faces k seen (vertex_sight 0) c.face.ensures in
    let poly : c.face.result.1 ≡ (sight_at faces k).poly = ap (λ (s : Sight). s.poly) (sym at) in
    let base : c.len.result + length c.args.vertices.now + c.faces.result ≡ length cells + length c.args.vertices.now + length faces = omega (arith, c.len.ensures, c.faces.ensures.count) in
    let covers : c.deref.result.now ≡ (face_part p (sight_at faces k)).covers = c.deref.ensures.value ∙ c.in_ok-face_cone.ensures ∙ ap (λ b. cone_from b p.edges (sight_at faces k).poly (sight_at faces k).arrangement) base in
    let one : 1 ≡ dim_of c.face.result.1 - 1 = omega (arith, ap dim_of poly ∙ two) in
    subst (λ d. AllByRecursion (λ (e : ConeEntry). IsInStratum h d e.point) c.deref.result.now) one
    (subst (AllByRecursion (λ (e : ConeEntry). IsInStratum h 1 e.point)) (sym covers) (face-below p c.requires.whole.parts h same is (sight_at faces k) has))

pub loop-k-preserved : goal.loop-k-preserved
loop-k-preserved g c =
    let cells : List (ℕ × Cell) = g.C.CellList.cells c.args.cells.now in
    let faces : List Sight = c.args.held.now.faces in
    let p : Parts = rank_parts c.args.plex.now.dim cells c.args.vertices.now c.args.held.now in
    let k = c.loop-k.k in
    let within : k < length faces = omega (arith, c.loop-k-test.true, c.faces-k-end.ensures.count) in
    let has : HasFacets p.edges (facets_of (sight_at faces k).poly) (sight_at faces k).arrangement = all_at (λ (s : Sight). HasFacets p.edges (facets_of s.poly) s.arrangement) faces k (vertex_sight 0) (c.requires.whole.parts.sides c.requires.untwisted) within in
    let two : dim_of (sight_at faces k).poly ≡ 2 = (all_at IsFacePart faces k (vertex_sight 0) c.requires.whole.parts.faces within).dim in
    let h : Diagram = c.loop-k.plex in
    let same : h.dim ≡ p.dim = ap (λ (x : Diagram). x.dim) c.loop-k.invariant in
    let is : IsFor p h = subst (IsFor p) (sym c.loop-k.invariant) (still-for p c.args.plex.now (c.args.plex.now.points ++ map (face_part p) (take k faces)) c.requires.plex) in
    let seen : Sight = record { key = c.face.result.0.0; poly = c.face.result.1; arrangement = c.face.result.2.now } in
    let at : sight_at faces k ≡ seen = get_or_from_slice_get faces k seen (vertex_sight 0) c.face.ensures in
    let poly : c.face.result.1 ≡ (sight_at faces k).poly = ap (λ (s : Sight). s.poly) (sym at) in
    let base : c.len.result + length c.args.vertices.now + c.faces.result ≡ length cells + length c.args.vertices.now + length faces = omega (arith, c.len.ensures, c.faces.ensures.count) in
    let covers : c.deref.result.now ≡ (face_part p (sight_at faces k)).covers = c.deref.ensures.value ∙ c.in_ok-face_cone.ensures ∙ ap (λ b. cone_from b p.edges (sight_at faces k).poly (sight_at faces k).arrangement) base in
    let old = c.args.plex.now.points in
    c.in_ok-push.ensures.ok
    ∙ (λ i. record (c.loop-k.invariant i) { points = (c.loop-k.invariant i).points ++ record { poly = poly i; covers = covers i } ∷ [] })
    ∙ ap (λ l. record c.args.plex.now { points = l }) (append_assoc old (map (face_part p) (take k faces)) (face_part p (sight_at faces k) ∷ []) ∙ ap (λ l. old ++ l) (sym (map_more (face_part p) faces k (vertex_sight 0) within)))

pub returns : goal.returns
returns g c =
    let cells : List (ℕ × Cell) = g.C.CellList.cells c.args.cells.now in
    let p : Parts = rank_parts c.args.plex.now.dim cells c.args.vertices.now c.args.held.now in
    c.loop-k.invariant ∙ ap (λ l. record c.args.plex.now { points = c.args.plex.now.points ++ map (face_part p) l }) (take_all c.loop-k.k c.args.held.now.faces (omega (arith, c.loop-k-test.false, c.faces-k-end.ensures.count)))
