use Rattle.std.proofs.Common.{◌≡◌, ◌+◌, ◌==◌, true, [], ◌∷◌, ◌++◌, map, length, sym, ap, ◌∙◌, subst, arith}
use Rattle.std.specs.List.{list_any, AllByRecursion}
use Rattle.std.proofs.lemmas.List.{length-map}
use Rattle.mesh_laws.proofs.Firsts.{firsts-length}
use Rattle.local_points.specs.Cells.{edges_seen}
use Rattle.local_points.specs.Points.{Local}
use Rattle.local_points.proofs.Ends.{length-edges_seen}
use Rattle.rank_chart_laws.specs.meeting_laws.Sets.{Rising}
use Rattle.dist_state.specs.scatter_state.Parts.{number_of}
use Rattle.rank_laws.specs.cell_laws.Cells.{places_from}
use Rattle.interp_share.proofs.own_field_laws.Given.{cells-few, vertices-few-here, vertices-rise, corners-there}
use Rattle.interp_share.specs.part_weights.Places.{cell_places, vertex_place}
use Rattle.interp_share.proofs.part_weights.Seen.{faces-row, edges-row}
use Rattle.interp_share.proofs.part_weights.places.list_places.Goals as goal

pub overflow_cast-cells : goal.overflow_cast-cells
overflow_cast-cells c =
    let h = c.requires.points.some in
    let part = c.args.part.now in
    record { fits = omega (arith, ap length c.cells.ensures.cells, length-map part.cells number_of, cells-few part h.m h.a h.n h.r h.is) }

pub overflow_cast-faces : goal.overflow_cast-faces
overflow_cast-faces c =
    let h = c.requires.points.some in
    record { fits = omega (arith, ap length c.vertices.ensures, vertices-few-here c.args.part.now h.m h.a h.n h.r h.is) }

pub overflow_add-faces : goal.overflow_add-faces
overflow_add-faces c =
    let h = c.requires.points.some in
    let part = c.args.part.now in
    record { fits = omega (arith, ap length c.cells.ensures.cells, length-map part.cells number_of, cells-few part h.m h.a h.n h.r h.is, ap length c.vertices.ensures, vertices-few-here part h.m h.a h.n h.r h.is) }

pub overflow_add-edges : goal.overflow_add-edges
overflow_add-edges c =
    let h = c.requires.points.some in
    let part = c.args.part.now in
    record { fits = omega (arith, ap length c.cells.ensures.cells, length-map part.cells number_of, cells-few part h.m h.a h.n h.r h.is, ap length c.vertices.ensures, vertices-few-here part h.m h.a h.n h.r h.is, c.faces.ensures.few) }

pub overflow_cast-i : goal.overflow_cast-i
overflow_cast-i c =
    let h = c.requires.points.some in
    record { fits = omega (arith, c.requires.cell, cells-few c.args.part.now h.m h.a h.n h.r h.is) }

pub push_vertices-requires-clause-rising : goal.push_vertices-requires-clause-rising
push_vertices-requires-clause-rising c =
    let h = c.requires.points.some in
    subst Rising (sym c.vertices-2.ensures) (vertices-rise c.args.part.now h.m h.a h.n h.r h.is)

pub push_vertices-requires-clause-there : goal.push_vertices-requires-clause-there
push_vertices-requires-clause-there c =
    let h = c.requires.points.some in
    let there = corners-there c.args.part.now h.m h.a h.n h.r h.is c.args.i c.requires.cell in
    coe 0 1 (j. AllByRecursion (λ v. list_any (λ w. w == v) (sym c.vertices-2.ensures j) ≡ true) (sym c.corners.ensures j)) there

pub push_vertices-requires-clause-room : goal.push_vertices-requires-clause-room
push_vertices-requires-clause-room c =
    let h = c.requires.points.some in
    let part = c.args.part.now in
    omega (arith, ap length c.cells.ensures.cells, length-map part.cells number_of, cells-few part h.m h.a h.n h.r h.is, ap length c.vertices-2.ensures, vertices-few-here part h.m h.a h.n h.r h.is)

pub push_faces-requires-clause-room : goal.push_faces-requires-clause-room
push_faces-requires-clause-room c =
    let h = c.requires.points.some in
    let part = c.args.part.now in
    omega (arith, ap length c.cells.ensures.cells, length-map part.cells number_of, cells-few part h.m h.a h.n h.r h.is, ap length c.vertices.ensures, vertices-few-here part h.m h.a h.n h.r h.is, c.faces.ensures.few, c.faces.ensures.count)

pub push_edges-requires-clause-room : goal.push_edges-requires-clause-room
push_edges-requires-clause-room c =
    let h = c.requires.points.some in
    let part = c.args.part.now in
    omega (
      arith,
      ap length c.cells.ensures.cells,
      length-map part.cells number_of,
      cells-few part h.m h.a h.n h.r h.is,
      ap length c.vertices.ensures,
      vertices-few-here part h.m h.a h.n h.r h.is,
      c.faces.ensures.few,
      ap (λ (p : Local). length p.edges) c.requires.points.all,
      firsts-length (edges_seen part.cells),
      length-edges_seen part.cells,
    )

pub returns : goal.returns
unfolding cell_places
returns c =
    let part = c.args.part.now in
    let cells : length c.cells.result.now ≡ length part.cells = ap length c.cells.ensures.cells ∙ length-map part.cells number_of in
    let start = c.in_ok-push.ensures.items ∙ ap (λ l. l ++ c.args.i ∷ []) c.clear.ensures.items in
    let vertices = c.in_ok-push_vertices.ensures ∙ (λ j. start j ++ places_from (cells j) (map (vertex_place (c.vertices-2.ensures j)) (c.corners.ensures j))) in
    let faces = faces-row part.cells c.args.i c.requires.cell c.args.local.now c.requires.points.all in
    let edges = edges-row part.cells c.args.i c.requires.cell c.args.local.now c.requires.points.all in
    let count = c.faces.ensures.count ∙ ap (λ (p : Local). length p.faces) c.requires.points.all in
    let more = c.in_ok-push_faces.ensures ∙ (λ j. vertices j ++ places_from (cells j + ap length c.vertices.ensures j) (faces j)) in
    c.in_ok-push_edges.ensures ∙ (λ j. more j ++ places_from (cells j + ap length c.vertices.ensures j + count j) (edges j))
