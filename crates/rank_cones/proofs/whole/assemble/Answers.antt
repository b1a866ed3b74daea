use Rattle.std.proofs.Common.{◌≡◌, ℕ, ◌++◌, [], List, map, length, refl, sym, ap, ◌∙◌, subst}
use Rattle.mesh_defs.specs.Mesh.{Cell}
use Rattle.mesh_defs.specs.Diagram.{Diagram}
use Rattle.plex_base.specs.Dim.{dim_number}
use Rattle.plex_chart.specs.Chart.{IsWhole}
use Rattle.rank_cones.specs.held_points.Held.{Held}
use Rattle.rank_chart_laws.specs.rank_diagram_laws.Parts.{Parts, cell_part, face_part, edge_part}
use Rattle.rank_cones.specs.Assembly.{rank_parts}
use Rattle.rank_cones.proofs.Wholes.{parts-whole}
use Rattle.rank_cones.proofs.Assembling.{with-points, cells-part, length-vertices, length-faces, with-cells, with-vertices, with-faces, with-edges}
use Rattle.rank_cones.proofs.whole.assemble.Goals as goal

pub push_faces-requires-clause-start : goal.push_faces-requires-clause-start
push_faces-requires-clause-start g c =
    let cells : List (ℕ × Cell) = g.C.CellList.cells c.args.cells.now in
    let vertices : List ℕ = c.args.vertices.now in
    let held : Held = c.args.held.now in
    let p : Parts = rank_parts (dim_number c.args.dim) cells vertices held in
    let start : c.new-plex.result ≡ with-points p [] = c.new-plex.ensures ∙ (λ i. record { dim = p.dim; cells = c.len.ensures i; vertices = length p.vertices; faces = c.faces.ensures.count i; edges = c.edges.ensures.count i; points = [] }) in
    let dims : c.new-plex.result.dim ≡ p.dim = ap (λ (x : Diagram). x.dim) start in
    let one : c.push_cells.new.plex ≡ with-points p (cells-part p) = with-cells p c.new-plex.result c.push_cells.new.plex start
    (c.in_ok-push_cells.ensures.plex ∙ ap (λ d. record c.new-plex.result { points = map (cell_part (rank_parts d cells vertices held)) cells }) dims) in
    let two = with-vertices p c.push_cells.new.plex c.push_vertices.new.plex (length vertices) refl one c.in_ok-push_vertices.ensures in
    let dims2 : c.push_vertices.new.plex.dim ≡ p.dim = ap (λ (x : Diagram). x.dim) two in
    ap (λ (x : Diagram). length x.points) two ∙ length-vertices p

pub push_edges-requires-clause-start : goal.push_edges-requires-clause-start
push_edges-requires-clause-start g c =
    let cells : List (ℕ × Cell) = g.C.CellList.cells c.args.cells.now in
    let vertices : List ℕ = c.args.vertices.now in
    let held : Held = c.args.held.now in
    let p : Parts = rank_parts (dim_number c.args.dim) cells vertices held in
    let start : c.new-plex.result ≡ with-points p [] = c.new-plex.ensures ∙ (λ i. record { dim = p.dim; cells = c.len.ensures i; vertices = length p.vertices; faces = c.faces.ensures.count i; edges = c.edges.ensures.count i; points = [] }) in
    let dims : c.new-plex.result.dim ≡ p.dim = ap (λ (x : Diagram). x.dim) start in
    let one : c.push_cells.new.plex ≡ with-points p (cells-part p) = with-cells p c.new-plex.result c.push_cells.new.plex start
    (c.in_ok-push_cells.ensures.plex ∙ ap (λ d. record c.new-plex.result { points = map (cell_part (rank_parts d cells vertices held)) cells }) dims) in
    let two = with-vertices p c.push_cells.new.plex c.push_vertices.new.plex (length vertices) refl one c.in_ok-push_vertices.ensures in
    let dims2 : c.push_vertices.new.plex.dim ≡ p.dim = ap (λ (x : Diagram). x.dim) two in
    let three = with-faces p c.push_vertices.new.plex c.push_faces.new.plex two
    (c.in_ok-push_faces.ensures ∙ ap (λ d. record c.push_vertices.new.plex { points = c.push_vertices.new.plex.points ++ map (face_part (rank_parts d cells vertices held)) held.faces }) dims2) in
    let dims3 : c.push_faces.new.plex.dim ≡ p.dim = ap (λ (x : Diagram). x.dim) three in
    ap (λ (x : Diagram). length x.points) three ∙ length-faces p

pub finish-requires : goal.finish-requires
finish-requires g c =
    let cells : List (ℕ × Cell) = g.C.CellList.cells c.args.cells.now in
    let vertices : List ℕ = c.args.vertices.now in
    let held : Held = c.args.held.now in
    let p : Parts = rank_parts (dim_number c.args.dim) cells vertices held in
    let start : c.new-plex.result ≡ with-points p [] = c.new-plex.ensures ∙ (λ i. record { dim = p.dim; cells = c.len.ensures i; vertices = length p.vertices; faces = c.faces.ensures.count i; edges = c.edges.ensures.count i; points = [] }) in
    let dims : c.new-plex.result.dim ≡ p.dim = ap (λ (x : Diagram). x.dim) start in
    let one : c.push_cells.new.plex ≡ with-points p (cells-part p) = with-cells p c.new-plex.result c.push_cells.new.plex start
    (c.in_ok-push_cells.ensures.plex ∙ ap (λ d. record c.new-plex.result { points = map (cell_part (rank_parts d cells vertices held)) cells }) dims) in
    let two = with-vertices p c.push_cells.new.plex c.push_vertices.new.plex (length vertices) refl one c.in_ok-push_vertices.ensures in
    let dims2 : c.push_vertices.new.plex.dim ≡ p.dim = ap (λ (x : Diagram). x.dim) two in
    let three = with-faces p c.push_vertices.new.plex c.push_faces.new.plex two
    (c.in_ok-push_faces.ensures ∙ ap (λ d. record c.push_vertices.new.plex { points = c.push_vertices.new.plex.points ++ map (face_part (rank_parts d cells vertices held)) held.faces }) dims2) in
    let dims3 : c.push_faces.new.plex.dim ≡ p.dim = ap (λ (x : Diagram). x.dim) three in
    let four = with-edges p c.push_faces.new.plex c.push_edges.new.plex three
    (c.in_ok-push_edges.ensures ∙ ap (λ d. record c.push_faces.new.plex { points = c.push_faces.new.plex.points ++ map (edge_part (rank_parts d cells vertices held)) held.edges }) dims3) in
    subst IsWhole (sym four) (parts-whole p c.requires.whole.parts c.in_ok-push_cells.ensures.untwisted)

pub returns-clause-plex : goal.returns-clause-plex
returns-clause-plex g c =
    let cells : List (ℕ × Cell) = g.C.CellList.cells c.args.cells.now in
    let vertices : List ℕ = c.args.vertices.now in
    let held : Held = c.args.held.now in
    let p : Parts = rank_parts (dim_number c.args.dim) cells vertices held in
    let start : c.new-plex.result ≡ with-points p [] = c.new-plex.ensures ∙ (λ i. record { dim = p.dim; cells = c.len.ensures i; vertices = length p.vertices; faces = c.faces.ensures.count i; edges = c.edges.ensures.count i; points = [] }) in
    let dims : c.new-plex.result.dim ≡ p.dim = ap (λ (x : Diagram). x.dim) start in
    let one : c.push_cells.new.plex ≡ with-points p (cells-part p) = with-cells p c.new-plex.result c.push_cells.new.plex start
    (c.in_ok-push_cells.ensures.plex ∙ ap (λ d. record c.new-plex.result { points = map (cell_part (rank_parts d cells vertices held)) cells }) dims) in
    let two = with-vertices p c.push_cells.new.plex c.push_vertices.new.plex (length vertices) refl one c.in_ok-push_vertices.ensures in
    let dims2 : c.push_vertices.new.plex.dim ≡ p.dim = ap (λ (x : Diagram). x.dim) two in
    let three = with-faces p c.push_vertices.new.plex c.push_faces.new.plex two
    (c.in_ok-push_faces.ensures ∙ ap (λ d. record c.push_vertices.new.plex { points = c.push_vertices.new.plex.points ++ map (face_part (rank_parts d cells vertices held)) held.faces }) dims2) in
    let dims3 : c.push_faces.new.plex.dim ≡ p.dim = ap (λ (x : Diagram). x.dim) three in
    let four = with-edges p c.push_faces.new.plex c.push_edges.new.plex three
    (c.in_ok-push_edges.ensures ∙ ap (λ d. record c.push_faces.new.plex { points = c.push_faces.new.plex.points ++ map (edge_part (rank_parts d cells vertices held)) held.edges }) dims3) in
    c.in_ok-finish.ensures ∙ four
