use Rattle.std.proofs.Common.{◌≡◌, ℕ, map, length, ap, ◌∙◌, arith}
use Rattle.std.proofs.lemmas.List.{length-map}
use Rattle.mesh_defs.specs.Mesh.{Cell}
use Rattle.mesh_defs.specs.Points.{point_of, cell_edges}
use Rattle.mesh_defs.specs.Diagram.{firsts, place_in}
use Rattle.local_points.specs.Cells.{edges_seen}
use Rattle.local_points.specs.Rows.{rows}
use Rattle.local_points.specs.Points.{places_in, edges_among}
use Rattle.local_points.specs.Stored.{edge_sight_of}
use Rattle.local_points.proofs.Ends.{length-edges_seen}
use Rattle.local_points.proofs.Rows.{rows-of_cells}
use Rattle.local_points.proofs.edges.join_edges.Goals as goal

pub number-requires-clause-few : goal.number-requires-clause-few
number-requires-clause-few g c =
    let cells = g.C.CellList.cells c.args.cells.now in
    let seen = c.in_ok-seen.seen.items in
    omega (arith, ap length c.deref.ensures.value, length-map seen edge_sight_of, ap length c.in_ok-seen.ensures, length-edges_seen cells, c.requires.few)

pub returns-clause-places : goal.returns-clause-places
returns-clause-places g c =
    let cells = g.C.CellList.cells c.args.cells.now in
    let seen : map edge_sight_of c.deref.result.now ≡ edges_seen cells = ap (map edge_sight_of) c.deref.ensures.value ∙ c.in_ok-seen.ensures in
    let table : c.number.new.self ≡ edges_among cells = c.in_ok-places.ensures.edges ∙ ap firsts seen in
    let places : c.in_ok-places.places.items ≡ places_in (edges_among cells) (edges_seen cells) = c.in_ok-places.ensures.places ∙ (λ i. places_in (table i) (seen i)) in
    c.new.ensures ∙ (λ i. rows (places i) (c.in_ok-firsts.ensures i))
    ∙ rows-of_cells (λ (d : ℕ × Cell). cell_edges d.0 d.1) (λ s. place_in (edges_among cells) (point_of s)) cells
