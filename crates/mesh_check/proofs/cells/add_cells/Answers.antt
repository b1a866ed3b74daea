use Rattle.std.proofs.Common.{◌≡◌, [], ◌∷◌, ◌++◌, map, get_or, sym, ap, ap₂, ◌∙◌, subst, arith}
use Rattle.mesh_defs.specs.Mesh.{Mesh, Cell}
use Rattle.input_defs.specs.RightContent.{IsRight}
use Rattle.input_defs.specs.Meshes.{vertex_nodes, vertex_of, cell_of}
use Rattle.input_laws.specs.place_laws.Places.{element_at}
use Rattle.mesh_check.specs.Partly.{coordinates, partly}
use Rattle.mesh_check.proofs.Twists.{element-of}
use Rattle.mesh_check.proofs.Assembled.{next-cell, all-cells}
use Rattle.mesh_check.proofs.cells.add_cells.Goals as goal

pub add_cell-requires : goal.add_cell-requires
add_cell-requires c =
    let p = c.args.places.now in
    let right = subst IsRight c.text-text.ensures c.nodes-nodes.ensures.right in
    let e = element-of p c.text-text.result.now (get_or c.cells-place-items.result.now c.loop-place.place-index 0) _ c.text-text.ensures c.element-element.ensures in
    let cell : Cell = record { poly = c.poly_of_type.result; vertices = c.deref.result.now } in
    let is : cell ≡ cell_of (vertex_nodes p) (element_at p.elements (get_or c.cells-place-items.result.now c.loop-place.place-index 0)) =
    ap₂ (λ q vs. record { poly = q; vertices = vs }) c.poly_of_type.ensures (c.deref.ensures.value ∙ c.in_ok-put_positions.ensures ∙ ap (λ vs. map (vertex_of vs) c.element-element.result.nodes.now) c.requires.vertices) ∙ ap (cell_of (vertex_nodes p)) (sym e) in
    let next = next-cell p c.cells-place-items.result.now c.loop-place.place-index c.loop-place.builder cell right c.requires.accepted c.cells-place-items.ensures.cells c.loop-place-test.true c.loop-place.invariant is in
    record { few = next.few; sound = next.sound; fresh = next.fresh }

pub loop-place-preserved : goal.loop-place-preserved
loop-place-preserved c =
    let p = c.args.places.now in
    let right = subst IsRight c.text-text.ensures c.nodes-nodes.ensures.right in
    let e = element-of p c.text-text.result.now (get_or c.cells-place-items.result.now c.loop-place.place-index 0) _ c.text-text.ensures c.element-element.ensures in
    let cell : Cell = record { poly = c.poly_of_type.result; vertices = c.deref.result.now } in
    let is : cell ≡ cell_of (vertex_nodes p) (element_at p.elements (get_or c.cells-place-items.result.now c.loop-place.place-index 0)) =
    ap₂ (λ q vs. record { poly = q; vertices = vs }) c.poly_of_type.ensures (c.deref.ensures.value ∙ c.in_ok-put_positions.ensures ∙ ap (λ vs. map (vertex_of vs) c.element-element.result.nodes.now) c.requires.vertices) ∙ ap (cell_of (vertex_nodes p)) (sym e) in
    let next = next-cell p c.cells-place-items.result.now c.loop-place.place-index c.loop-place.builder cell right c.requires.accepted c.cells-place-items.ensures.cells c.loop-place-test.true c.loop-place.invariant is in
    c.in_ok-add_cell.ensures.ok
    ∙ ap (λ (m : Mesh). record m { cells = m.cells ++ cell ∷ [] }) c.loop-place.invariant
    ∙ ap (λ cs. partly p (coordinates p) cs [] [] []) (sym next.more)

pub returns : goal.returns
returns c =
    let p = c.args.places.now in
    c.loop-place.invariant ∙ ap (λ cs. partly p (coordinates p) cs [] [] []) (all-cells p c.cells-place-items.result.now c.loop-place.place-index c.cells-place-items.ensures.cells (omega arith) (omega arith))
