use Rattle.std.proofs.Common.{◌≡◌, true, set, sym, ap, ◌∙◌, subst, arith}
use Rattle.std.specs.Prelude.{Some}
use Rattle.std.specs.List.{slice_get, position_or_len}
use Rattle.mesh_defs.specs.Tables.{corner_count}
use Rattle.input_defs.specs.Content.{Element, Content}
use Rattle.input_defs.specs.RightContent.{IsRight}
use Rattle.input_defs.specs.Meshes.{poly, same_place}
use Rattle.input_laws.specs.place_laws.Places.{element_at}
use Rattle.mesh_check.specs.element_points.Parts.{parts_of, face_parts, edge_parts}
use Rattle.mesh_check.specs.element_points.Flags.{AreSet}
use Rattle.mesh_check.proofs.element_points.Cells.{own-is, own-place, own-corners, all-set, first-at}
use Rattle.mesh_check.proofs.element_points.points.set_parts.Goals as goal

pub set_vertices-requires-clause-place : goal.set_vertices-requires-clause-place
set_vertices-requires-clause-place c =
    own-place c.args.places.now (subst IsRight c.text-text.ensures c.nodes-nodes.ensures.right) c.args.i _ c.requires.element (ap (λ (t : Content). slice_get t.elements c.args.i) (sym c.text-text.ensures) ∙ c.element-element.ensures)

pub set_faces-requires-clause-place : goal.set_faces-requires-clause-place
set_faces-requires-clause-place c =
    own-place c.args.places.now (subst IsRight c.text-text.ensures c.nodes-nodes.ensures.right) c.args.i _ c.requires.element (ap (λ (t : Content). slice_get t.elements c.args.i) (sym c.text-text.ensures) ∙ c.element-element.ensures)

pub set_edges-requires-clause-place : goal.set_edges-requires-clause-place
set_edges-requires-clause-place c =
    own-place c.args.places.now (subst IsRight c.text-text.ensures c.nodes-nodes.ensures.right) c.args.i _ c.requires.element (ap (λ (t : Content). slice_get t.elements c.args.i) (sym c.text-text.ensures) ∙ c.element-element.ensures)

pub set_faces-requires-clause-corners : goal.set_faces-requires-clause-corners
set_faces-requires-clause-corners c =
    own-corners c.args.places.now (subst IsRight c.text-text.ensures c.nodes-nodes.ensures.right) c.args.i _ c.requires.element (ap (λ (t : Content). slice_get t.elements c.args.i) (sym c.text-text.ensures) ∙ c.element-element.ensures) ∙ ap corner_count (sym c.poly_of_type-poly.ensures)

pub set_edges-requires-clause-corners : goal.set_edges-requires-clause-corners
set_edges-requires-clause-corners c =
    own-corners c.args.places.now (subst IsRight c.text-text.ensures c.nodes-nodes.ensures.right) c.args.i _ c.requires.element (ap (λ (t : Content). slice_get t.elements c.args.i) (sym c.text-text.ensures) ∙ c.element-element.ensures) ∙ ap corner_count (sym c.poly_of_type-poly.ensures)

pub returns : goal.returns
returns c =
    let es = c.args.places.now.elements in
    let e : Element = record { number = c.element-element.result.number; kind = c.element-element.result.kind; physical = c.element-element.result.physical; nodes = c.element-element.result.nodes.now } in
    let right : IsRight c.args.places.now = subst IsRight c.text-text.ensures c.nodes-nodes.ensures.right in
    let at : slice_get es c.args.i ≡ Some e = ap (λ (t : Content). slice_get t.elements c.args.i) (sym c.text-text.ensures) ∙ c.element-element.ensures in
    let is : element_at es c.args.i ≡ e = own-is c.args.places.now right c.args.i e c.requires.element at in
    let first : position_or_len (same_place e) es ≡ c.first.result = ap (λ x. position_or_len (same_place x) es) (sym is) ∙ sym (first-at es c.args.i c.requires.element) ∙ sym c.first.ensures.first in
    subst (λ (x : Element). AreSet es (parts_of (poly x) x.nodes) c.args.found.now c.set_edges.new.found) (sym is)
    (all-set es e c.first.result c.args.found.now c.set_vertices.new.found c.set_faces.new.found c.set_edges.new.found (omega (arith, c.set_vertices.auto.found, c.requires.each)) first c.set_vertices.ensures
    (subst (λ p. AreSet es (face_parts p e.nodes) (set c.set_vertices.new.found c.first.result true) c.set_faces.new.found) c.poly_of_type-poly.ensures c.set_faces.ensures)
    (subst (λ p. AreSet es (edge_parts p e.nodes) c.set_faces.new.found c.set_edges.new.found) c.poly_of_type-poly.ensures c.set_edges.ensures))
