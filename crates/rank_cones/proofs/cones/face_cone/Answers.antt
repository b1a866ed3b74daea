use Rattle.std.proofs.Common.{◌≡◌, ◌<◌, List, [], ◌∷◌, ◌++◌, map, length, sym, ap, ◌∙◌, arith}
use Rattle.std.proofs.lemmas.List.{map_more, take_all}
use Rattle.std.proofs.lemmas.Option.{get_or_from_slice_get}
use Rattle.plain_lists.specs.Lists.{picked}
use Rattle.plain_lists.proofs.Each.{all_at}
use Rattle.mesh_defs.specs.declared.Poly.TheVariants.{Vertex}
use Rattle.mesh_defs.specs.Tables.{Facet, dim_of, facets_of, edges_of}
use Rattle.mesh_defs.specs.Points.{Sight, vertex_sight}
use Rattle.rank_laws.specs.diagram_laws.Strata.{entry_from}
use Rattle.rank_chart_laws.specs.rank_diagram_laws.Parts.{IsFacePart}
use Rattle.rank_cones.specs.Placed.{sight_at}
use Rattle.rank_cones.proofs.Polygons.{length-sides, side-facet}
use Rattle.rank_cones.proofs.cones.face_cone.Goals as goal

pub face_side-requires-clause-side : goal.face_side-requires-clause-side
face_side-requires-clause-side g c =
    let faces : List Sight = c.args.held.now.faces in
    let t : Sight = sight_at faces c.args.k in
    let own : Sight = record { key = c.face.result.0.0; poly = c.face.result.1; arrangement = c.face.result.2.now } in
    let is : own ≡ t = sym (get_or_from_slice_get faces c.args.k own (vertex_sight 0) c.face.ensures) in
    omega (arith, c.loop-j-test.true, c.edge_count-j-end.ensures, ap (λ (s : Sight). length (edges_of s.poly)) is)

pub loop-j-preserved : goal.loop-j-preserved
loop-j-preserved g c =
    let faces : List Sight = c.args.held.now.faces in
    let t : Sight = sight_at faces c.args.k in
    let own : Sight = record { key = c.face.result.0.0; poly = c.face.result.1; arrangement = c.face.result.2.now } in
    let is : own ≡ t = sym (get_or_from_slice_get faces c.args.k own (vertex_sight 0) c.face.ensures) in
    let two : dim_of t.poly ≡ 2 = (all_at IsFacePart faces c.args.k (vertex_sight 0) c.requires.placed.faces c.requires.face).dim in
    let j = c.loop-j.j in
    let within : j < length (edges_of t.poly) = omega (arith, c.loop-j-test.true, c.edge_count-j-end.ensures, ap (λ (s : Sight). length (edges_of s.poly)) is) in
    let entry-of = λ (f : Facet). entry_from c.args.base c.args.held.now.edges f.poly (picked t.arrangement f.corners) in
    let entry = c.face_side.ensures ∙ ap entry-of (sym (side-facet t.poly j two within)) in
    c.in_ok-push.ensures.items ∙ (λ i. c.loop-j.invariant i ++ entry i ∷ []) ∙ sym (map_more entry-of (facets_of t.poly) j (record { poly = Vertex; corners = [] }) (omega (arith, within, length-sides t.poly two)))

pub returns : goal.returns
returns g c =
    let faces : List Sight = c.args.held.now.faces in
    let t : Sight = sight_at faces c.args.k in
    let own : Sight = record { key = c.face.result.0.0; poly = c.face.result.1; arrangement = c.face.result.2.now } in
    let is : own ≡ t = sym (get_or_from_slice_get faces c.args.k own (vertex_sight 0) c.face.ensures) in
    let two : dim_of t.poly ≡ 2 = (all_at IsFacePart faces c.args.k (vertex_sight 0) c.requires.placed.faces c.requires.face).dim in
    c.loop-j.invariant ∙ ap (map (λ (f : Facet). entry_from c.args.base c.args.held.now.edges f.poly (picked t.arrangement f.corners))) (take_all c.loop-j.j (facets_of t.poly) (omega (arith, c.loop-j-test.false, c.edge_count-j-end.ensures, ap (λ (s : Sight). length (edges_of s.poly)) is, length-sides t.poly two)))
