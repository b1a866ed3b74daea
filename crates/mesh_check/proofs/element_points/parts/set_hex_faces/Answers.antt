use Rattle.std.proofs.Common.{◌≡◌, ◌<◌, ◌∷◌, [], length, map, take, get_or, sym, ap₂, subst, arith}
use Rattle.plain_lists.specs.Lists.{picked}
use Rattle.plain_lists.proofs.Each.{all_at}
use Rattle.mesh_defs.specs.declared.Poly.TheVariants.{Vertex, Hex}
use Rattle.mesh_defs.specs.Tables.{Facet, dim_of, facets_of}
use Rattle.mesh_check.specs.element_points.Parts.{Part, part}
use Rattle.mesh_check.specs.element_points.Flags.{AreSet}
use Rattle.mesh_check.proofs.element_points.Setting.{set-append}
use Rattle.mesh_check.proofs.element_points.Reading.{map-more}
use Rattle.mesh_check.proofs.element_points.Cells.{hex_face-dim}
use Rattle.mesh_check.proofs.element_points.parts.set_hex_faces.Goals as goal

pub loop-f-preserved : goal.loop-f-preserved
loop-f-preserved c =
    let es = c.args.places.now.elements in
    let faces = facets_of Hex in
    let none : Facet = record { poly = Vertex; corners = [] } in
    let make : Facet → Part = λ (x : Facet). part (dim_of x.poly) (picked c.args.nodes.now x.corners) in
    let low : c.loop-f.f < length faces = omega (arith, c.facet_count-f-end.ensures) in
    let is : part 2 c.hex_face.result ≡ make (get_or faces c.loop-f.f none) = ap₂ part (sym (all_at (λ (x : Facet). dim_of x.poly ≡ 2) faces c.loop-f.f none hex_face-dim low)) c.hex_face.ensures in
    let one : AreSet es (make (get_or faces c.loop-f.f none) ∷ []) c.loop-f.found c.set_flag.new.found = subst (λ own. AreSet es (own ∷ []) c.loop-f.found c.set_flag.new.found) is c.set_flag.ensures in
    subst (λ ps. AreSet es ps c.args.found.now c.set_flag.new.found) (sym (map-more make faces c.loop-f.f none low))
    (set-append es (map make (take c.loop-f.f faces)) (make (get_or faces c.loop-f.f none) ∷ []) c.args.found.now c.loop-f.found c.set_flag.new.found c.loop-f.invariant one)
