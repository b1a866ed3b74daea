use Rattle.std.proofs.Common.{◌<◌, [], ◌∷◌, ◌++◌, map, length, take, sym, ap, ◌∙◌, subst, arith}
use Rattle.std.specs.List.{slice_get}
use Rattle.std.proofs.lemmas.List.{map-append}
use Rattle.mesh_defs.specs.Mesh.{Mesh, Section}
use Rattle.plex_base.specs.DataFields.{section_on}
use Rattle.input_defs.specs.Content.{Content}
use Rattle.input_defs.specs.RightContent.{IsRight}
use Rattle.input_defs.specs.Meshes.{section_on as section_on_mesh}
use Rattle.mesh_check.proofs.Assembled.{take-get, take-all}
use Rattle.mesh_check.proofs.Sections.{knows, next-components, next-rows}
use Rattle.mesh_check.proofs.fields.add_fields.Goals as goal

pub field_on_mesh-requires-clause-numbers : goal.field_on_mesh-requires-clause-numbers
field_on_mesh-requires-clause-numbers c = knows c.args.places.now c.text-text.result.now c.field-on.result.0 c.field-on.result.1.now c.loop-i.i _ c.text-text.ensures c.field-on.ensures c.in_ok-numbers.ensures

pub add_field-requires-clause-components : goal.add_field-requires-clause-components
add_field-requires-clause-components c =
    let p = c.args.places.now in
    let right = subst IsRight c.text-text.ensures c.nodes-nodes.ensures.right in
    let at = ap (λ (m : Content). slice_get m.fields c.loop-i.i) (sym c.text-text.ensures) ∙ c.field-on.ensures in
    next-components p c.field-on.result.0 c.field-on.result.1.now _ c.loop-i.i right at c.in_ok-moved.ensures

pub add_field-requires-clause-rows : goal.add_field-requires-clause-rows
add_field-requires-clause-rows c =
    let p = c.args.places.now in
    let right = subst IsRight c.text-text.ensures c.nodes-nodes.ensures.right in
    let at = ap (λ (m : Content). slice_get m.fields c.loop-i.i) (sym c.text-text.ensures) ∙ c.field-on.ensures in
    next-rows p c.field-on.result.0 c.field-on.result.1.now _ c.loop-i.i c.loop-i.builder right c.requires.accepted at c.in_ok-moved.ensures (ap (λ (m : Mesh). m.at) c.loop-i.invariant ∙ c.requires.at) (ap (λ (m : Mesh). m.cells) c.loop-i.invariant ∙ c.requires.cells)

pub loop-i-preserved : goal.loop-i-preserved
loop-i-preserved c =
    let p = c.args.places.now in
    let at = ap (λ (m : Content). slice_get m.fields c.loop-i.i) (sym c.text-text.ensures) ∙ c.field-on.ensures in
    let same = ap (λ (m : Content). length m.fields) c.text-text.ensures in
    let low : c.loop-i.i < length p.fields = omega arith in
    c.in_ok-add_field.ensures.ok ∙ ap (λ (m : Mesh). record m { fields = m.fields ++ section_on c.field-on.result.0 c.in_ok-moved.moved ∷ [] }) c.loop-i.invariant
    ∙ ap (λ (s : Section). record c.args.builder.now { fields = map (section_on_mesh p) (take c.loop-i.i p.fields) ++ s ∷ [] }) c.in_ok-moved.ensures
    ∙ ap (λ xs. record c.args.builder.now { fields = xs }) (sym (map-append (section_on_mesh p) (take c.loop-i.i p.fields) (section_on c.field-on.result.0 c.field-on.result.1.now ∷ [])) ∙ ap (map (section_on_mesh p)) (sym (take-get p.fields c.loop-i.i _ low at)))

pub returns : goal.returns
returns c =
    let p = c.args.places.now in
    let same = ap (λ (m : Content). length m.fields) c.text-text.ensures in
    c.loop-i.invariant ∙ ap (λ xs. record c.args.builder.now { fields = map (section_on_mesh p) xs }) (take-all p.fields c.loop-i.i (omega arith) (omega arith))
