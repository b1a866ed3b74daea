use Rattle.std.proofs.Common.{◌≡◌, length, map, refl, sym, ap, ◌∙◌, arith}
use Rattle.std.proofs.lemmas.List.{length-map}
use Rattle.plain_lists.proofs.Filters.{map_map_same}
use Rattle.plain_lists.proofs.Each.{all_from}
use Rattle.input_defs.specs.Content.{Node}
use Rattle.input_defs.specs.Meshes.{vertex_nodes}
use Rattle.mesh_check.specs.mesh_vertices.Vertices.{vertex_view, is_used_by}
use Rattle.mesh_check.specs.declared.mesh_vertices.vertices.FileVertex.{FileVertex}
use Rattle.mesh_check.proofs.mesh_vertices.vertices.Vertices.of.Goals as goal

pub of-requires : goal.of-requires
of-requires c =
    let few = c.in_ok-vertices.ensures.few in
    let same = ap length (c.in_ok-numbers_of.ensures ∙ ap (map (λ (v : FileVertex). v.number)) c.deref-2.ensures.value) in
    omega (arith, few, same, length-map c.in_ok-vertices.vertices.items (λ (v : FileVertex). v.number))

pub invariant_of-result : goal.invariant_of-result
invariant_of-result c =
    let vertices = c.in_ok-vertices.vertices.items in (
      c.in_ok-table.ensures ∙ c.in_ok-numbers_of.ensures ∙ ap (map (λ (v : FileVertex). v.number)) c.deref-2.ensures.value
          ∙ sym (map_map_same (λ (node : Node). node.number) vertex_view (λ (v : FileVertex). v.number) vertices (all_from (λ (v : FileVertex). v.number ≡ v.number) (λ v. refl) vertices)),
      c.in_ok-vertices.ensures.few,
    )

pub returns : goal.returns
unfolding vertex_nodes
returns c = c.in_ok-vertices.ensures.flagged (λ (node : Node). is_used_by c.args.text.now c.args.text.now.elements node.number)
    (c.deref.ensures.value ∙ c.in_ok-used.ensures ∙ map_map_same (is_used_by c.args.text.now c.args.text.now.elements) (λ (node : Node). node.number) (λ (node : Node). is_used_by c.args.text.now c.args.text.now.elements node.number) c.args.text.now.nodes (all_from (λ (node : Node). is_used_by c.args.text.now c.args.text.now.elements node.number ≡ is_used_by c.args.text.now c.args.text.now.elements node.number) (λ node. refl) c.args.text.now.nodes))
