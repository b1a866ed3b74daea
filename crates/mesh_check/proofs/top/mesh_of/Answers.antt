use Rattle.std.proofs.Common.{◌≡◌, ◌≤◌, ◌-◌, List, [], map, length, sym, ap, ap₂, ◌∙◌, subst, arith}
use Rattle.mesh_defs.specs.Mesh.{Mesh}
use Rattle.mesh_defs.specs.RightMesh.{UsesVertices}
use Rattle.input_defs.specs.Content.{Node, Content}
use Rattle.input_defs.specs.RightContent.{IsRight}
use Rattle.input_defs.specs.Meshes.{vertex_nodes, section_on, mesh_of}
use Rattle.input_laws.proofs.RightAccepted.{right-accepted}
use Rattle.mesh_check.specs.Partly.{partly}
use Rattle.mesh_check.proofs.Whole.{high, kept-most, vertices-most, whole}
use Rattle.mesh_check.proofs.top.mesh_of.Goals as goal

pub new-builder-requires : goal.new-builder-requires
new-builder-requires c = subst (λ d. 2 ≤ d) (sym c.greatest_dim-2.ensures) (high c.args.places.now (subst IsRight c.text-text.ensures c.nodes-nodes.ensures.right) c.requires)

pub add_cells-requires-clause-start : goal.add_cells-requires-clause-start
add_cells-requires-clause-start c =
    let at = ap (λ (vs : List Node). map (λ (node : Node). node.at) vs) (c.in_ok-vertices.ensures ∙ ap vertex_nodes c.text-text.ensures) in
    c.in_ok-add_vertices.ensures ∙ ap (λ (m : Mesh). record m { at = map (λ (node : Node). node.at) c.in_ok-vertices.vertices }) c.new-builder.ensures
    ∙ ap₂ (λ d xs. record (partly c.args.places.now xs [] [] [] []) { dim = d }) c.greatest_dim-2.ensures at

pub overflow_sub-merged : goal.overflow_sub-merged
overflow_sub-merged c =
    let most = kept-most c.args.places.now in
    let elements = c.elements.ensures ∙ ap (λ (m : Content). length m.elements) c.text-text.ensures in
    omega (arith, c.kept.ensures)

pub overflow_sub-nodes : goal.overflow_sub-nodes
overflow_sub-nodes c =
    let most = vertices-most c.args.places.now in
    let nodes = c.nodes-nodes.ensures.nodes ∙ ap (λ (m : Content). length m.nodes) c.text-text.ensures in
    let vertices = c.len.ensures ∙ ap (λ (vs : List Node). length vs) (c.in_ok-vertices.ensures ∙ ap vertex_nodes c.text-text.ensures) in
    omega arith

pub finish-requires-clause-some_cell : goal.finish-requires-clause-some_cell
finish-requires-clause-some_cell c =
    let p = c.args.places.now in
    let right = subst IsRight c.text-text.ensures c.nodes-nodes.ensures.right in
    let nodes = c.nodes-nodes.ensures.nodes ∙ ap (λ (m : Content). length m.nodes) c.text-text.ensures in
    let vertices = c.len.ensures ∙ ap (λ (vs : List Node). length vs) (c.in_ok-vertices.ensures ∙ ap vertex_nodes c.text-text.ensures) in
    let elements = c.elements.ensures ∙ ap (λ (m : Content). length m.elements) c.text-text.ensures in
    let parts = c.in_ok-add_fields.ensures ∙ ap (λ (m : Mesh). record m { fields = map (section_on p) p.fields }) (c.in_ok-add_names.ensures ∙ ap (λ (m : Mesh). record m { names = c.text-text.result.now.names }) c.in_ok-add_marks.ensures) in
    let all : c.counts.new.self ≡ mesh_of p =
    c.counts.ensures ∙ ap (λ (m : Mesh). record m { unused = c.nodes-nodes.result - c.len.result; loose = c.count_loose.result; merged = c.elements.result - c.kept.result }) parts
    ∙ whole p c.text-text.result.now.names _ _ _ (ap (λ (m : Content). m.names) c.text-text.ensures) (ap₂ (λ a b. a - b) nodes vertices) c.count_loose.ensures (ap₂ (λ a b. a - b) elements c.kept.ensures) in
    subst (λ (m : Mesh). 1 ≤ length m.cells) (sym all) (right-accepted p (mesh_of p) right c.requires).some_cell

pub finish-requires-clause-used : goal.finish-requires-clause-used
finish-requires-clause-used c =
    let p = c.args.places.now in
    let right = subst IsRight c.text-text.ensures c.nodes-nodes.ensures.right in
    let nodes = c.nodes-nodes.ensures.nodes ∙ ap (λ (m : Content). length m.nodes) c.text-text.ensures in
    let vertices = c.len.ensures ∙ ap (λ (vs : List Node). length vs) (c.in_ok-vertices.ensures ∙ ap vertex_nodes c.text-text.ensures) in
    let elements = c.elements.ensures ∙ ap (λ (m : Content). length m.elements) c.text-text.ensures in
    let parts = c.in_ok-add_fields.ensures ∙ ap (λ (m : Mesh). record m { fields = map (section_on p) p.fields }) (c.in_ok-add_names.ensures ∙ ap (λ (m : Mesh). record m { names = c.text-text.result.now.names }) c.in_ok-add_marks.ensures) in
    let all : c.counts.new.self ≡ mesh_of p =
    c.counts.ensures ∙ ap (λ (m : Mesh). record m { unused = c.nodes-nodes.result - c.len.result; loose = c.count_loose.result; merged = c.elements.result - c.kept.result }) parts
    ∙ whole p c.text-text.result.now.names _ _ _ (ap (λ (m : Content). m.names) c.text-text.ensures) (ap₂ (λ a b. a - b) nodes vertices) c.count_loose.ensures (ap₂ (λ a b. a - b) elements c.kept.ensures) in
    subst UsesVertices (sym all) (right-accepted p (mesh_of p) right c.requires).sound.used

pub returns : goal.returns
returns c =
    let p = c.args.places.now in
    let right = subst IsRight c.text-text.ensures c.nodes-nodes.ensures.right in
    let nodes = c.nodes-nodes.ensures.nodes ∙ ap (λ (m : Content). length m.nodes) c.text-text.ensures in
    let vertices = c.len.ensures ∙ ap (λ (vs : List Node). length vs) (c.in_ok-vertices.ensures ∙ ap vertex_nodes c.text-text.ensures) in
    let elements = c.elements.ensures ∙ ap (λ (m : Content). length m.elements) c.text-text.ensures in
    let parts = c.in_ok-add_fields.ensures ∙ ap (λ (m : Mesh). record m { fields = map (section_on p) p.fields }) (c.in_ok-add_names.ensures ∙ ap (λ (m : Mesh). record m { names = c.text-text.result.now.names }) c.in_ok-add_marks.ensures) in
    let all : c.counts.new.self ≡ mesh_of p =
    c.counts.ensures ∙ ap (λ (m : Mesh). record m { unused = c.nodes-nodes.result - c.len.result; loose = c.count_loose.result; merged = c.elements.result - c.kept.result }) parts
    ∙ whole p c.text-text.result.now.names _ _ _ (ap (λ (m : Content). m.names) c.text-text.ensures) (ap₂ (λ a b. a - b) nodes vertices) c.count_loose.ensures (ap₂ (λ a b. a - b) elements c.kept.ensures) in
    c.finish.ensures.same ∙ all
