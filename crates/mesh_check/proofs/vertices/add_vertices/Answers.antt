use Rattle.std.proofs.Common.{◌≡◌, ◌<◌, ◌≤◌, ℤ, List, [], ◌∷◌, ◌++◌, map, length, sym, ap, ◌∙◌, arith}
use Rattle.std.proofs.lemmas.List.{length-map, length-take-le}
use Rattle.mesh_defs.specs.Mesh.{Mesh}
use Rattle.input_defs.specs.Content.{Node}
use Rattle.mesh_check.proofs.Assembled.{take-get, take-all}
use Rattle.mesh_check.proofs.vertices.add_vertices.Goals as goal

pub loop-v-init : goal.loop-v-init
loop-v-init c = ap (λ (xs : List (List ℤ)). record c.args.builder.now { at = xs }) c.requires

pub add_vertex-requires : goal.add_vertex-requires
add_vertex-requires c =
    let all = map (λ (node : Node). node.at) c.args.vertices.now in
    let count = length-map c.args.vertices.now (λ (node : Node). node.at) in
    let low : c.loop-v.v ≤ length all = omega arith in
    let some : length c.loop-v.builder.at ≡ c.loop-v.v = ap (λ (m : Mesh). length m.at) c.loop-v.invariant ∙ length-take-le c.loop-v.v all low in
    omega arith

pub loop-v-preserved : goal.loop-v-preserved
loop-v-preserved c =
    let all = map (λ (node : Node). node.at) c.args.vertices.now in
    let count = length-map c.args.vertices.now (λ (node : Node). node.at) in
    let low : c.loop-v.v < length all = omega arith in
    c.in_ok-add_vertex.ensures.ok ∙ ap (λ (m : Mesh). record m { at = m.at ++ c.at.result ∷ [] }) c.loop-v.invariant
    ∙ ap (λ (xs : List (List ℤ)). record c.args.builder.now { at = xs }) (sym (take-get all c.loop-v.v c.at.result low c.at.ensures))

pub returns : goal.returns
returns c =
    let all = map (λ (node : Node). node.at) c.args.vertices.now in
    let count = length-map c.args.vertices.now (λ (node : Node). node.at) in
    c.loop-v.invariant ∙ ap (λ (xs : List (List ℤ)). record c.args.builder.now { at = xs }) (take-all all c.loop-v.v (omega arith) (omega arith))
