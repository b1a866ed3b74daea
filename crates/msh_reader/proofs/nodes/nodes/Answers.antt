use Rattle.std.proofs.Common.{◌≡◌, ◌+◌, ◌-◌, ◌∷◌, ◌++◌, [], List, suc, ap, sym, refl, ◌∙◌, map, arith}
use Rattle.std.proofs.lemmas.Result.{err_from_is_err_and}
use Rattle.std.proofs.lemmas.List.{map-append}
use Rattle.input_defs.specs.Content.{Node}
use Rattle.input_defs.specs.Sections.{has_number, node, nodes}
use Rattle.msh_reader.specs.NumberSets.{numbers_of}
use Rattle.msh_reader.specs.declared.text.FileNode.{FileNode}
use Rattle.msh_reader.specs.Views.{node_numbers}
use Rattle.msh_reader.proofs.Earlier.{node-same, nodes-onto}
use Rattle.msh_reader.proofs.NumberSets.{has-more}
use Rattle.msh_reader.proofs.Going.{goes-then, goes-fault, goes-same, onto-step, onto-fault, onto-done}
use Rattle.msh_reader.proofs.nodes.nodes.Goals as goal

numbers-more : (nodes : List FileNode) (x : FileNode) → node_numbers (nodes ++ x ∷ []) ≡ node_numbers nodes ++ x.number ∷ []
numbers-more [] x = refl
numbers-more (y ∷ nodes) x = ap (λ ys. y.number ∷ ys) (numbers-more nodes x)

pub returns-in_err-count : goal.returns-in_err-count
unfolding nodes
returns-in_err-count c =
    let p = err_from_is_err_and c.from_residual.result c.from_residual.ensures.1 in
    rw (p.1, p.2) (goes-fault _ c.in_err-count.ensures)

pub returns-in_err-node : goal.returns-in_err-node
unfolding nodes
returns-in_err-node c =
    let p = err_from_is_err_and c.from_residual-in_err-node.result c.from_residual-in_err-node.ensures.1 in
    let one : c.in_ok-count.count - c.loop.counter ≡ suc (c.in_ok-count.count - (c.loop.counter + 1)) = omega arith in
    rw (p.1, p.2) (goes-then _ c.in_ok-count.ensures (goes-same (nodes-onto _) (onto-fault (λ b. node (map (λ (x : Node). x.number) b)) _ _ _ one c.loop.invariant.left
    (goes-same (sym (node-same (numbers_of c.loop.numbers) (node_numbers c.loop.nodes.items) c.loop.invariant.knows)) c.in_err-node.ensures))))

pub loop-preserved : goal.loop-preserved
loop-preserved c =
    let one : c.in_ok-count.count - c.loop.counter ≡ suc (c.in_ok-count.count - (c.loop.counter + 1)) = omega arith in
    rw c.in_ok-push.ensures.items (record {
      left = rw map-append (onto-step (λ b. node (map (λ (x : Node). x.number) b)) _ _ _ one c.loop.invariant.left
          (goes-same (sym (node-same (numbers_of c.loop.numbers) (node_numbers c.loop.nodes.items) c.loop.invariant.knows)) c.in_ok-node.ensures));
      knows = λ n. c.in_ok-insert.ensures n ∙ has-more (numbers_of c.loop.numbers) (node_numbers c.loop.nodes.items) c.in_ok-node.node.number c.loop.invariant.knows n ∙ ap (λ ys. has_number ys n) (sym (numbers-more c.loop.nodes.items c.in_ok-node.node));
    })

pub returns : goal.returns
unfolding nodes
returns c =
    let none : c.in_ok-count.count - c.loop.counter ≡ 0 = omega arith in
    goes-then _ c.in_ok-count.ensures (goes-same (nodes-onto _) (onto-done (λ b. node (map (λ (x : Node). x.number) b)) _ _ none c.loop.invariant.left))
