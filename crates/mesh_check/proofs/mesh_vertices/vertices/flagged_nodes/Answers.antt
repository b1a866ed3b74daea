use Rattle.std.proofs.Common.{◌≡◌, ◌<◌, ◌++◌, ◌∷◌, [], Bool, true, false, length, map, get_or, sym, ap, ◌∙◌, arith, length-append}
use Rattle.std.proofs.lemmas.List.{get_or-map, map-append}
use Rattle.std.proofs.lemmas.Option.{get_or_from_slice_get}
use Rattle.input_defs.specs.Content.{Node}
use Rattle.mesh_check.specs.mesh_vertices.Vertices.{vertex_view, vertex_views}
use Rattle.mesh_check.proofs.mesh_vertices.Listing.{filter-next, filter-skips}
use Rattle.mesh_check.proofs.mesh_vertices.vertices.flagged_nodes.Goals as goal
use Rattle.mesh_check.proofs.mesh_vertices.vertices.flagged_nodes.Goals.{then-flags-i+in_ok-push, else-flags-i}

pub loop-i-preserved : goal.loop-i-preserved
loop-i-preserved c =
    let low : c.loop-i.i < length c.args.text.now.nodes = omega (arith, c.nodes-i-end.ensures.nodes) in
    let nowhere : Node = record { number = 0; at = [] } in
    let flag = λ (test : Node → Bool) (is : c.args.flags.now ≡ map test c.args.text.now.nodes). ap (λ flags. get_or flags c.loop-i.i false) is ∙ get_or-map test c.args.text.now.nodes c.loop-i.i nowhere false low in
    elim c.if-flags-i.branch [
      | then-flags-i+in_ok-push w ↦
          let node : Node = record { number = w.node-number.result.0; at = w.node-number.result.1 } in
          record {
            flagged = λ test is.
                let passes : test node ≡ true = ap test (sym (get_or_from_slice_get c.args.text.now.nodes c.loop-i.i node nowhere w.node-number.ensures)) ∙ sym (flag test is) ∙ w.if-flags-i.true in
                ap (λ v. vertex_views v.items) w.vertices-is ∙ ap vertex_views w.in_ok-push.ensures.items ∙ map-append vertex_view c.loop-i.vertices.items _ ∙ ap (λ l. l ++ node ∷ []) (c.loop-i.invariant.flagged test is) ∙ filter-next test c.args.text.now.nodes c.loop-i.i node low w.node-number.ensures passes;
            count = let more = ap length (ap (λ v. v.items) w.vertices-is ∙ w.in_ok-push.ensures.items) ∙ length-append c.loop-i.vertices.items _ in omega (arith, more, c.loop-i.invariant.count);
          }
      | else-flags-i w ↦ record {
        flagged = λ test is. ap (λ v. vertex_views v.items) w.vertices-is ∙ c.loop-i.invariant.flagged test is ∙ filter-skips test c.args.text.now.nodes c.loop-i.i nowhere low (sym (flag test is) ∙ w.if-flags-i.false);
        count = let same = ap (λ v. length v.items) w.vertices-is in omega (arith, same, c.loop-i.invariant.count);
      }
    ]
