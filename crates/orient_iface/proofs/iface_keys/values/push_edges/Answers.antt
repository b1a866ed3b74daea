use Rattle.std.proofs.Common.{◌++◌, ◌∷◌, [], ap, sym, ◌∙◌, map, take, append_assoc}
use Rattle.mesh_defs.specs.Points.{Sight}
use Rattle.sf_ops.proofs.Words.{map-take-more}
use Rattle.sf_ops.proofs.Conditions.{at_place}
use Rattle.orient_iface.proofs.iface_keys.values.push_edges.Goals as goal

pub loop-k-preserved : goal.loop-k-preserved
loop-k-preserved c =
    let there = at_place c.args.local.now.edges c.loop-k.k _ c.edge.ensures in
    c.in_ok-push.ensures.items
    ∙ (ap (λ l. l ++ c.edge.result.0.0 ∷ []) c.loop-k.invariant
    ∙ (append_assoc c.args.keys.now.items (map (λ (s : Sight). s.key) (take c.loop-k.k c.args.local.now.edges)) (c.edge.result.0.0 ∷ [])
    ∙ ap (λ l. c.args.keys.now.items ++ l) (sym (map-take-more (λ (s : Sight). s.key) c.args.local.now.edges c.loop-k.k _ there.0 there.1))))
