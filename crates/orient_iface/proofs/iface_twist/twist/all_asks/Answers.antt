use Rattle.std.proofs.Common.{◌∷◌, ◌++◌, [], ap, None, sym, ◌∙◌, arith}
use Rattle.plain_lists.specs.Vectors.{lists_of}
use Rattle.sf_ops.proofs.Words.{lists_of-push}
use Rattle.std.proofs.lemmas.List.{map_more}
use Rattle.orient_iface.specs.iface_twist.Least.{own_asks}
use Rattle.orient_iface.proofs.iface_twist.twist.all_asks.Goals as goal

pub loop-key-preserved : goal.loop-key-preserved
loop-key-preserved c =
    ap (λ vs. lists_of vs) c.in_ok-push.ensures.items ∙ (lists_of-push c.loop-key.asks.items c.in_ok-own_asks.field-0
    ∙ ((λ i. c.loop-key.invariant i ++ c.in_ok-own_asks.ensures i ∷ [])
    ∙ sym (map_more own_asks c.args.own.now c.loop-key.key-index None (omega (arith, c.loop-key-test.true)))))
