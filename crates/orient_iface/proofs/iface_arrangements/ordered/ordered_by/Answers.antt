use Rattle.std.proofs.Common.{◌≡◌, ℕ, ◌+◌, List, [], get_or, ap, ◌∙◌}
use Rattle.rank_chart_laws.specs.meeting_laws.Sets.{filled}
use Rattle.rank_chart_laws.proofs.meeting_laws.Loops.{pushed_below}
use Rattle.rank_chart_laws.specs.key_laws.Places.{first_face}
use Rattle.rank_chart_laws.specs.key_laws.Words.{part}
use Rattle.rank_cones.specs.arrangement_laws.Orders.{in_order}
use Rattle.orient_iface.proofs.iface_arrangements.ordered.ordered_by.Goals as goal

pub loop-k-preserved : goal.loop-k-preserved
loop-k-preserved c =
    let k : ℕ = c.loop-k.k in
    let sets : List (List ℕ) = (part c.args.shared.now c.args.rank).sets in
    let orders : List ℕ = c.args.orders.now in
    let set : c.filled.result ≡ filled (get_or sets (c.first_face-first.result + k) []) = c.filled.ensures ∙ ap filled c.set.ensures in
    pushed_below (λ i. in_order (filled (get_or sets (first_face (part c.args.shared.now c.args.rank) + i) [])) (get_or orders (first_face (part c.args.shared.now c.args.rank) + i) 0))
    k c.loop-k.own.items c.push.new.self.items c.in_order.result c.loop-k.invariant
    (c.in_order.ensures ∙ ((λ i. in_order (set i) (get_or orders (c.first_face-first.result + k) 0))
    ∙ (λ i. in_order (filled (get_or sets (c.first_face-first.ensures i + k) [])) (get_or orders (c.first_face-first.ensures i + k) 0))))
    c.in_ok-push.ensures.items
