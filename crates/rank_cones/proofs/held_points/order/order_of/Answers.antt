use Rattle.std.proofs.Common.{◌≡◌, ℕ, List, IsPermutation, map, ap, sym, ◌∙◌, subst}
use Rattle.std.proofs.lemmas.Result.{IfOk-weaker}
use Rattle.rank_cones.specs.held_points.Order.{IsOrder, placed}
use Rattle.rank_cones.proofs.held_points.Orders.{sorted-order}
use Rattle.rank_cones.proofs.held_points.order.order_of.Goals as goal

pub returns : goal.returns
returns c =
    let pairs : List (ℕ × ℕ) = c.sort_unstable.new.self.items in
    let moved : IsPermutation (placed c.args.keys.now) pairs = subst (λ l. IsPermutation l pairs) c.in_ok-pairs.ensures c.sort_unstable.ensures.permutation in
    let sorted : IsOrder c.args.keys.now (map (λ (p : ℕ × ℕ). p.1) pairs) = sorted-order c.args.keys.now pairs moved c.sort_unstable.ensures.sorted in
    IfOk-weaker c.places_of.result (λ places. places.items ≡ map (λ (p : ℕ × ℕ). p.1) c.deref.result.now) (λ order. IsOrder c.args.keys.now order.items)
    (λ places same. subst (IsOrder c.args.keys.now) (sym (same ∙ ap (map (λ (p : ℕ × ℕ). p.1)) c.deref.ensures.value)) sorted) c.places_of.ensures
