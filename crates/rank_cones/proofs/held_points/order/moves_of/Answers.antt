use Rattle.std.proofs.Common.{◌≡◌, ℕ, ◌<◌, length, get_or, set, sym, ap, ◌∙◌, ⊎_elim, arith}
use Rattle.std.proofs.lemmas.Bool.{cases_lt}
use Rattle.std.proofs.lemmas.List.{length-set, get_or-set_same, get_or-set_other}
use Rattle.plain_lists.proofs.Each.{all_at}
use Rattle.rank_cones.proofs.held_points.Orders.{order-long, order-low, order-apart}
use Rattle.rank_cones.proofs.held_points.order.moves_of.Goals as goal

pub overflow_cast-k : goal.overflow_cast-k
overflow_cast-k c = omega (arith, order-long c.args.keys.now c.args.order.now c.requires.order, c.requires.few, c.loop-k-test.true)

pub index_mut-requires : goal.index_mut-requires
index_mut-requires c =
    omega (arith, all_at (λ k. k < length c.args.keys.now) c.args.order.now c.loop-k.k 0 (order-low c.args.keys.now c.args.order.now c.requires.order) c.loop-k-test.true, order-long c.args.keys.now c.args.order.now c.requires.order, c.loop-k.invariant.count)

pub loop-k-preserved : goal.loop-k-preserved
loop-k-preserved c =
    let order = c.args.order.now in
    let moves = c.loop-k.moves.items in
    let k = c.loop-k.k in
    let within : get_or order k 0 < length moves =
    omega (arith, all_at (λ k. k < length c.args.keys.now) order k 0 (order-low c.args.keys.now order c.requires.order) c.loop-k-test.true, order-long c.args.keys.now order c.requires.order, c.loop-k.invariant.count) in
    let earlier : (j : ℕ) → j < k → get_or (set moves (get_or order k 0) k) (get_or order j 0) 0 ≡ j =
    λ j low. get_or-set_other moves (get_or order k 0) (get_or order j 0) k 0 (order-apart c.args.keys.now order c.requires.order j k (omega (arith, low, c.loop-k-test.true)) c.loop-k-test.true (λ same. absurd (omega (arith, same, low)))) ∙ c.loop-k.invariant.places j low in
    let here : get_or (set moves (get_or order k 0) k) (get_or order k 0) 0 ≡ k = get_or-set_same moves (get_or order k 0) k 0 within in
    record {
      count = length-set moves (get_or order k 0) k ∙ c.loop-k.invariant.count;
      places = λ j low. ⊎_elim (earlier j) (λ high. let same : j ≡ k = omega (arith, low, high) in ap (λ i. get_or (set moves (get_or order k 0) k) (get_or order i 0) 0) same ∙ here ∙ sym same) (cases_lt j k);
    }
