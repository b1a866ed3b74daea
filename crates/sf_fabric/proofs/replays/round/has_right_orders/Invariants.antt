use Rattle.std.proofs.Common.{◌≡◌, ℕ, ◌+◌, ◌^◌, ◌<◌, true, length, get_or, []}
use Rattle.sf_fabric.specs.replays.Walks.{is_right_order}
use Rattle.sf_fabric.specs.replays.Right.{total, ask_count}
use Rattle.sf_fabric.proofs.replays.round.has_right_orders.Given as goal

abbrev pub invariant-loop-word : goal.invariant-loop-word
invariant-loop-word l = record {
  right : (w : ℕ) → w < l.word → is_right_order l.round w ≡ true;
  small : (w : ℕ) → w < l.word → get_or l.round.before w 0 < 2 ^ 64;
  left : l.left + total (λ w. length (get_or l.round.order w [])) l.word ≡ ask_count l.round;
}
