use Rattle.std.proofs.Common.{◌≡◌, length, get_or, drop}
use Rattle.sf_fabric.specs.replays.Walks.{goes_on, is_right_order}
use Rattle.sf_fabric.proofs.replays.walk.is_right_order.Given as goal

abbrev pub invariant-loop-turn : goal.invariant-loop-turn
invariant-loop-turn l = record {
  ranks : length l.walk.next ≡ 64;
  rest : goes_on l.round.asks l.round.got l.word (get_or l.round.after l.word 0) l.walk (drop l.turn-index l.order) ≡ is_right_order l.round l.word;
}
