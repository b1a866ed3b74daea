use Rattle.std.proofs.Common.{◌≡◌, ℕ, ◌+◌, ◌<◌, true, List, length, get_or, drop, arith, refl, sym, ap, subst, ◌∙◌}
use Rattle.sf_defs.specs.declared.Turn.{Turn}
use Rattle.sf_defs.specs.Asks.{Entry}
use Rattle.sf_defs.specs.Rounds.{entry_at}
use Rattle.sf_fabric.specs.declared.replays.walk.Walk.{Walk}
use Rattle.sf_fabric.specs.replays.Walks.{takes, taken, goes_on}
use Rattle.sf_fabric.proofs.replays.Steps.{length-taken, step-goes_on}
use Rattle.sf_fabric.proofs.replays.walk.is_right_order.Goals as goal

pub loop-turn-preserved : goal.loop-turn-preserved
loop-turn-preserved c =
    let turn : Turn = get_or c.order-order.result.now c.loop-turn.turn-index record { rank = 0; index = 0 } in
    let named = c.in-Some.ensures.0 in
    let is : c.in-Some.entry ≡ entry_at c.args.round.now.asks c.args.round.now.got turn = c.in-Some.ensures.1 in
    let comes : takes c.loop-turn.walk (entry_at c.args.round.now.asks c.args.round.now.got turn) ≡ true = ap (takes c.loop-turn.walk) (sym is) ∙ (sym c.takes.ensures ∙ c.if-takes.true) in
    let next : c.take.new.self ≡ taken c.loop-turn.walk (entry_at c.args.round.now.asks c.args.round.now.got turn) = c.take.ensures ∙ ap (taken c.loop-turn.walk) is in
    record {
      ranks = ap (λ (s : Walk). length s.next) c.take.ensures ∙ length-taken c.loop-turn.walk c.in-Some.entry ∙ c.loop-turn.invariant.ranks;
      rest = ap (λ (s : Walk). goes_on c.args.round.now.asks c.args.round.now.got c.args.word (get_or c.args.round.now.after c.args.word 0) s (drop (c.loop-turn.turn-index + 1) c.order-order.result.now)) next
          ∙ step-goes_on c.args.round.now.asks c.args.round.now.got c.args.word (get_or c.args.round.now.after c.args.word 0) c.loop-turn.walk c.order-order.result.now c.loop-turn.turn-index (record { rank = 0; index = 0 }) (omega arith) named comes
          ∙ c.loop-turn.invariant.rest;
    }
