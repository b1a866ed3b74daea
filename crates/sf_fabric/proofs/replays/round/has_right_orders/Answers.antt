use Rattle.std.proofs.Common.{◌≡◌, ℕ, ◌+◌, ◌<◌, ◌≤◌, true, false, suc, [], length, get_or, sym, ap, ◌∙◌, arith, add-one, eqb-true, eq-eqb}
use Rattle.sf_defs.specs.declared.Turn.{Turn}
use Rattle.std.proofs.lemmas.Bool.{false≢true}
use Rattle.sf_fabric.specs.replays.Right.{total, ask_count, HasRightOrders}
use Rattle.sf_fabric.proofs.replays.Totals.{total-front}
use Rattle.sf_fabric.proofs.replays.round.has_right_orders.Goals as goal
use Rattle.sf_fabric.proofs.replays.round.has_right_orders.Goals.{then-turns-left-via-then-turns-left, then-turns-left-via-else-turns-left+then-not-is_right_order}

pub returns-then-turns-left : goal.returns-then-turns-left
returns-then-turns-left c = let size = ap (length {A = ℕ}) c.before-2.ensures in (
  λ h. absurd (false≢true h),
  λ right. elim c.then-turns-left.branch [
    | then-turns-left-via-then-turns-left w ↦
        let front : total (λ k. length (get_or c.args.round.now.order k [])) (suc c.loop-word.word) ≤ total (λ k. length (get_or c.args.round.now.order k [])) (length c.args.round.now.before) = total-front (λ k. length (get_or c.args.round.now.order k [])) (suc c.loop-word.word) (length c.args.round.now.before) (omega arith) in
        let turns = right.turns in let here = ap (length {A = Turn}) c.order-turns.ensures in
        let left : c.loop-word.left + total (λ k. length (get_or c.args.round.now.order k [])) c.loop-word.word ≡ ask_count c.args.round.now = c.loop-word.invariant.left in absurd (omega arith)
    | then-turns-left-via-else-turns-left+then-not-is_right_order w ↦ absurd (false≢true (sym w.if-not-is_right_order.true ∙ (w.is_right_order.ensures.right ∙ right.each c.loop-word.word (omega arith))))
  ],
)

pub returns : goal.returns
returns c =
    let size = ap (length {A = ℕ}) c.before-2.ensures in
    let end : c.loop-word.word ≡ length c.args.round.now.before = omega arith in
    let all = ap (total (λ k. length (get_or c.args.round.now.order k []))) end in
    let left = c.loop-word.invariant.left in (
      λ h. let none = eqb-true c.loop-word.left 0 h in record {
        each = λ w lt. c.loop-word.invariant.right w (omega arith);
        small = λ w lt. c.loop-word.invariant.small w (omega arith);
        turns = omega arith;
      },
      λ right. let turns = right.turns in eq-eqb c.loop-word.left 0 (omega arith),
    )
