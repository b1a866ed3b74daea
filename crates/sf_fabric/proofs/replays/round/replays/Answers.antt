use Rattle.std.proofs.Common.{◌≡◌, true, false, sym, ◌∙◌}
use Rattle.std.proofs.lemmas.Bool.{false≢true}
use Rattle.sf_fabric.proofs.replays.Legal.{right-legal, legal-lengths, legal-asks, legal-orders}
use Rattle.sf_fabric.proofs.replays.round.replays.Goals as goal
use Rattle.sf_fabric.proofs.replays.round.replays.Goals.{then-has_right_lengths, else-has_right_lengths}

pub returns-then-has_right_asks : goal.returns-then-has_right_asks
returns-then-has_right_asks c = elim c.if-has_right_lengths.branch [
  | then-has_right_lengths w ↦ (
    λ h. right-legal c.args.round.now (c.has_right_lengths.ensures.0 w.if-has_right_lengths.true) (w.has_right_asks.ensures.0 (sym w.value-is ∙ c.if-has_right_asks.true)) (c.has_right_orders.ensures.0 h),
    λ legal. c.has_right_orders.ensures.1 (legal-orders c.args.round.now legal),
  )
  | else-has_right_lengths w ↦ absurd (false≢true (sym w.if-has_right_lengths.false ∙ (sym w.value-is ∙ c.if-has_right_asks.true)))
]

pub returns-else-has_right_asks : goal.returns-else-has_right_asks
returns-else-has_right_asks c = (
  λ h. absurd (false≢true (sym c.if-has_right_asks.false ∙ h)),
  λ legal. elim c.if-has_right_lengths.branch [
    | then-has_right_lengths w ↦ w.value-is ∙ w.has_right_asks.ensures.1 (legal-asks c.args.round.now legal)
    | else-has_right_lengths w ↦ absurd (false≢true (sym w.if-has_right_lengths.false ∙ c.has_right_lengths.ensures.1 (legal-lengths c.args.round.now legal)))
  ],
)
