use Rattle.interp_share.specs.part_weights.Places.{AreWeights}
use Rattle.interp_share.proofs.part_weights.weights.sum_weights.Given as goal

-- the cells up to here
abbrev pub invariant-loop-i : goal.invariant-loop-i
invariant-loop-i l = AreWeights l.part l.i l.weights.items
