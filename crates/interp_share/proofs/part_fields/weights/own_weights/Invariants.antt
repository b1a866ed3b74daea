use Rattle.std.proofs.Common.{◌≡◌, map}
use Rattle.plain_lists.specs.Lists.{below}
use Rattle.plain_lists.specs.Vectors.{lists_of}
use Rattle.dist_state.specs.scatter_state.Whole.{part_at}
use Rattle.interp_share.specs.own_field_laws.Own.{part_weights}
use Rattle.interp_share.proofs.part_fields.weights.own_weights.Given as goal

-- the ranks up to here
abbrev pub invariant-loop-rank : goal.invariant-loop-rank
invariant-loop-rank g l = lists_of l.own.items ≡ map (λ r. part_weights (part_at l.scatter.parts r)) (below l.rank)
