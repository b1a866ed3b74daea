use Rattle.std.proofs.Common.{◌≡◌, length}
use Rattle.plain_lists.specs.Vectors.{lists_of}
use Rattle.interp_share.proofs.part_fields.weights.no_weights.Given as goal

-- as many lists as ranks up to here
abbrev pub invariant-loop-rank : goal.invariant-loop-rank
invariant-loop-rank l = length (lists_of l.weights.items) ≡ l._rank
