use Rattle.std.proofs.Common.{◌≡◌, take}
use Rattle.dist_number.specs.dist_trace.Own.{own_leaves}
use Rattle.dist_number.proofs.dist_trace.tracing.own_leaves.Given as goal

-- the leaves on the points up to here
abbrev pub invariant-loop-p : goal.invariant-loop-p
invariant-loop-p l = l.leaves.items ≡ own_leaves l.rank (take l.p l.local.owners)
