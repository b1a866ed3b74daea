use Rattle.plain_lists.specs.Vectors.{lists_of}
use Rattle.sf_ops.proofs.Broadcasts.{IsHandedOut}
use Rattle.sf_ops.proofs.broadcast.bcast.Given as goal

abbrev pub invariant-loop-rank : goal.invariant-loop-rank
invariant-loop-rank g l = IsHandedOut l.forest (lists_of l.roots) l.initial.leaves l.leaves l.rank
