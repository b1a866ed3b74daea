use Rattle.std.proofs.Common.{◌≡◌, take}
use Rattle.dist_number.proofs.dist_trace.tracing.roots_of.Given as goal

-- those of the ranks up to here
abbrev pub invariant-loop-rank : goal.invariant-loop-rank
invariant-loop-rank l = l.roots.items ≡ take l.rank l.forest.roots
