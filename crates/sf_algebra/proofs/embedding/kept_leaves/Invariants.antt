use Rattle.std.proofs.Common.{◌≡◌, take}
use Rattle.sf_defs.specs.Forest.{leaves_on, selected}
use Rattle.sf_algebra.proofs.embedding.kept_leaves.Given as goal

abbrev pub invariant-loop-i : goal.invariant-loop-i
invariant-loop-i l = l.own.items ≡ selected l.keep (take l.i (leaves_on l.a l.rank))
