use Rattle.std.proofs.Common.{◌≡◌, take}
use Rattle.plain_lists.specs.Vectors.{lists_of}
use Rattle.sf_defs.specs.Forest.{invert}
use Rattle.sf_algebra.proofs.inverting.converse.Given as goal

abbrev pub invariant-loop-own : goal.invariant-loop-own
invariant-loop-own l = lists_of l.leaves.items ≡ take l.own-index (invert l.a l.roots).leaves
