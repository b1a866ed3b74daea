use Rattle.std.proofs.Common.{◌≡◌, length, map, take}
use Rattle.plain_lists.specs.Vectors.{lists_of}
use Rattle.sf_tests.proofs.algebra_tests.words.root_flags.Given as goal

abbrev pub invariant-loop-rank : goal.invariant-loop-rank
invariant-loop-rank l = map length (lists_of l.keep.items) ≡ take l.rank l.forest.roots
