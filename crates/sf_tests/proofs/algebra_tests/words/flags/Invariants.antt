use Rattle.std.proofs.Common.{◌≡◌, length}
use Rattle.sf_tests.proofs.algebra_tests.words.flags.Given as goal

abbrev pub invariant-loop-i : goal.invariant-loop-i
invariant-loop-i l = length l.own.items ≡ l.i
