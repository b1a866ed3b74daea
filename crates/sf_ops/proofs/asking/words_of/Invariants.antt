use Rattle.std.proofs.Common.{◌≡◌, ◌++◌, drop}
use Rattle.plain_lists.specs.Vectors.{lists_of}
use Rattle.sf_ops.specs.Asked.{words_of}
use Rattle.sf_ops.proofs.asking.words_of.Given as goal

abbrev pub invariant-loop-own : goal.invariant-loop-own
invariant-loop-own l = l.words.items ++ words_of (lists_of (drop l.own-index l.roots)) ≡ words_of (lists_of l.roots)
