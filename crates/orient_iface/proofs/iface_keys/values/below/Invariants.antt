use Rattle.std.proofs.Common.{◌≡◌}
use Rattle.plain_lists.specs.Lists.{below}
use Rattle.orient_iface.proofs.iface_keys.values.below.Given as goal

abbrev pub invariant-loop-k : goal.invariant-loop-k
invariant-loop-k l = l.numbers.items ≡ below l.k
