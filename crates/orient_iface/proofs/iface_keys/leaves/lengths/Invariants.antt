use Rattle.std.proofs.Common.{◌≡◌, length, map, take}
use Rattle.plain_lists.specs.Vectors.{lists_of}
use Rattle.orient_iface.proofs.iface_keys.leaves.lengths.Given as goal

abbrev pub invariant-loop-list : goal.invariant-loop-list
invariant-loop-list l = l.lengths.items ≡ map length (take l.list-index (lists_of l.lists))
