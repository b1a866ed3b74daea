use Rattle.std.proofs.Common.{◌≡◌, map, take}
use Rattle.plain_lists.specs.Vectors.{lists_of}
use Rattle.orient_iface.specs.iface_twist.Least.{own_asks}
use Rattle.orient_iface.proofs.iface_twist.twist.all_asks.Given as goal

abbrev pub invariant-loop-key : goal.invariant-loop-key
invariant-loop-key l = lists_of l.asks.items ≡ map own_asks (take l.key-index l.own)
