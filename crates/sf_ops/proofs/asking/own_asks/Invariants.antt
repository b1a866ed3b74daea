use Rattle.std.proofs.Common.{◌≡◌, take}
use Rattle.sf_defs.specs.Forest.{leaves_on}
use Rattle.sf_ops.specs.Asked.{own_asks}
use Rattle.sf_ops.proofs.asking.own_asks.Given as goal

abbrev pub invariant-loop-i : goal.invariant-loop-i
invariant-loop-i l = l.asks.items ≡ own_asks l.forest.roots l.op l.values (take l.i (leaves_on l.forest l.rank))
