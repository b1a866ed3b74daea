use Rattle.std.proofs.Common.{◌≡◌, take, filter_map}
use Rattle.sf_defs.specs.Forest.{leaves_on, through}
use Rattle.sf_algebra.proofs.composing.leaves_through.Given as goal

abbrev pub invariant-loop-i : goal.invariant-loop-i
invariant-loop-i l = l.own.items ≡ filter_map (through l.a) (take l.i (leaves_on l.b l.rank))
