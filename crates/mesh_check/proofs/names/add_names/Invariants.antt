use Rattle.std.proofs.Common.{◌≡◌, take}
use Rattle.mesh_check.proofs.names.add_names.Given as goal

abbrev pub invariant-loop-i : goal.invariant-loop-i
invariant-loop-i l = l.builder ≡ record l.fn.builder { names = take l.i l.fn.text.names }
