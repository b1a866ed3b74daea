use Rattle.std.proofs.Common.{◌≡◌, true, take}
use Rattle.shared_forest.specs.Flags.{all_up}
use Rattle.shared_forest.proofs.candidates.all_up.Given as goal

abbrev pub invariant-loop-vertex : goal.invariant-loop-vertex
invariant-loop-vertex l = all_up l.flags (take l.vertex-index l.set) ≡ true
