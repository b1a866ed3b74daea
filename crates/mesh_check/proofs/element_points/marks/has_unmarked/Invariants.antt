use Rattle.std.proofs.Common.{◌≡◌, true, false, not, get_or, take}
use Rattle.std.specs.List.{list_any}
use Rattle.mesh_check.proofs.element_points.marks.has_unmarked.Given as goal

abbrev pub invariant-loop-node : goal.invariant-loop-node
invariant-loop-node l = list_any (λ n. not (get_or l.flags n true)) (take l.node-index l.nodes) ≡ false
