use Rattle.std.proofs.Common.{List, ℕ, map, take}
use Rattle.plain_lists.specs.Lists.{picked}
use Rattle.mesh_defs.specs.Tables.{edges_of}
use Rattle.mesh_check.specs.element_points.Parts.{part}
use Rattle.mesh_check.specs.element_points.Flags.{AreSet}
use Rattle.mesh_check.proofs.element_points.parts.set_edges.Given as goal

abbrev pub invariant-loop-e : goal.invariant-loop-e
invariant-loop-e l = AreSet l.places.elements (map (λ (x : List ℕ). part 1 (picked l.nodes x)) (take l.e (edges_of l.poly))) l.fn.found l.found
