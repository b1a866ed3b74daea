use Rattle.std.proofs.Common.{◌≡◌, ℕ, ◌++◌, map, take}
use Rattle.plain_lists.specs.Lists.{sorted}
use Rattle.mesh_defs.specs.Mesh.{Cell}
use Rattle.interp_share.proofs.rank_points.all_sets.push_cells.Given as goal

abbrev pub invariant-loop-i : goal.invariant-loop-i
invariant-loop-i l = l.sets ≡ l.fn.sets ++ map (λ (c : ℕ × Cell). sorted c.1.vertices) (take l.i l.part.cells)
