use Rattle.std.proofs.Common.{◌≡◌, take}
use Rattle.std.specs.List.{filter}
use Rattle.mesh_defs.specs.Points.{marked_point}
use Rattle.mesh_defs.specs.RightMesh.{in_some}
use Rattle.dist_seed.proofs.rank_marks.marks.keep_marks.Given as goal

abbrev pub invariant-loop-i : goal.invariant-loop-i
invariant-loop-i l = l.kept ≡ filter (λ k. in_some (marked_point k) l.own.cells) (take l.i l.mesh.marks)
