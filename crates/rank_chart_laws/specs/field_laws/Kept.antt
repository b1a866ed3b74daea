-- The marks that a rank keeps: those on points of its cells.
use Rattle.std.specs.Prelude.{ℕ, List, filter}
use Rattle.mesh_defs.specs.Mesh.{Mesh, Cell, Mark}
use Rattle.mesh_defs.specs.Points.{marked_point}
use Rattle.mesh_defs.specs.RightMesh.{in_some}

abbrev pub kept_marks : Mesh → List (ℕ × Cell) → List Mark
kept_marks m cells = filter (λ (k : Mark). in_some (marked_point k) cells) m.marks
