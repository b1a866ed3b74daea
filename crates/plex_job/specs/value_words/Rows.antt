-- Rows whose values are told by their words.
use Rattle.std.specs.Prelude.{List}
use Rattle.std.specs.List.{AllByRecursion}
use Rattle.mesh_defs.specs.Mesh.{Row}
use Rattle.walk_defs.specs.step_defs.Words.{FitsWord}

-- each value of these rows is told by its word
abbrev pub FitsRows : List Row → Type 0
FitsRows rows = AllByRecursion (λ (r : Row). AllByRecursion FitsWord r.values) rows
