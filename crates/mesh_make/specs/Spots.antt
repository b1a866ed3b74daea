-- Spots as points of a grid.
use Rattle.std.specs.Prelude.{ℕ, ℤ, List}
use Rattle.mesh_defs.specs.Mesh.{Mesh, Cell}
use Rattle.input_defs.specs.declared.Kind.{Kind}
use Rattle.input_defs.specs.Generated.{GridPoint, made}
use Rattle.mesh_make.specs.declared.grid.Spot.{Spot}

abbrev pub grid_point : Spot → GridPoint
grid_point s = record { x = s.x; y = s.y; z = s.z }

-- what stands where there is no point
abbrev pub no_point : GridPoint
no_point = record { x = 0; y = 0; z = 0 }

-- the generated mesh with these vertices and these cells in place of its own
abbrev pub partly : Kind → ℕ → List (List ℤ) → List Cell → Mesh
partly kind n at cells = record (made kind n) { at = at; cells = cells }
