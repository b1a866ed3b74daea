-- Vertices of cells that are told by their places.
use Rattle.std.specs.Prelude.{ℕ, Bool, ◌==◌, List}
use Rattle.std.specs.List.{list_any}
use Rattle.mesh_defs.specs.Mesh.{Mesh}
use Rattle.plex_mesh.specs.Right.{cell_at}

-- one of these cells of the mesh has the vertex
abbrev pub some_has : Mesh → List ℕ → ℕ → Bool
some_has m cells v = list_any (λ c. list_any (λ w. w == v) (cell_at m.cells c).vertices) cells
