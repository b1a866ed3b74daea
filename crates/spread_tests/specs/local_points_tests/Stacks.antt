-- Cells on the same vertices.
use Rattle.std.specs.Prelude.{ℕ, List, map}
use Rattle.std.specs.List.{range_with_len}
use Rattle.mesh_defs.specs.declared.Poly.TheVariants.{Quad}
use Rattle.mesh_defs.specs.Mesh.{Cell}

-- n quadrilaterals on these vertices, numbered from 0
unfoldable pub stack : ℕ → List ℕ → List (ℕ × Cell)
stack n vertices = map (λ i. (i, record { poly = Quad; vertices = vertices })) (range_with_len 0 n)
