-- What ranks know around vertices.
use Rattle.std.specs.Prelude.{ℕ, List, filter}
use Rattle.mesh_defs.specs.Mesh.{Mesh, Cell}
use Rattle.mesh_defs.specs.Points.{contains}
use Rattle.rank_defs.specs.Ranks.{assigned}
use Rattle.rank_laws.specs.share_laws.Charts.{vertex_point}

-- the assigned cells of a rank at a vertex
unfoldable pub cells_at : Mesh → List ℕ → ℕ → ℕ → List (ℕ × Cell)
cells_at m a r v = filter (λ (c : ℕ × Cell). contains c.1 (vertex_point v)) (assigned m a r)
