-- How many cells of a mesh have each of its vertices.
use Rattle.std.specs.Prelude.{◌≡◌, ℕ, ◌==◌, List, length, map, count_by, Some}
use Rattle.std.specs.List.{list_any}
use Rattle.plain_lists.specs.Lists.{below}
use Rattle.mesh_defs.specs.Mesh.{Mesh, Cell}
use Rattle.mesh_defs.specs.Diagram.{twist_key}
use Rattle.rank_defs.specs.Ranks.{assigned}
use Rattle.headline_laws.specs.seed_laws.Given.{vertices_of}
use Rattle.orient_iface.specs.declared.orienting.OrientFault.{OrientFault}
use Rattle.orient_iface.specs.declared.orienting.OrientFault.TheVariants.{Twist, NoMemory}
use Rattle.cells_at_vertices.specs.declared.counts.VertexCount.{VertexCount}

-- how many cells of a mesh have vertex v among their corners
abbrev pub cells_at : Mesh → ℕ → ℕ
cells_at m v = count_by (λ (cell : Cell). list_any (λ w. w == v) cell.vertices) m.cells

-- the vertices of the cells that rank r is assigned, rising, each with the count of all cells of the mesh
abbrev pub counts_of_rank : Mesh → List ℕ → ℕ → List VertexCount
counts_of_rank m a r = map (λ v. record { vertex = v; cells = cells_at m v }) (vertices_of (length m.at) (assigned m a r))

-- so for each of n ranks
abbrev pub vertex_counts : Mesh → List ℕ → ℕ → List (List VertexCount)
vertex_counts m a n = map (counts_of_rank m a) (below n)

-- a twist is that of the mesh
abbrev pub IsTwistOf : Mesh → OrientFault → Type 0
IsTwistOf m (Twist key) = twist_key m ≡ Some key.0
IsTwistOf m NoMemory = Unit {0}
