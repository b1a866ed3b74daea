-- A mesh of a content that is being put together.
use Rattle.std.specs.Prelude.{ℤ, List, map}
use Rattle.mesh_defs.specs.Mesh.{Mesh, Cell, Mark, Name, Section}
use Rattle.input_defs.specs.Content.{Node, Content}
use Rattle.input_defs.specs.Meshes.{greatest_dim, vertex_nodes}

-- the coordinates of the vertices
abbrev pub coordinates : Content → List (List ℤ)
coordinates c = map (λ (node : Node). node.at) (vertex_nodes c)

-- the mesh with these parts, and no counts yet
abbrev pub partly : Content → List (List ℤ) → List Cell → List Mark → List Name → List Section → Mesh
partly c at cells marks names fields = record {
  dim = greatest_dim c;
  at = at;
  cells = cells;
  marks = marks;
  names = names;
  fields = fields;
  unused = 0;
  loose = 0;
  merged = 0;
}
