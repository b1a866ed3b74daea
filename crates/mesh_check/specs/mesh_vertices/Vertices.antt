-- Vertices as they are kept, and which nodes are vertices.
use Rattle.std.specs.Prelude.{ℕ, Bool, ◌&&◌, List, map}
use Rattle.std.specs.List.{list_any}
use Rattle.input_defs.specs.Content.{Node, Element, Content}
use Rattle.input_defs.specs.Sections.{has_number}
use Rattle.input_defs.specs.Meshes.{is_top}
use Rattle.mesh_check.specs.declared.mesh_vertices.vertices.FileVertex.{FileVertex}

-- a vertex as a node of the file
abbrev pub vertex_view : FileVertex → Node
vertex_view v = record { number = v.number; at = v.at }

abbrev pub vertex_views : List FileVertex → List Node
vertex_views vertices = map vertex_view vertices

abbrev pub numbers_of : List Node → List ℕ
numbers_of nodes = map (λ (node : Node). node.number) nodes

-- one of these elements has the mesh's dimension and the node of this number
abbrev pub is_used_by : Content → List Element → ℕ → Bool
is_used_by content elements number = list_any (λ e. is_top content e && has_number e.nodes number) elements
