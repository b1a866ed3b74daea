-- Parts of the head of a text.
use Rattle.std.specs.Prelude.{ℕ, pos, List, [], length, get_or}
use Rattle.mesh_defs.specs.declared.Place.TheVariants.{Node}
use Rattle.mesh_defs.specs.Mesh.{Mesh, Name, Section}
use Rattle.input_defs.specs.Plans.{DofsLine}
use Rattle.input_defs.specs.text_defs.Text.{mesh_line}

-- what stands past the last name, data section and section of a plan
abbrev pub no_name : Name
no_name = record { dim = 0; number = pos 0; text = [] }

abbrev pub no_field : Section
no_field = record { on = Node; name = []; comps = 0; rows = [] }

abbrev pub no_dofs : DofsLine
no_dofs = record { name = []; dofs = [] }

-- name i, data section i, and section i of a plan
abbrev pub name_at : List Name → ℕ → Name
name_at names i = get_or names i no_name

abbrev pub field_at : List Section → ℕ → Section
field_at fields i = get_or fields i no_field

abbrev pub dofs_at : List DofsLine → ℕ → DofsLine
dofs_at dofs i = get_or dofs i no_dofs

abbrev pub mesh_head_line : Mesh → List ℕ
mesh_head_line m = mesh_line m.dim (length m.cells) (length m.at) m.unused m.loose m.merged
