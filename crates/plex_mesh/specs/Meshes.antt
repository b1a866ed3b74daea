-- A mesh from its lists.
use Rattle.std.specs.Prelude.{map}
use Rattle.mesh_defs.specs.Mesh.{Mesh, Name, Section}
use Rattle.plex_base.specs.Dim.{dim_number}
use Rattle.plex_base.specs.DataFields.{section_on}
use Rattle.plex_mesh.specs.declared.lists.PlacedField.{PlacedField}
use Rattle.plex_mesh.specs.declared.lists.StoredName.{StoredName}
use Rattle.plex_mesh.specs.declared.lists.Lists.{Lists}

abbrev pub name_of : StoredName → Name
name_of s = record { dim = s.dim; number = s.number; text = s.text.items }

abbrev pub section_of : PlacedField → Section
section_of s = section_on s.on s.field

abbrev pub mesh_of : Lists → Mesh
mesh_of l = record {
  dim = dim_number l.dim;
  at = l.at.items;
  cells = l.cells;
  marks = l.marks;
  names = map name_of l.names.items;
  fields = map section_of l.fields.items;
  unused = l.unused;
  loose = l.loose;
  merged = l.merged;
}
