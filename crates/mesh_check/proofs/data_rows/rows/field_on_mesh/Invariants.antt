use Rattle.std.proofs.Common.{◌≡◌, ◌*◌, length, take}
use Rattle.std.specs.Prelude.{filter_map}
use Rattle.input_defs.specs.Meshes.{row_of}
use Rattle.plex_base.specs.DataFields.{rows_of_values}
use Rattle.mesh_check.proofs.data_rows.rows.field_on_mesh.Given as goal

abbrev pub invariant-loop-i : goal.invariant-loop-i
invariant-loop-i l = record {
  rows : rows_of_values l.field.comps l.named.items l.values.items ≡ filter_map (row_of l.places l.on) (take l.i l.field.rows);
  full : length l.values.items ≡ length l.named.items * l.field.comps;
}
