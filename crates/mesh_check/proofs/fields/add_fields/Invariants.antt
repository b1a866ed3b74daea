use Rattle.std.proofs.Common.{◌≡◌, map, take}
use Rattle.input_defs.specs.Meshes.{section_on}
use Rattle.mesh_check.proofs.fields.add_fields.Given as goal

abbrev pub invariant-loop-i : goal.invariant-loop-i
invariant-loop-i l = l.builder ≡ record l.fn.builder { fields = map (section_on l.fn.places) (take l.i l.fn.places.fields) }
