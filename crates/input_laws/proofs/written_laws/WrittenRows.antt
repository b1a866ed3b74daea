-- A worked row: a content and the file that is written of it.
use Rattle.std.proofs.Common.{◌≡◌, ◌++◌, [], ◌∷◌, pos, negsuc, refl}
use Rattle.std.specs.Prelude.{codes}
use Rattle.std.specs.Fmt.{digits}
use Rattle.input_defs.specs.line_defs.Numbers.{fraction_digits, unsigned_fixed_text, fixed_text}
use Rattle.mesh_defs.specs.declared.Place.TheVariants as place
use Rattle.input_defs.specs.Content.{Content}
use Rattle.input_laws.specs.written_laws.Written.{file_lines, file_of}

-- a triangle with a name, and a value of one of its nodes
abbrev small : Content
small = record {
  nodes = record { number = 7; at = pos 0 ∷ negsuc 12499999999 ∷ pos 10000000000 ∷ [] } ∷ record { number = 2; at = pos 1 ∷ pos 0 ∷ pos 0 ∷ [] } ∷ record { number = 10; at = pos 0 ∷ pos 0 ∷ pos 0 ∷ [] } ∷ [];
  elements = record { number = 1; kind = 2; physical = negsuc 2; nodes = 7 ∷ 2 ∷ 10 ∷ [] } ∷ [];
  names = record { dim = 2; number = negsuc 2; text = codes "the \"plate\"" } ∷ [];
  fields = record { on = place.Node; name = codes "heat"; comps = 1; rows = record { number = 10; values = negsuc 0 ∷ [] } ∷ [] } ∷ [];
}

written : file_of small
    ≡ codes "$MeshFormat\n2.2 0 8\n$EndMeshFormat\n$PhysicalNames\n1\n2 -3 \"the \"plate\"\"\n$EndPhysicalNames\n$Nodes\n3\n7 0 -1.25 1\n2 0.0000000001 0 0\n10 0 0 0\n$EndNodes\n$Elements\n1\n1 2 1 -3 7 2 10\n$EndElements\n"
    ++ codes "$NodeData\n1\n\"heat\"\n0\n3\n0\n1\n1\n10 -0.0000000001\n$EndNodeData\n"
unfolding digits fraction_digits unsigned_fixed_text fixed_text file_lines file_of
written = refl
