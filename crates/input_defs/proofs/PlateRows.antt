-- Worked rows: a square plate with a round hole, its lines ended by CR LF. Node 5 is the centre of the hole and in no cell.
use Rattle.std.proofs.Common.{◌≡◌, ℕ, List, [], ◌∷◌, ◌++◌, pos, negsuc, Ok, refl}
use Rattle.std.specs.Prelude.{codes}
use Rattle.input_defs.specs.line_defs.Rows.{lines_of}
use Rattle.input_defs.specs.scan_defs.Lines.{line_number, lines_from, is_indent}
use Rattle.input_defs.specs.scan_defs.Items.{name_of, tokens_on, items_on, items_of, ahead}
use Rattle.input_defs.specs.scan_defs.Quotes.{quoted_on}
use Rattle.input_defs.specs.scan_defs.Numbers.{uint_of, int_of, decimal_of, scaled, fixed_value, fixed_of}
use Rattle.plex_defs.specs.Fields.{row_values}
use Rattle.input_defs.specs.Bodies.{lexeme_of}
use Rattle.input_defs.specs.Sections.{format, name, names, node, nodes_after, nodes, element, elements}
use Rattle.input_defs.specs.DataSections.{row, section, section_of}
use Rattle.input_defs.specs.Files.{blocks_of, misplaced, unfinished, with_section, with_block, said, content}
use Rattle.plain_lists.specs.Lists.{sorted}
use Rattle.mesh_defs.specs.Orientation.{rotations, reflections, orientations, corners_under, act, relative}
use Rattle.mesh_defs.specs.Points.{sights_of, contains}
use Rattle.input_defs.specs.Meshes.{kept, greatest_dim, vertex_nodes, cell_elements, cells_of, marks_of, loose_elements, section_on, mesh_of, twist, accepted}
use Rattle.input_defs.specs.Content.{Content}
use Rattle.mesh_defs.specs.declared.Poly.TheVariants.{Triangle}
use Rattle.mesh_defs.specs.Mesh.{Mesh, Name}

abbrev pub plate : List ℕ
plate = codes "$MeshFormat\r\n2.2 0 8\r\n$EndMeshFormat\r\n$PhysicalNames\r\n3\r\n1 1 \"outer\"\r\n1 2 \"hole\"\r\n2 3 \"plate\"\r\n$EndPhysicalNames\r\n"
    ++ codes "$Nodes\r\n9\r\n1 3 3 0\r\n2 -3 3 0\r\n3 -3 -3 0\r\n4 3 -3 0\r\n5 0 0 0\r\n6 1 0 0\r\n7 6.123233995736766e-17 1 0\r\n8 -1 1.224646799147353e-16 0\r\n9 -1.83697019872103e-16 -1 0\r\n$EndNodes\r\n"
    ++ codes "$Elements\r\n16\r\n1 1 2 1 1 1 2\r\n2 1 2 1 2 2 3\r\n3 1 2 1 3 3 4\r\n4 1 2 1 4 4 1\r\n5 1 2 2 5 6 7\r\n6 1 2 2 6 7 8\r\n7 1 2 2 7 8 9\r\n8 1 2 2 8 9 6\r\n9 2 2 3 9 1 7 6\r\n10 2 2 3 9 2 8 7\r\n11 2 2 3 9 3 9 8\r\n12 2 2 3 9 4 6 9\r\n13 2 2 3 9 1 2 7\r\n14 2 2 3 9 2 3 8\r\n15 2 2 3 9 3 4 9\r\n16 2 2 3 9 4 1 6\r\n$EndElements\r\n"

abbrev plate_names : List Name
plate_names = record { dim = 1; number = pos 1; text = codes "outer" } ∷ record { dim = 1; number = pos 2; text = codes "hole" } ∷ record { dim = 2; number = pos 3; text = codes "plate" } ∷ []

-- what the file says
abbrev pub plate_content : Content
plate_content = record {
  nodes = record { number = 1; at = pos 30000000000 ∷ pos 30000000000 ∷ pos 0 ∷ [] } ∷ record { number = 2; at = negsuc 29999999999 ∷ pos 30000000000 ∷ pos 0 ∷ [] } ∷ record { number = 3; at = negsuc 29999999999 ∷ negsuc 29999999999 ∷ pos 0 ∷ [] } ∷ record { number = 4; at = pos 30000000000 ∷ negsuc 29999999999 ∷ pos 0 ∷ [] } ∷ record { number = 5; at = pos 0 ∷ pos 0 ∷ pos 0 ∷ [] } ∷ record { number = 6; at = pos 10000000000 ∷ pos 0 ∷ pos 0 ∷ [] } ∷ record { number = 7; at = pos 0 ∷ pos 10000000000 ∷ pos 0 ∷ [] } ∷ record { number = 8; at = negsuc 9999999999 ∷ pos 0 ∷ pos 0 ∷ [] } ∷ record { number = 9; at = pos 0 ∷ negsuc 9999999999 ∷ pos 0 ∷ [] } ∷ [];
  elements = record { number = 1; kind = 1; physical = pos 1; nodes = 1 ∷ 2 ∷ [] }
      ∷ record { number = 2; kind = 1; physical = pos 1; nodes = 2 ∷ 3 ∷ [] }
      ∷ record { number = 3; kind = 1; physical = pos 1; nodes = 3 ∷ 4 ∷ [] }
      ∷ record { number = 4; kind = 1; physical = pos 1; nodes = 4 ∷ 1 ∷ [] }
      ∷ record { number = 5; kind = 1; physical = pos 2; nodes = 6 ∷ 7 ∷ [] }
      ∷ record { number = 6; kind = 1; physical = pos 2; nodes = 7 ∷ 8 ∷ [] }
      ∷ record { number = 7; kind = 1; physical = pos 2; nodes = 8 ∷ 9 ∷ [] }
      ∷ record { number = 8; kind = 1; physical = pos 2; nodes = 9 ∷ 6 ∷ [] }
      ∷ record { number = 9; kind = 2; physical = pos 3; nodes = 1 ∷ 7 ∷ 6 ∷ [] }
      ∷ record { number = 10; kind = 2; physical = pos 3; nodes = 2 ∷ 8 ∷ 7 ∷ [] }
      ∷ record { number = 11; kind = 2; physical = pos 3; nodes = 3 ∷ 9 ∷ 8 ∷ [] }
      ∷ record { number = 12; kind = 2; physical = pos 3; nodes = 4 ∷ 6 ∷ 9 ∷ [] }
      ∷ record { number = 13; kind = 2; physical = pos 3; nodes = 1 ∷ 2 ∷ 7 ∷ [] }
      ∷ record { number = 14; kind = 2; physical = pos 3; nodes = 2 ∷ 3 ∷ 8 ∷ [] }
      ∷ record { number = 15; kind = 2; physical = pos 3; nodes = 3 ∷ 4 ∷ 9 ∷ [] }
      ∷ record { number = 16; kind = 2; physical = pos 3; nodes = 4 ∷ 1 ∷ 6 ∷ [] } ∷ [];
  names = plate_names;
  fields = [];
}

plate_read : content plate ≡ Ok plate_content
unfolding line_number lines_from lines_of is_indent name_of tokens_on items_on items_of ahead quoted_on uint_of int_of decimal_of scaled fixed_value fixed_of lexeme_of format name names node nodes_after nodes element elements row section section_of blocks_of misplaced unfinished with_section with_block said content
plate_read = refl

-- the mesh: every line labels an edge and every triangle its cell; one node is unused
abbrev pub plate_mesh : Mesh
plate_mesh = record {
  dim = 2;
  at = (pos 30000000000 ∷ pos 30000000000 ∷ pos 0 ∷ []) ∷ (negsuc 29999999999 ∷ pos 30000000000 ∷ pos 0 ∷ []) ∷ (negsuc 29999999999 ∷ negsuc 29999999999 ∷ pos 0 ∷ []) ∷ (pos 30000000000 ∷ negsuc 29999999999 ∷ pos 0 ∷ []) ∷ (pos 10000000000 ∷ pos 0 ∷ pos 0 ∷ []) ∷ (pos 0 ∷ pos 10000000000 ∷ pos 0 ∷ []) ∷ (negsuc 9999999999 ∷ pos 0 ∷ pos 0 ∷ []) ∷ (pos 0 ∷ negsuc 9999999999 ∷ pos 0 ∷ []) ∷ [];
  cells = record { poly = Triangle; vertices = 0 ∷ 5 ∷ 4 ∷ [] }
      ∷ record { poly = Triangle; vertices = 1 ∷ 6 ∷ 5 ∷ [] }
      ∷ record { poly = Triangle; vertices = 2 ∷ 7 ∷ 6 ∷ [] }
      ∷ record { poly = Triangle; vertices = 3 ∷ 4 ∷ 7 ∷ [] }
      ∷ record { poly = Triangle; vertices = 0 ∷ 1 ∷ 5 ∷ [] }
      ∷ record { poly = Triangle; vertices = 1 ∷ 2 ∷ 6 ∷ [] }
      ∷ record { poly = Triangle; vertices = 2 ∷ 3 ∷ 7 ∷ [] }
      ∷ record { poly = Triangle; vertices = 3 ∷ 0 ∷ 4 ∷ [] } ∷ [];
  marks = record { dim = 1; vertices = 0 ∷ 1 ∷ []; value = pos 1 }
      ∷ record { dim = 1; vertices = 1 ∷ 2 ∷ []; value = pos 1 }
      ∷ record { dim = 1; vertices = 2 ∷ 3 ∷ []; value = pos 1 }
      ∷ record { dim = 1; vertices = 3 ∷ 0 ∷ []; value = pos 1 }
      ∷ record { dim = 1; vertices = 4 ∷ 5 ∷ []; value = pos 2 }
      ∷ record { dim = 1; vertices = 5 ∷ 6 ∷ []; value = pos 2 }
      ∷ record { dim = 1; vertices = 6 ∷ 7 ∷ []; value = pos 2 }
      ∷ record { dim = 1; vertices = 7 ∷ 4 ∷ []; value = pos 2 }
      ∷ record { dim = 2; vertices = 0 ∷ 5 ∷ 4 ∷ []; value = pos 3 }
      ∷ record { dim = 2; vertices = 1 ∷ 6 ∷ 5 ∷ []; value = pos 3 }
      ∷ record { dim = 2; vertices = 2 ∷ 7 ∷ 6 ∷ []; value = pos 3 }
      ∷ record { dim = 2; vertices = 3 ∷ 4 ∷ 7 ∷ []; value = pos 3 }
      ∷ record { dim = 2; vertices = 0 ∷ 1 ∷ 5 ∷ []; value = pos 3 }
      ∷ record { dim = 2; vertices = 1 ∷ 2 ∷ 6 ∷ []; value = pos 3 }
      ∷ record { dim = 2; vertices = 2 ∷ 3 ∷ 7 ∷ []; value = pos 3 }
      ∷ record { dim = 2; vertices = 3 ∷ 0 ∷ 4 ∷ []; value = pos 3 } ∷ [];
  names = plate_names;
  fields = [];
  unused = 1;
  loose = 0;
  merged = 0;
}

plate_accepted : accepted plate_content ≡ Ok plate_mesh
unfolding sorted rotations reflections orientations corners_under act relative sights_of contains kept greatest_dim vertex_nodes cell_elements cells_of marks_of loose_elements section_on row_values mesh_of twist accepted
plate_accepted = refl
