-- Worked rows: meshes that are read or made are right.
use Rattle.std.proofs.Common.{◌≡◌, Bool, true, false, [], ◌∷◌, Option, Some, None, Ok, Err, Result, refl}
use Rattle.std.specs.Prelude.{codes}
use Rattle.std.specs.List.{list_all}
use Rattle.input_defs.specs.line_defs.Rows.{lines_of}
use Rattle.plain_lists.specs.Lists.{sorted}
use Rattle.mesh_defs.specs.Orientation.{rotations, reflections, orientations, corners_under, act, relative}
use Rattle.mesh_defs.specs.Points.{sights_of, contains}
use Rattle.input_defs.specs.scan_defs.Lines.{line_number, lines_from, is_indent}
use Rattle.input_defs.specs.scan_defs.Items.{name_of, tokens_on, items_on, items_of, ahead}
use Rattle.input_defs.specs.scan_defs.Quotes.{quoted_on}
use Rattle.input_defs.specs.scan_defs.Numbers.{uint_of, int_of, decimal_of, scaled, fixed_value, fixed_of}
use Rattle.plex_defs.specs.Fields.{row_values}
use Rattle.input_defs.specs.Bodies.{lexeme_of}
use Rattle.input_defs.specs.Sections.{format, name, names, node, nodes_after, nodes, element, elements}
use Rattle.input_defs.specs.DataSections.{row, section, section_of}
use Rattle.input_defs.specs.Files.{blocks_of, misplaced, unfinished, with_section, with_block, said, content}
use Rattle.input_defs.specs.Meshes.{kept, greatest_dim, vertex_nodes, cell_elements, cells_of, marks_of, loose_elements, section_on, mesh_of, twist, accepted}
use Rattle.input_defs.specs.Generated.{grid_points, grid_cells, corners_at, cells_at, made}
use Rattle.input_defs.specs.declared.Kind.TheVariants.{Tri, Quad, Tet, Hex}
use Rattle.input_defs.specs.declared.MeshFault.{MeshFault}
use Rattle.mesh_defs.specs.Mesh.{Mesh}
use Rattle.mesh_defs.proofs.RightMeshes.{is_right}
use Rattle.input_defs.proofs.MeshRows.{mesh, with_elements}
use Rattle.input_defs.proofs.PlateRows.{plate_mesh}

-- there is a mesh, and it is right
abbrev is_right_where : Option (Result Mesh MeshFault) → Bool
is_right_where (Some (Ok m)) = is_right m
is_right_where (Some (Err fault)) = false
is_right_where None = false

-- merged elements; loose ones, with labels of every dimension; rows of data; data of another element on a cell's nodes
right_files : list_all (λ lines. is_right_where (mesh (with_elements lines)))
    (codes "2\n1 2 2 5 1 1 2 3\n2 2 2 6 1 2 3 1\n$EndElements\n"
    ∷ codes "9\n1 1 1 7 1 9\n2 1 1 7 1 4\n3 4 1 -8 9 1 2 3\n4 3 1 4 1 2 3 9\n5 15 1 2 3\n6 15 1 2 4\n7 1 1 6 4 1\n8 2 1 0 1 2 3\n9 1 1 5 9 1\n$EndElements\n"
    ∷ codes "4\n1 2 0 4 2 1\n2 15 0 4\n3 2 0 1 2 4\n1 2 0 1 2 3\n$EndElements\n$ElementData\n0 0 3\n0 1 5\n3 1\n2 2\n1 3\n3 4\n1 5\n$EndElementData\n$NodeData\n0 0 3\n0 1 3\n9 1\n4 2\n1 3\n$EndNodeData\n"
    ∷ codes "2\n1 3 0 1 2 3 9\n2 4 0 1 2 3 9\n$EndElements\n$ElementData\n0 0 3\n0 1 1\n1 1\n$EndElementData\n"
    ∷ []) ≡ true
unfolding line_number lines_from lines_of is_indent name_of tokens_on items_on items_of ahead quoted_on uint_of int_of decimal_of scaled fixed_value fixed_of lexeme_of format name names node nodes_after nodes element elements row section section_of blocks_of misplaced unfinished with_section with_block said content sorted rotations reflections orientations corners_under act relative sights_of contains kept greatest_dim vertex_nodes cell_elements cells_of marks_of loose_elements section_on row_values mesh_of twist accepted
right_files = refl

right_plate : is_right plate_mesh ≡ true
unfolding sorted sights_of contains
right_plate = refl

right_made : list_all is_right (made Tri 2 ∷ made Quad 2 ∷ made Tet 1 ∷ made Hex 2 ∷ []) ≡ true
unfolding sorted grid_points grid_cells corners_at cells_at made
right_made = refl
