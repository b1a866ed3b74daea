-- Worked rows: the texts of mesh files, with names, labels and data.
use Rattle.std.proofs.Common.{◌≡◌, ℕ, Bool, true, List, [], ◌∷◌, map, Option, Some, None, Ok, Err, refl}
use Rattle.std.specs.Prelude.{Result, codes}
use Rattle.input_defs.specs.line_defs.Rows.{lines_of}
use Rattle.input_defs.specs.scan_defs.Lines.{line_number, lines_from, is_indent}
use Rattle.input_defs.specs.scan_defs.Items.{name_of, tokens_on, items_on, items_of, ahead}
use Rattle.input_defs.specs.scan_defs.Quotes.{quoted_on}
use Rattle.input_defs.specs.scan_defs.Numbers.{uint_of, int_of, decimal_of, scaled, fixed_value, fixed_of}
use Rattle.plex_defs.specs.Fields.{row_values, dof_words}
use Rattle.input_defs.specs.Bodies.{lexeme_of}
use Rattle.input_defs.specs.Sections.{format, name, names, node, nodes_after, nodes, element, elements}
use Rattle.input_defs.specs.DataSections.{row, section, section_of}
use Rattle.input_defs.specs.Files.{blocks_of, misplaced, unfinished, with_section, with_block, said, content}
use Rattle.plain_lists.specs.Lists.{sorted, same_list}
use Rattle.mesh_defs.specs.Orientation.{rotations, reflections, orientations, corners_under, act, relative}
use Rattle.mesh_defs.specs.Points.{sights_of, first_sight, key, arrangement, contains}
use Rattle.mesh_defs.specs.Diagram.{stratum, strata, chart, seen_under, entry, cone}
use Rattle.input_defs.specs.Meshes.{kept, greatest_dim, vertex_nodes, cell_elements, cells_of, marks_of, loose_elements, section_on, mesh_of, twist, accepted}
use Rattle.std.specs.Prelude.{take}
use Rattle.std.specs.List.{list_all, list_any}
use Rattle.std.specs.Fmt.{digits}
use Rattle.mesh_defs.specs.Mesh.{Mesh}
use Rattle.input_defs.specs.line_defs.Numbers.{fraction_digits, unsigned_fixed_text, fixed_text}
use Rattle.input_defs.specs.text_defs.Text.{alone, tag, entry_text, at_text, tail_text, mesh_line, ranks_line, step_line, rank_line, total_line, rank_text, total_text, end_line}
use Rattle.input_defs.specs.declared.MeshFault.{MeshFault}
use Rattle.input_defs.specs.Plans.{DofsLine}
use Rattle.input_defs.specs.Further.{name_line, section_line, dofs_line, labels_at, labels_text, data_text, full_point, full_head, full_text}
use Rattle.input_defs.proofs.MeshRows.{mesh}
use Rattle.input_defs.proofs.PlateRows.{plate_mesh}

-- the text of a mesh file on one rank, without `dofs` lines
abbrev text_where : Option (Result Mesh MeshFault) → Option (List ℕ)
text_where (Some (Ok m)) = Some (full_text m [])
text_where (Some (Err fault)) = None
text_where None = None

abbrev text : List ℕ → Option (List ℕ)
text bytes = text_where (mesh bytes)

abbrev one_text : List ℕ
one_text = codes "mesh dim 2 cells 1 vertices 3 unused 0 loose 0 merged 0\nranks 1\nstep 0 part\nrank 0 cells 1 held 7 owned 7 base 0\ntotal 7 cells 1 vertices 3 faces 0 edges 3\nP 0 c0 4:0 5:0 6:0\nP 1 v0 @ 0 0 0\nP 2 v1 @ 1 0 0\nP 3 v2 @ 0 1 0\nP 4 e8 1:0 2:0\nP 5 e9 2:0 3:0\nP 6 e10 3:0 1:0\nend\n"

-- a plain triangle, and one whose element has two further tags, which name a partition
one_triangle_text : map text
    (codes "$MeshFormat\n2.2 0 8\n$EndMeshFormat\n$Nodes\n3\n1 0 0 0\n2 1 0 0\n3 0 1 0\n$EndNodes\n$Elements\n1\n1 2 2 0 1 1 2 3\n$EndElements\n"
    ∷ codes "$MeshFormat\n2.2 0 8\n$EndMeshFormat\n$Nodes\n3\n1 0 0 0\n2 1 0 0\n3 0 1 0\n$EndNodes\n$Elements\n1\n1 2 4 0 1 1 1 1 2 3\n$EndElements\n"
    ∷ [])
    ≡ Some one_text ∷ Some one_text ∷ []
unfolding line_number lines_from lines_of is_indent name_of tokens_on items_on items_of ahead quoted_on uint_of int_of decimal_of scaled fixed_value fixed_of lexeme_of format name names node nodes_after nodes element elements row section section_of blocks_of misplaced unfinished with_section with_block said content sorted rotations reflections orientations corners_under act relative sights_of contains kept greatest_dim vertex_nodes cell_elements cells_of marks_of loose_elements section_on row_values mesh_of twist accepted digits fraction_digits unsigned_fixed_text fixed_text first_sight key arrangement stratum strata chart seen_under entry cone alone tag entry_text at_text tail_text mesh_line ranks_line step_line rank_line total_line rank_text total_text end_line name_line section_line dofs_line labels_at labels_text dof_words data_text full_point full_head full_text
one_triangle_text = refl

-- an element that is merged adds its label value
merged_triangle_text : text (codes "$MeshFormat\n2.2 0 8\n$EndMeshFormat\n$Nodes\n3\n1 0 0 0\n2 1 0 0\n3 0 1 0\n$EndNodes\n$Elements\n2\n1 2 2 5 1 1 2 3\n2 2 2 6 1 2 3 1\n$EndElements\n")
    ≡ Some (codes "mesh dim 2 cells 1 vertices 3 unused 0 loose 0 merged 1\nranks 1\nstep 0 part\nrank 0 cells 1 held 7 owned 7 base 0\ntotal 7 cells 1 vertices 3 faces 0 edges 3\nP 0 c0 4:0 5:0 6:0 cell=5 cell=6\nP 1 v0 @ 0 0 0\nP 2 v1 @ 1 0 0\nP 3 v2 @ 0 1 0\nP 4 e8 1:0 2:0\nP 5 e9 2:0 3:0\nP 6 e10 3:0 1:0\nend\n")
unfolding line_number lines_from lines_of is_indent name_of tokens_on items_on items_of ahead quoted_on uint_of int_of decimal_of scaled fixed_value fixed_of lexeme_of format name names node nodes_after nodes element elements row section section_of blocks_of misplaced unfinished with_section with_block said content sorted rotations reflections orientations corners_under act relative sights_of contains kept greatest_dim vertex_nodes cell_elements cells_of marks_of loose_elements section_on row_values mesh_of twist accepted digits fraction_digits unsigned_fixed_text fixed_text first_sight key arrangement stratum strata chart seen_under entry cone alone tag entry_text at_text tail_text mesh_line ranks_line step_line rank_line total_line rank_text total_text end_line name_line section_line dofs_line labels_at labels_text dof_words data_text full_point full_head full_text
merged_triangle_text = refl

-- node data stand at the vertices that have a row
warm_triangle_text : text (codes "$MeshFormat\n2.2 0 8\n$EndMeshFormat\n$Nodes\n3\n1 0 0 0\n2 1 0 0\n3 0 1 0\n$EndNodes\n$Elements\n1\n1 2 2 0 1 1 2 3\n$EndElements\n$NodeData\n1\n\"temp\"\n1\n0.0\n3\n0\n1\n2\n1 20.5\n3 -4\n$EndNodeData\n")
    ≡ Some (codes "mesh dim 2 cells 1 vertices 3 unused 0 loose 0 merged 0\nfield 0 node 1 \"temp\"\nranks 1\nstep 0 part\nrank 0 cells 1 held 7 owned 7 base 0\ntotal 7 cells 1 vertices 3 faces 0 edges 3\nP 0 c0 4:0 5:0 6:0\nP 1 v0 @ 0 0 0 d0=20.5\nP 2 v1 @ 1 0 0\nP 3 v2 @ 0 1 0 d0=-4\nP 4 e8 1:0 2:0\nP 5 e9 2:0 3:0\nP 6 e10 3:0 1:0\nend\n")
unfolding line_number lines_from lines_of is_indent name_of tokens_on items_on items_of ahead quoted_on uint_of int_of decimal_of scaled fixed_value fixed_of lexeme_of format name names node nodes_after nodes element elements row section section_of blocks_of misplaced unfinished with_section with_block said content sorted rotations reflections orientations corners_under act relative sights_of contains kept greatest_dim vertex_nodes cell_elements cells_of marks_of loose_elements section_on row_values mesh_of twist accepted digits fraction_digits unsigned_fixed_text fixed_text first_sight key arrangement stratum strata chart seen_under entry cone alone tag entry_text at_text tail_text mesh_line ranks_line step_line rank_line total_line rank_text total_text end_line name_line section_line dofs_line labels_at labels_text dof_words data_text full_point full_head full_text
warm_triangle_text = refl

-- ---- the plate with a hole

abbrev has_lines : List ℕ → List (List ℕ) → Bool
has_lines text lines = list_all (λ line. list_any (same_list line) (lines_of text)) lines

plate_head : take 4 (lines_of (full_text plate_mesh [])) ≡ codes "mesh dim 2 cells 8 vertices 8 unused 1 loose 0 merged 0" ∷ codes "name 1 1 \"outer\"" ∷ codes "name 1 2 \"hole\"" ∷ codes "name 2 3 \"plate\"" ∷ []
unfolding line_number lines_from lines_of is_indent name_of tokens_on items_on items_of ahead quoted_on uint_of int_of decimal_of scaled fixed_value fixed_of lexeme_of format name names node nodes_after nodes element elements row section section_of blocks_of misplaced unfinished with_section with_block said content sorted rotations reflections orientations corners_under act relative sights_of contains kept greatest_dim vertex_nodes cell_elements cells_of marks_of loose_elements section_on row_values mesh_of twist accepted digits fraction_digits unsigned_fixed_text fixed_text first_sight key arrangement stratum strata chart seen_under entry cone alone tag entry_text at_text tail_text mesh_line ranks_line step_line rank_line total_line rank_text total_text end_line name_line section_line dofs_line labels_at labels_text dof_words data_text full_point full_head full_text
plate_head = refl

plate_lines : has_lines (full_text plate_mesh [])
    (codes "total 32 cells 8 vertices 8 faces 0 edges 16" ∷ codes "P 0 c0 16:0 17:0 18:0 cell=3" ∷ codes "P 13 v5 @ 0 1 0" ∷ codes "P 14 v6 @ -1 0 0" ∷ codes "P 17 e9 13:0 12:0 face=2" ∷ []) ≡ true
unfolding line_number lines_from lines_of is_indent name_of tokens_on items_on items_of ahead quoted_on uint_of int_of decimal_of scaled fixed_value fixed_of lexeme_of format name names node nodes_after nodes element elements row section section_of blocks_of misplaced unfinished with_section with_block said content sorted rotations reflections orientations corners_under act relative sights_of contains kept greatest_dim vertex_nodes cell_elements cells_of marks_of loose_elements section_on row_values mesh_of twist accepted digits fraction_digits unsigned_fixed_text fixed_text first_sight key arrangement stratum strata chart seen_under entry cone alone tag entry_text at_text tail_text mesh_line ranks_line step_line rank_line total_line rank_text total_text end_line name_line section_line dofs_line labels_at labels_text dof_words data_text full_point full_head full_text
plate_lines = refl

-- ---- labels of every dimension of a solid mesh, element data of three components, `dofs` lines

-- a tetrahedron with labels on itself, a face, an edge and a corner, a name below 0, and data
abbrev solid : List ℕ
solid = codes "$MeshFormat\n2.2 0 8\n$EndMeshFormat\n$PhysicalNames\n1\n3 -8 \"a \"b\"\"\n$EndPhysicalNames\n$Nodes\n4\n1 0 0 0\n2 1 0 0\n3 0 1 0\n4 0 0 1\n$EndNodes\n$Elements\n6\n1 4 1 -8 1 2 3 4\n2 2 1 7 3 2 1\n3 1 1 5 1 4\n4 15 1 3 2\n5 15 1 -9 2\n6 15 1 3 2\n$EndElements\n$ElementData\n1\n\"flow\"\n0\n3\n0\n3\n1\n1 1 -0.5 0\n$EndElementData\n"

abbrev dofs_lines : List DofsLine
dofs_lines = record { name = codes "u"; dofs = 1 ∷ 0 ∷ 0 ∷ 2 ∷ [] } ∷ []

abbrev solid_text : Option (Result Mesh MeshFault) → List ℕ
solid_text (Some (Ok m)) = full_text m dofs_lines
solid_text (Some (Err fault)) = []
solid_text None = []

solid_lines : has_lines (solid_text (mesh solid))
    (codes "name 3 -8 \"a \"b\"\"" ∷ codes "field 0 element 3 \"flow\"" ∷ codes "field 1 dofs \"u\" 1 0 0 2" ∷ codes "P 0 c0 5:0 6:0 7:0 8:0 cell=-8 d0=1,-0.5,0 d1=1,2" ∷ codes "P 1 v0 @ 0 0 0 d1=1" ∷ codes "P 2 v1 @ 1 0 0 vertex=-9 vertex=3 d1=1" ∷ codes "P 5 f1 11:-1 10:-1 9:-1 face=7" ∷ codes "P 12 e11 1:0 4:0 edge=5" ∷ []) ≡ true
unfolding line_number lines_from lines_of is_indent name_of tokens_on items_on items_of ahead quoted_on uint_of int_of decimal_of scaled fixed_value fixed_of lexeme_of format name names node nodes_after nodes element elements row section section_of blocks_of misplaced unfinished with_section with_block said content sorted rotations reflections orientations corners_under act relative sights_of contains kept greatest_dim vertex_nodes cell_elements cells_of marks_of loose_elements section_on row_values mesh_of twist accepted digits fraction_digits unsigned_fixed_text fixed_text first_sight key arrangement stratum strata chart seen_under entry cone alone tag entry_text at_text tail_text mesh_line ranks_line step_line rank_line total_line rank_text total_text end_line name_line section_line dofs_line labels_at labels_text dof_words data_text full_point full_head full_text
solid_lines = refl
