-- Worked rows: the meshes of small files, and why some contents have none.
use Rattle.std.proofs.Common.{◌≡◌, ℕ, List, [], ◌∷◌, ◌++◌, map, ℤ, pos, negsuc, Option, Some, None, Ok, Err, refl}
use Rattle.std.specs.Prelude.{Result, codes}
use Rattle.input_defs.specs.line_defs.Rows.{lines_of}
use Rattle.input_defs.specs.Content.{Content}
use Rattle.mesh_defs.specs.declared.Poly.TheVariants.{Triangle, Tet}
use Rattle.plain_lists.specs.Lists.{sorted}
use Rattle.mesh_defs.specs.Orientation.{rotations, reflections, orientations, corners_under, act, relative}
use Rattle.mesh_defs.specs.Mesh.{Mesh, Row, Section}
use Rattle.mesh_defs.specs.Points.{sights_of, contains}
use Rattle.input_defs.specs.scan_defs.Lines.{line_number, lines_from, is_indent}
use Rattle.input_defs.specs.scan_defs.Items.{name_of, tokens_on, items_on, items_of, ahead}
use Rattle.input_defs.specs.scan_defs.Quotes.{quoted_on}
use Rattle.input_defs.specs.scan_defs.Numbers.{uint_of, int_of, decimal_of, scaled, fixed_value, fixed_of}
use Rattle.plex_defs.specs.Fields.{row_values}
use Rattle.input_defs.specs.declared.MshFault.{MshFault}
use Rattle.input_defs.specs.declared.MeshFault.{MeshFault}
use Rattle.input_defs.specs.declared.MeshFault.TheVariants.{NoCells, CellTwist}
use Rattle.input_defs.specs.Bodies.{lexeme_of}
use Rattle.input_defs.specs.Sections.{format, name, names, node, nodes_after, nodes, element, elements}
use Rattle.input_defs.specs.DataSections.{row, section, section_of}
use Rattle.input_defs.specs.Files.{blocks_of, misplaced, unfinished, with_section, with_block, said, content}
use Rattle.input_defs.specs.Meshes.{kept, greatest_dim, vertex_nodes, cell_elements, cells_of, marks_of, loose_elements, section_on, mesh_of, twist, accepted}

-- the mesh of a right file, or why it has none
abbrev pub accepted_where : Result Content MshFault → Option (Result Mesh MeshFault)
accepted_where (Ok c) = Some (accepted c)
accepted_where (Err fault) = None

abbrev pub mesh : List ℕ → Option (Result Mesh MeshFault)
mesh bytes = accepted_where (content bytes)

abbrev fields_where : Option (Result Mesh MeshFault) → List Section
fields_where (Some (Ok m)) = m.fields
fields_where (Some (Err fault)) = []
fields_where None = []

-- the rows of a section, and the values of place 0
abbrev rows_and_first : Section → List Row × Option (List ℤ)
rows_and_first s = (s.rows, row_values s 0)

-- five nodes, with these lines of elements and data
abbrev pub with_elements : List ℕ → List ℕ
with_elements lines = codes "$MeshFormat\n2.2 0 8\n$EndMeshFormat\n$Nodes\n5\n1 0 0 0\n2 1 0 0\n3 0 1 0\n4 1 1 0\n9 0 0 1\n$EndNodes\n$Elements\n" ++ lines

-- two elements on the same nodes: the second is merged, and adds its label value
merged_elements : mesh (with_elements (codes "2\n1 2 2 5 1 1 2 3\n2 2 2 6 1 2 3 1\n$EndElements\n")) ≡ Some (Ok (record {
  dim = 2;
  at = (pos 0 ∷ pos 0 ∷ pos 0 ∷ []) ∷ (pos 10000000000 ∷ pos 0 ∷ pos 0 ∷ []) ∷ (pos 0 ∷ pos 10000000000 ∷ pos 0 ∷ []) ∷ [];
  cells = record { poly = Triangle; vertices = 0 ∷ 1 ∷ 2 ∷ [] } ∷ [];
  marks = record { dim = 2; vertices = 0 ∷ 1 ∷ 2 ∷ []; value = pos 5 } ∷ record { dim = 2; vertices = 1 ∷ 2 ∷ 0 ∷ []; value = pos 6 } ∷ [];
  names = [];
  fields = [];
  unused = 2;
  loose = 0;
  merged = 1;
}))
unfolding line_number lines_from lines_of is_indent name_of tokens_on items_on items_of ahead quoted_on uint_of int_of decimal_of scaled fixed_value fixed_of lexeme_of format name names node nodes_after nodes element elements row section section_of blocks_of misplaced unfinished with_section with_block said content sorted rotations reflections orientations corners_under act relative sights_of contains kept greatest_dim vertex_nodes cell_elements cells_of marks_of loose_elements section_on row_values mesh_of twist accepted
merged_elements = refl

-- A tetrahedron with a labelled edge and corner. An edge and a point on other nodes and a quadrilateral on the same nodes
-- are loose, each once: an equal one after it is merged.
loose_elements_of_tetrahedron : mesh (with_elements (codes "9\n1 1 1 7 1 9\n2 1 1 7 1 4\n3 4 1 -8 9 1 2 3\n4 3 1 4 1 2 3 9\n5 15 1 2 3\n6 15 1 2 4\n7 1 1 6 4 1\n8 2 1 0 1 2 3\n9 1 1 5 9 1\n$EndElements\n")) ≡ Some (Ok (record {
  dim = 3;
  at = (pos 0 ∷ pos 0 ∷ pos 0 ∷ []) ∷ (pos 10000000000 ∷ pos 0 ∷ pos 0 ∷ []) ∷ (pos 0 ∷ pos 10000000000 ∷ pos 0 ∷ []) ∷ (pos 0 ∷ pos 0 ∷ pos 10000000000 ∷ []) ∷ [];
  cells = record { poly = Tet; vertices = 3 ∷ 0 ∷ 1 ∷ 2 ∷ [] } ∷ [];
  marks = record { dim = 1; vertices = 0 ∷ 3 ∷ []; value = pos 7 } ∷ record { dim = 3; vertices = 3 ∷ 0 ∷ 1 ∷ 2 ∷ []; value = negsuc 7 } ∷ record { dim = 0; vertices = 2 ∷ []; value = pos 2 } ∷ record { dim = 1; vertices = 3 ∷ 0 ∷ []; value = pos 5 } ∷ [];
  names = [];
  fields = [];
  unused = 1;
  loose = 3;
  merged = 2;
}))
unfolding line_number lines_from lines_of is_indent name_of tokens_on items_on items_of ahead quoted_on uint_of int_of decimal_of scaled fixed_value fixed_of lexeme_of format name names node nodes_after nodes element elements row section section_of blocks_of misplaced unfinished with_section with_block said content sorted rotations reflections orientations corners_under act relative sights_of contains kept greatest_dim vertex_nodes cell_elements cells_of marks_of loose_elements section_on row_values mesh_of twist accepted
loose_elements_of_tetrahedron = refl

-- Rows of data: of an unused node and of an element on no cell are dropped; a merged element names the cell; an element
-- number that stands twice means its first element; the last row of a place holds.
data_rows : map rows_and_first
    (fields_where (mesh (with_elements (codes "4\n1 2 0 4 2 1\n2 15 0 4\n3 2 0 1 2 4\n1 2 0 1 2 3\n$EndElements\n$ElementData\n0 0 3\n0 1 5\n3 1\n2 2\n1 3\n3 4\n1 5\n$EndElementData\n$NodeData\n0 0 3\n0 1 3\n9 1\n4 2\n1 3\n$EndNodeData\n"))))
    ≡ (record { number = 0; values = pos 10000000000 ∷ [] } ∷ record { number = 0; values = pos 30000000000 ∷ [] } ∷ record { number = 0; values = pos 40000000000 ∷ [] } ∷ record { number = 0; values = pos 50000000000 ∷ [] } ∷ [], Some (pos 50000000000 ∷ []))
    ∷ (record { number = 3; values = pos 20000000000 ∷ [] } ∷ record { number = 0; values = pos 30000000000 ∷ [] } ∷ [], Some (pos 30000000000 ∷ []))
    ∷ []
unfolding line_number lines_from lines_of is_indent name_of tokens_on items_on items_of ahead quoted_on uint_of int_of decimal_of scaled fixed_value fixed_of lexeme_of format name names node nodes_after nodes element elements row section section_of blocks_of misplaced unfinished with_section with_block said content sorted rotations reflections orientations corners_under act relative sights_of contains kept greatest_dim vertex_nodes cell_elements cells_of marks_of loose_elements section_on row_values mesh_of twist accepted
data_rows = refl

-- the data of a quadrangle on the nodes of a tetrahedron are the tetrahedron's
data_of_a_quadrangle : map (λ (s : Section). s.rows) (fields_where (mesh (with_elements (codes "2\n1 3 0 1 2 3 9\n2 4 0 1 2 3 9\n$EndElements\n$ElementData\n0 0 3\n0 1 1\n1 1\n$EndElementData\n"))))
    ≡ (record { number = 0; values = pos 10000000000 ∷ [] } ∷ []) ∷ []
unfolding line_number lines_from lines_of is_indent name_of tokens_on items_on items_of ahead quoted_on uint_of int_of decimal_of scaled fixed_value fixed_of lexeme_of format name names node nodes_after nodes element elements row section section_of blocks_of misplaced unfinished with_section with_block said content sorted rotations reflections orientations corners_under act relative sights_of contains kept greatest_dim vertex_nodes cell_elements cells_of marks_of loose_elements section_on row_values mesh_of twist accepted
data_of_a_quadrangle = refl

-- ---- contents without a mesh

refused_contents : map (λ lines. mesh (with_elements lines))
    (codes "1\n1 1 2 0 1 1 2\n$EndElements\n" ∷ codes "0\n$EndElements\n" ∷ codes "1\n1 15 0 4\n$EndElements\n" ∷ codes "4\n5 2 0 1 2 3\n8 3 0 1 2 3 4\n7 3 0 4 3 2 1\n6 3 0 1 3 2 4\n$EndElements\n" ∷ [])
    ≡ Some (Err (NoCells 1)) ∷ Some (Err (NoCells 0)) ∷ Some (Err (NoCells 0)) ∷ Some (Err (CellTwist 6 8)) ∷ []
unfolding line_number lines_from lines_of is_indent name_of tokens_on items_on items_of ahead quoted_on uint_of int_of decimal_of scaled fixed_value fixed_of lexeme_of format name names node nodes_after nodes element elements row section section_of blocks_of misplaced unfinished with_section with_block said content sorted rotations reflections orientations corners_under act relative sights_of contains kept greatest_dim vertex_nodes cell_elements cells_of marks_of loose_elements section_on row_values mesh_of twist accepted
refused_contents = refl
