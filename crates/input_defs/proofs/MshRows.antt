-- Worked rows: the content of small mesh files, and the first faults of files that are not right.
use Rattle.std.proofs.Common.{◌≡◌, ℕ, true, false, List, [], ◌∷◌, ◌++◌, map, pos, Option, Some, Ok, refl}
use Rattle.std.specs.Prelude.{codes}
use Rattle.std.specs.Result.{result_err}
use Rattle.input_defs.specs.line_defs.Rows.{lines_of}
use Rattle.input_defs.specs.scan_defs.Lines.{line_number, lines_from, is_indent}
use Rattle.input_defs.specs.scan_defs.Items.{name_of, tokens_on, items_on, items_of, ahead}
use Rattle.input_defs.specs.scan_defs.Quotes.{quoted_on}
use Rattle.input_defs.specs.scan_defs.Numbers.{uint_of, int_of, decimal_of, scaled, fixed_value, fixed_of}
use Rattle.input_defs.specs.declared.MshFault.{MshFault}
use Rattle.input_defs.specs.declared.MshFault.TheVariants.{NotMsh, Version, Binary, BadNumber, BadCount, Unclosed, MissingSection, RepeatedNodeNumber, ElementType, UnknownNode, RepeatedNode, OutOfRange}
use Rattle.input_defs.specs.Bodies.{lexeme_of}
use Rattle.input_defs.specs.Sections.{format, name, names, node, nodes_after, nodes, element, elements}
use Rattle.input_defs.specs.DataSections.{row, section, section_of}
use Rattle.input_defs.specs.Files.{blocks_of, misplaced, unfinished, with_section, with_block, said, content}

abbrev pub fault : List ℕ → Option MshFault
fault bytes = result_err (content bytes)

-- ---- one triangle, line by line

abbrev format_lines : List ℕ
format_lines = codes "$MeshFormat\n2.2 0 8\n$EndMeshFormat\n"

abbrev node_lines : List ℕ
node_lines = codes "$Nodes\n3\n1 0 0 0\n2 1 0 0\n3 0 1 0\n$EndNodes\n"

abbrev element_lines : List ℕ
element_lines = codes "$Elements\n1\n1 2 2 0 1 1 2 3\n$EndElements\n"

-- the file with this line in place of its version, with this and that one in place of its last two nodes, with these lines
-- in place of its elements
abbrev with_version : List ℕ → List ℕ
with_version line = codes "$MeshFormat\n" ++ line ++ codes "\n$EndMeshFormat\n" ++ node_lines ++ element_lines

abbrev with_nodes : List ℕ → List ℕ
with_nodes lines = format_lines ++ codes "$Nodes\n3\n1 0 0 0\n" ++ lines ++ codes "$EndNodes\n" ++ element_lines

abbrev with_elements : List ℕ → List ℕ
with_elements lines = format_lines ++ node_lines ++ codes "$Elements\n" ++ lines

abbrev pub one_triangle : List ℕ
one_triangle = format_lines ++ node_lines ++ element_lines

one_triangle_content : content one_triangle ≡ Ok (record {
  nodes = record { number = 1; at = pos 0 ∷ pos 0 ∷ pos 0 ∷ [] } ∷ record { number = 2; at = pos 10000000000 ∷ pos 0 ∷ pos 0 ∷ [] } ∷ record { number = 3; at = pos 0 ∷ pos 10000000000 ∷ pos 0 ∷ [] } ∷ [];
  elements = record { number = 1; kind = 2; physical = pos 0; nodes = 1 ∷ 2 ∷ 3 ∷ [] } ∷ [];
  names = [];
  fields = [];
})
unfolding line_number lines_from lines_of is_indent name_of tokens_on items_on items_of ahead quoted_on uint_of int_of decimal_of scaled fixed_value fixed_of lexeme_of format name names node nodes_after nodes element elements row section section_of blocks_of misplaced unfinished with_section with_block said content
one_triangle_content = refl

-- ---- the file of one triangle with one change each

refused_versions : map (λ line. fault (with_version line)) (codes "2.2 1 8" ∷ codes "4.1 0 8" ∷ []) ≡ Some (Binary 2) ∷ Some (Version 2) ∷ []
unfolding line_number lines_from lines_of is_indent name_of tokens_on items_on items_of ahead quoted_on uint_of int_of decimal_of scaled fixed_value fixed_of lexeme_of format name names node nodes_after nodes element elements row section section_of blocks_of misplaced unfinished with_section with_block said content
refused_versions = refl

refused_nodes : map (λ lines. fault (with_nodes lines))
    (codes "2 900000001 0 0\n3 0 1 0\n" ∷ codes "2 x 0 0\n3 0 1 0\n" ∷ codes "2 1 0 0\n2 0 1 0\n" ∷ [])
    ≡ Some (OutOfRange 7) ∷ Some (BadNumber 7) ∷ Some (RepeatedNodeNumber 8 2) ∷ []
unfolding line_number lines_from lines_of is_indent name_of tokens_on items_on items_of ahead quoted_on uint_of int_of decimal_of scaled fixed_value fixed_of lexeme_of format name names node nodes_after nodes element elements row section section_of blocks_of misplaced unfinished with_section with_block said content
refused_nodes = refl

refused_elements : map (λ lines. fault (with_elements lines))
    (codes "1\n1 8 2 0 1 1 2 3\n$EndElements\n"
    ∷ codes "1\n1 2 2 0 1 1 2 4\n$EndElements\n"
    ∷ codes "1\n1 2 2 0 1 1 2 2\n$EndElements\n"
    ∷ codes "1\n1 2 2 0 1 1 2 3\n"
    ∷ codes "2\n1 2 2 0 1 1 2 3\n$EndElements\n"
    ∷ [])
    ≡ Some (ElementType 12 8) ∷ Some (UnknownNode 12 4) ∷ Some (RepeatedNode 12 2) ∷ Some (Unclosed 13) ∷ Some (BadCount 13) ∷ []
unfolding line_number lines_from lines_of is_indent name_of tokens_on items_on items_of ahead quoted_on uint_of int_of decimal_of scaled fixed_value fixed_of lexeme_of format name names node nodes_after nodes element elements row section section_of blocks_of misplaced unfinished with_section with_block said content
refused_elements = refl

-- without its elements, without its nodes, empty
refused_without : map fault ((format_lines ++ node_lines) ∷ (format_lines ++ element_lines) ∷ [] ∷ []) ≡ Some (MissingSection 10 false) ∷ Some (MissingSection 4 true) ∷ Some (NotMsh 1) ∷ []
unfolding line_number lines_from lines_of is_indent name_of tokens_on items_on items_of ahead quoted_on uint_of int_of decimal_of scaled fixed_value fixed_of lexeme_of format name names node nodes_after nodes element elements row section section_of blocks_of misplaced unfinished with_section with_block said content
refused_without = refl
