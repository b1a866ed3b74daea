-- Worked rows: forms that a mesh file may take, and the first of several faults.
use Rattle.std.proofs.Common.{◌≡◌, ℕ, true, false, List, [], ◌∷◌, ◌++◌, map, pos, negsuc, Some, None, Ok, Err, refl}
use Rattle.std.specs.Prelude.{Result, codes, replicate, flat_map}
use Rattle.input_defs.specs.line_defs.Rows.{lines_of}
use Rattle.input_defs.specs.Content.{Content}
use Rattle.mesh_defs.specs.Mesh.{Section}
use Rattle.mesh_defs.specs.declared.Place.TheVariants as place
use Rattle.input_defs.specs.scan_defs.Lines.{line_number, lines_from, is_indent}
use Rattle.input_defs.specs.scan_defs.Items.{name_of, tokens_on, items_on, items_of, ahead}
use Rattle.input_defs.specs.scan_defs.Quotes.{quoted_on}
use Rattle.input_defs.specs.scan_defs.Numbers.{uint_of, int_of, decimal_of, scaled, fixed_value, fixed_of}
use Rattle.input_defs.specs.declared.What.TheVariants as what
use Rattle.input_defs.specs.declared.MshFault.{MshFault}
use Rattle.input_defs.specs.declared.MshFault.TheVariants.{NotMsh, Version, Header, BadNumber, BadCount, BadName, Unclosed, RepeatedSection, MissingSection, RepeatedNodeNumber, ElementType, UnknownNode, RepeatedNode, Components, UnknownNumber, OutOfRange, TooMany}
use Rattle.input_defs.specs.Bodies.{lexeme_of}
use Rattle.input_defs.specs.Sections.{format, name, names, node, nodes_after, nodes, element, elements}
use Rattle.input_defs.specs.DataSections.{row, section, section_of}
use Rattle.input_defs.specs.Files.{blocks_of, misplaced, unfinished, with_section, with_block, said, content}
use Rattle.input_defs.proofs.MshRows.{fault, one_triangle}

abbrev plain_lines : List ℕ
plain_lines = codes "$MeshFormat\n2.2 0 8\n$EndMeshFormat\n$Nodes\n3\n1 0 0 0\n2 1 0 0\n3 0 1 0\n$EndNodes\n"

-- ---- tabs, CR LF, text outside sections, an unknown section with header lines in it, blank lines in a body, no LF at the end

abbrev spread_out : List ℕ
spread_out = codes "a comment\r\n\t$MeshFormat \r\n2.200000000001\t0 8\r\n$EndMeshFormat\r\nanother one\r\n$Comments\r\n$Nodes\r\n$EndNodes\r\n$EndComments\r\n$Nodes\r\n\r\n3\r\n7 0 0 0 5\r\n\r\n1 0\r\n0\r\n03\t0 1 0\r\n$EndNodes\r\n$Elements\r\n1\r\n \r\n9 2 0\r\n3 5 7\r\n$EndElements"

spread_out_content : content spread_out ≡ Ok (record {
  nodes = record { number = 7; at = pos 0 ∷ pos 0 ∷ pos 0 ∷ [] } ∷ record { number = 5; at = pos 10000000000 ∷ pos 0 ∷ pos 0 ∷ [] } ∷ record { number = 3; at = pos 0 ∷ pos 10000000000 ∷ pos 0 ∷ [] } ∷ [];
  elements = record { number = 9; kind = 2; physical = pos 0; nodes = 3 ∷ 5 ∷ 7 ∷ [] } ∷ [];
  names = [];
  fields = [];
})
unfolding line_number lines_from lines_of is_indent name_of tokens_on items_on items_of ahead quoted_on uint_of int_of decimal_of scaled fixed_value fixed_of lexeme_of format name names node nodes_after nodes element elements row section section_of blocks_of misplaced unfinished with_section with_block said content
spread_out_content = refl

-- ---- header lines: the first fault and its line

refused_headers : map fault
    (codes "$Nodes\n" ∷ codes "\n$EndMeshFormat\n" ∷ codes "$\n" ∷ codes "$Other\n" ∷ codes "$MeshFormat\n2.2 0 8\n$EndNodes\n" ∷ codes "$MeshFormat\n2.2 0\n$Nodes\n" ∷ codes "$MeshFormat\n2.2 0\n$EndMeshFormat\n"
    ∷ codes "$MeshFormat\n2.2 0 8\n9\n$Nodes\n" ∷ codes "$MeshFormat\n2.2 0 8\n$EndMeshFormat\n$MeshFormat\n" ∷ codes "$MeshFormat\n2.2 0 8\n$EndMeshFormat\n$ElementData\n" ∷ codes "$MeshFormat\n2.2 0 8\n$EndMeshFormat\n$ Nodes\n$Nodes\n"
    ∷ (plain_lines ++ codes "$ElementData") ∷ (plain_lines ++ codes "$Nodes") ∷ (one_triangle ++ codes "$NodeData\n$NodeData") ∷ (one_triangle ++ codes "$Else\n$EndElse\n$End") ∷ [])
    ≡ Some (NotMsh 1) ∷ Some (Header 2) ∷ Some (Header 1) ∷ Some (Unclosed 2) ∷ Some (Unclosed 3) ∷ Some (Unclosed 3) ∷ Some (BadCount 3)
    ∷ Some (BadCount 3) ∷ Some (RepeatedSection 4) ∷ Some (MissingSection 4 false) ∷ Some (Unclosed 6)
    ∷ Some (MissingSection 10 false) ∷ Some (RepeatedSection 10) ∷ Some (Unclosed 15) ∷ Some (Header 16) ∷ []
unfolding line_number lines_from lines_of is_indent name_of tokens_on items_on items_of ahead quoted_on uint_of int_of decimal_of scaled fixed_value fixed_of lexeme_of format name names node nodes_after nodes element elements row section section_of blocks_of misplaced unfinished with_section with_block said content
refused_headers = refl

-- ---- numbers and counts

abbrev with_format : List ℕ → List ℕ
with_format line = codes "$MeshFormat\n" ++ line ++ codes "\n$EndMeshFormat\n"

abbrev with_nodes : List ℕ → List ℕ
with_nodes lines = codes "$MeshFormat\n2.2 0 8\n$EndMeshFormat\n$Nodes\n" ++ lines ++ codes "\n$EndNodes\n"

abbrev with_elements : List ℕ → List ℕ
with_elements lines = plain_lines ++ codes "$Elements\n" ++ lines ++ codes "\n$EndElements\n"

refused_formats : map (λ line. fault (with_format line)) (codes "2.2000000001 0 8" ∷ codes "1e9 0 8" ∷ codes "2,2 0 8" ∷ codes "2.2 -0 8" ∷ codes "2.2 0 4294967296" ∷ codes "2.2 0 7 8" ∷ codes "+22e-1 00 0" ∷ [])
    ≡ Some (Version 2) ∷ Some (OutOfRange 2) ∷ Some (BadNumber 2) ∷ Some (BadNumber 2) ∷ Some (OutOfRange 2) ∷ Some (BadCount 2) ∷ Some (MissingSection 4 true) ∷ []
unfolding line_number lines_from lines_of is_indent name_of tokens_on items_on items_of ahead quoted_on uint_of int_of decimal_of scaled fixed_value fixed_of lexeme_of format name names node nodes_after nodes element elements row section section_of blocks_of misplaced unfinished with_section with_block said content
refused_formats = refl

refused_nodes : map (λ lines. fault (with_nodes lines)) (codes "-1" ∷ codes "+3" ∷ codes "500001" ∷ codes "500000" ∷ codes "1\n0 0 0 0" ∷ codes "1\n1 0 0" ∷ codes "1\n1 0 0 0 x" ∷ codes "2\n1 0 0 0\n1 x" ∷ codes "" ∷ [])
    ≡ Some (BadNumber 5) ∷ Some (BadNumber 5) ∷ Some (TooMany 5 what.Nodes) ∷ Some (BadCount 6) ∷ Some (OutOfRange 6) ∷ Some (BadCount 7) ∷ Some (BadCount 6) ∷ Some (RepeatedNodeNumber 7 1) ∷ Some (BadCount 6) ∷ []
unfolding line_number lines_from lines_of is_indent name_of tokens_on items_on items_of ahead quoted_on uint_of int_of decimal_of scaled fixed_value fixed_of lexeme_of format name names node nodes_after nodes element elements row section section_of blocks_of misplaced unfinished with_section with_block said content
refused_nodes = refl

refused_elements : map (λ lines. fault (with_elements lines))
    (codes "1000001" ∷ codes "1\n1 2 0 1 2 0" ∷ codes "1\n1 15 0 4" ∷ codes "1\n1 9 0 1" ∷ codes "1\n1 2 1 x" ∷ codes "1\n1 2 -1" ∷ codes "1\n1 2 2 3 2147483648" ∷ codes "1\n1 2 0\n1 2 3\n3" ∷ codes "1\n1 1 0 1 1" ∷ [])
    ≡ Some (TooMany 11 what.Elements) ∷ Some (UnknownNode 12 0) ∷ Some (UnknownNode 12 4) ∷ Some (ElementType 12 9) ∷ Some (BadNumber 12) ∷ Some (BadNumber 12) ∷ Some (OutOfRange 12) ∷ Some (BadCount 14) ∷ Some (RepeatedNode 12 1) ∷ []
unfolding line_number lines_from lines_of is_indent name_of tokens_on items_on items_of ahead quoted_on uint_of int_of decimal_of scaled fixed_value fixed_of lexeme_of format name names node nodes_after nodes element elements row section section_of blocks_of misplaced unfinished with_section with_block said content
refused_elements = refl

-- ---- physical names

abbrev with_names : List ℕ → List ℕ
with_names lines = codes "$MeshFormat\n2.2 0 8\n$EndMeshFormat\n$PhysicalNames\n" ++ lines ++ codes "\n$EndPhysicalNames\n"

refused_names : map (λ lines. fault (with_names lines))
    (codes "1025" ∷ codes "1\n1 -3 \"a\" b" ∷ codes "1\n1 -3\n\n a" ∷ codes "1\n1 -3" ∷ codes "1\n1 -3 \"" ∷ codes "1\n1 -3 \"a\"\n4" ∷ codes "2\n1 -3\n\"a\"\n9 2147483647\t\"b \"\"\r" ∷ [])
    ≡ Some (TooMany 5 what.Names) ∷ Some (BadName 6) ∷ Some (BadName 8) ∷ Some (BadCount 7) ∷ Some (BadName 6) ∷ Some (BadCount 7) ∷ Some (MissingSection 10 true) ∷ []
unfolding line_number lines_from lines_of is_indent name_of tokens_on items_on items_of ahead quoted_on uint_of int_of decimal_of scaled fixed_value fixed_of lexeme_of format name names node nodes_after nodes element elements row section section_of blocks_of misplaced unfinished with_section with_block said content
refused_names = refl

-- ---- data sections

abbrev with_data : List ℕ → List ℕ
with_data lines = one_triangle ++ codes "$ElementData\n" ++ lines ++ codes "\n$EndElementData\n"

refused_data : map (λ lines. fault (with_data lines))
    (codes "1 a" ∷ codes "1 \"a\"\n1 e5" ∷ codes "0 0 2" ∷ codes "0 0 3\n0 2 1" ∷ codes "0 0 3\n0 -1 1" ∷ codes "0 0 3\n0 1 -1" ∷ codes "0 0 3\n0 1 1\n2 0" ∷ codes "0 0 3\n0 3 1\n1 0 0" ∷ codes "0 0 4\n0 1 0\n99999999999" ∷ codes "0 0 3\n0 1 0\n1" ∷ codes "0 1 1e999 3\n-7 9 0" ∷ [])
    ≡ Some (BadName 15) ∷ Some (BadNumber 16) ∷ Some (BadCount 15) ∷ Some (Components 16 2) ∷ Some (Components 16 0) ∷ Some (BadCount 16) ∷ Some (UnknownNumber 17 2) ∷ Some (BadCount 18) ∷ Some (OutOfRange 17) ∷ Some (BadCount 17) ∷ None ∷ []
unfolding line_number lines_from lines_of is_indent name_of tokens_on items_on items_of ahead quoted_on uint_of int_of decimal_of scaled fixed_value fixed_of lexeme_of format name names node nodes_after nodes element elements row section section_of blocks_of misplaced unfinished with_section with_block said content
refused_data = refl

-- the seventeenth data section
refused_seventeenth : fault (one_triangle ++ flat_map {X = ℕ} (λ k. codes "$NodeData\n0 0 3 0 1 0\n$EndNodeData\n") (replicate 17 0)) ≡ Some (TooMany 62 what.Fields)
unfolding line_number lines_from lines_of is_indent name_of tokens_on items_on items_of ahead quoted_on uint_of int_of decimal_of scaled fixed_value fixed_of lexeme_of format name names node nodes_after nodes element elements row section section_of blocks_of misplaced unfinished with_section with_block said content
refused_seventeenth = refl

-- ---- a data section after the elements: the first tag of a text, real tags of any value, rows

abbrev warm : List ℕ
warm = one_triangle ++ codes "$NodeData\n1\n\"temp\"\n1\n0.0\n3\n0\n1\n2\n1 20.5\n3 -4\n$EndNodeData\n"

abbrev fields_of : Result Content MshFault → List Section
fields_of (Ok c) = c.fields
fields_of (Err e) = []

warm_fields : fields_of (content warm) ≡ record { on = place.Node; name = codes "temp"; comps = 1; rows = record { number = 1; values = pos 205000000000 ∷ [] } ∷ record { number = 3; values = negsuc 39999999999 ∷ [] } ∷ [] } ∷ []
unfolding line_number lines_from lines_of is_indent name_of tokens_on items_on items_of ahead quoted_on uint_of int_of decimal_of scaled fixed_value fixed_of lexeme_of format name names node nodes_after nodes element elements row section section_of blocks_of misplaced unfinished with_section with_block said content
warm_fields = refl
