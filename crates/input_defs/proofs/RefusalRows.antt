-- Worked rows: the refusal of words, plan bytes and mesh bytes, with its status and its line.
use Rattle.std.proofs.Common.{◌≡◌, ℕ, true, List, [], ◌∷◌, ◌++◌, map, Option, Some, None, Err, refl}
use Rattle.std.specs.Prelude.{codes}
use Rattle.input_defs.specs.line_defs.Rows.{lines_of, tokens_of}
use Rattle.input_defs.specs.scan_defs.Lines.{line_number, lines_from, is_indent}
use Rattle.input_defs.specs.scan_defs.Items.{name_of, tokens_on, items_on, items_of, ahead}
use Rattle.input_defs.specs.scan_defs.Quotes.{quoted_on}
use Rattle.input_defs.specs.scan_defs.Numbers.{uint_of, int_of, decimal_of, scaled, fixed_value, fixed_of}
use Rattle.plex_defs.specs.Fields.{row_values}
use Rattle.input_defs.specs.Bodies.{lexeme_of}
use Rattle.input_defs.specs.Sections.{format, name, names, node, nodes_after, nodes, element, elements}
use Rattle.input_defs.specs.DataSections.{row, section, section_of}
use Rattle.input_defs.specs.Files.{blocks_of, misplaced, unfinished, with_section, with_block, said, content}
use Rattle.plain_lists.specs.Lists.{sorted, same_list}
use Rattle.mesh_defs.specs.Orientation.{rotations, reflections, orientations, corners_under, act, relative}
use Rattle.mesh_defs.specs.Points.{sights_of, first_sight, arrangement, contains}
use Rattle.mesh_defs.specs.Diagram.{seen_under, twist_key}
use Rattle.input_defs.specs.Meshes.{kept, greatest_dim, vertex_nodes, cell_elements, cells_of, marks_of, loose_elements, section_on, mesh_of, twist, accepted}
use Rattle.input_defs.specs.Plans.{form_of, with_form, plan_from, plan_of, rank_by, misfits, misfit}
use Rattle.input_defs.specs.Words.{made_of, with_word, request_from, request, plan_name, mesh_name}
use Rattle.input_defs.specs.Generated.{grid_points, grid_cells, corners_at, cells_at, made}
use Rattle.std.specs.Prelude.{find, option_map, option_and_then, replicate, nat_lt, length}
use Rattle.std.specs.Fmt.{digits}
use Rattle.input_defs.specs.text_defs.Text.{line}
use Rattle.input_defs.specs.text_defs.Refusals.{most_bytes, words_refused, read_refused, too_long_refused}
use Rattle.input_defs.specs.declared.Status.{Status}
use Rattle.input_defs.specs.declared.Status.TheVariants as status
use Rattle.input_defs.specs.declared.What.TheVariants as what
use Rattle.input_defs.specs.declared.MshFault.TheVariants as msh
use Rattle.input_defs.specs.declared.MeshFault.TheVariants as mesh
use Rattle.input_defs.specs.declared.PlanFault.TheVariants as plan
use Rattle.std.proofs.lemmas.Bool.{cond-true}
use Rattle.input_defs.specs.Refused.{Refusal, short_file, msh_text, mesh_text, plan_text, twist_refused, msh_refused, mesh_refused, plan_refused, task_by, task, refusal}

-- the bytes under a name
abbrev pub files : List (List ℕ × List ℕ) → List ℕ → Option (List ℕ)
files there name = option_map (λ (entry : List ℕ × List ℕ). entry.1) (find (λ entry. same_list entry.0 name) there)

-- the refusal of words, where these files are there
abbrev pub refused_by : List (List ℕ) → (List ℕ → Option (List ℕ)) → Option Refusal
refused_by words file = refusal words (option_and_then file (plan_name words)) (option_and_then file (mesh_name words))

abbrev pub refused : Status → List ℕ → Option Refusal
refused status text = Some (record { status = status; text = line (codes "refused: " ++ text) })

-- ---- mesh files

abbrev of_mesh : List ℕ → Option Refusal
of_mesh bytes = refused_by (codes "m" ∷ []) (files ((codes "m", bytes) ∷ []))

refused_meshes : map of_mesh
    (codes "$MeshFormat\n2.2 0 8\n$EndMeshFormat\n$Nodes\n3\n1 0 0 0\n2 1 0 0\n3 0 1 0\n$EndNodes\n$Elements\n1\n1 8 2 0 1 1 2 3\n$EndElements\n"
    ∷ codes "$MeshFormat\n2.2 0 8\n$EndMeshFormat\n$Nodes\n3\n1 0 0 0\n2 1 0 0\n3 0 1 0\n$EndNodes\n$Elements\n1\n1 2 2 0 1 1 2 4\n$EndElements\n"
    ∷ codes "$MeshFormat\n2.2 0 8\n$EndMeshFormat\n$Nodes\n3\n1 0 0 0\n2 1 0 0\n3 0 1 0\n$EndNodes\n$Elements\n1\n1 2 2 0 1 1 2 2\n$EndElements\n"
    ∷ codes "$MeshFormat\n2.2 0 8\n$EndMeshFormat\n$Nodes\n3\n1 0 0 0\n2 1 0 0\n3 0 1 0\n$EndNodes\n$Elements\n1\n1 2 2 0 1 1 2 3\n"
    ∷ codes "$MeshFormat\n2.2 0 8\n$EndMeshFormat\n$Nodes\n3\n1 0 0 0\n2 1 0 0\n3 0 1 0\n$EndNodes\n$Elements\n2\n1 2 2 0 1 1 2 3\n$EndElements\n"
    ∷ [])
    ≡ refused status.Mesh (codes "mesh line 12 element type 8")
    ∷ refused status.Mesh (codes "mesh line 12 unknown node 4")
    ∷ refused status.Mesh (codes "mesh line 12 repeated node 2")
    ∷ refused status.Mesh (codes "mesh line 13 unclosed")
    ∷ refused status.Mesh (codes "mesh line 13 bad count")
    ∷ []
unfolding line_number lines_from lines_of is_indent name_of tokens_on items_on items_of ahead quoted_on uint_of int_of decimal_of scaled fixed_value fixed_of lexeme_of format name names node nodes_after nodes element elements row section section_of blocks_of misplaced unfinished with_section with_block said content sorted rotations reflections orientations corners_under act relative sights_of first_sight arrangement contains seen_under twist_key kept greatest_dim vertex_nodes cell_elements cells_of marks_of loose_elements section_on row_values mesh_of twist accepted tokens_of form_of with_form plan_from plan_of rank_by misfits misfit made_of with_word request_from request grid_points grid_cells corners_at cells_at made digits words_refused read_refused too_long_refused msh_text mesh_text plan_text twist_refused task_by task
refused_meshes = refl

more_refused_meshes : map of_mesh
    (codes "$MeshFormat\n2.2 1 8\n$EndMeshFormat\n$Nodes\n3\n1 0 0 0\n2 1 0 0\n3 0 1 0\n$EndNodes\n$Elements\n1\n1 2 2 0 1 1 2 3\n$EndElements\n"
    ∷ codes "$MeshFormat\n4.1 0 8\n$EndMeshFormat\n$Nodes\n3\n1 0 0 0\n2 1 0 0\n3 0 1 0\n$EndNodes\n$Elements\n1\n1 2 2 0 1 1 2 3\n$EndElements\n"
    ∷ codes "$MeshFormat\n2.2 0 8\n$EndMeshFormat\n$Nodes\n3\n1 0 0 0\n2 900000001 0 0\n3 0 1 0\n$EndNodes\n$Elements\n1\n1 2 2 0 1 1 2 3\n$EndElements\n"
    ∷ codes "$MeshFormat\n2.2 0 8\n$EndMeshFormat\n$Nodes\n3\n1 0 0 0\n2 x 0 0\n3 0 1 0\n$EndNodes\n$Elements\n1\n1 2 2 0 1 1 2 3\n$EndElements\n"
    ∷ codes "$MeshFormat\n2.2 0 8\n$EndMeshFormat\n$Nodes\n3\n1 0 0 0\n2 1 0 0\n2 0 1 0\n$EndNodes\n$Elements\n1\n1 2 2 0 1 1 2 3\n$EndElements\n"
    ∷ [])
    ≡ refused status.Mesh (codes "mesh line 2 binary")
    ∷ refused status.Mesh (codes "mesh line 2 version")
    ∷ refused status.Mesh (codes "mesh line 7 out of range")
    ∷ refused status.Mesh (codes "mesh line 7 bad number")
    ∷ refused status.Mesh (codes "mesh line 8 repeated node number 2")
    ∷ []
unfolding line_number lines_from lines_of is_indent name_of tokens_on items_on items_of ahead quoted_on uint_of int_of decimal_of scaled fixed_value fixed_of lexeme_of format name names node nodes_after nodes element elements row section section_of blocks_of misplaced unfinished with_section with_block said content sorted rotations reflections orientations corners_under act relative sights_of first_sight arrangement contains seen_under twist_key kept greatest_dim vertex_nodes cell_elements cells_of marks_of loose_elements section_on row_values mesh_of twist accepted tokens_of form_of with_form plan_from plan_of rank_by misfits misfit made_of with_word request_from request grid_points grid_cells corners_at cells_at made digits words_refused read_refused too_long_refused msh_text mesh_text plan_text twist_refused task_by task
more_refused_meshes = refl

refused_short_meshes : map of_mesh
    (codes "$MeshFormat\n2.2 0 8\n$EndMeshFormat\n$Nodes\n3\n1 0 0 0\n2 1 0 0\n3 0 1 0\n$EndNodes\n"
    ∷ codes "$MeshFormat\n2.2 0 8\n$EndMeshFormat\n$Elements\n1\n1 2 2 0 1 1 2 3\n$EndElements\n"
    ∷ codes "$MeshFormat\n2.2 0 8\n$EndMeshFormat\n$Nodes\n3\n1 0 0 0\n2 1 0 0\n3 0 1 0\n$EndNodes\n$Elements\n1\n1 1 2 0 1 1 2\n$EndElements\n"
    ∷ []
    ∷ [])
    ≡ refused status.Mesh (codes "mesh line 10 missing section Elements")
    ∷ refused status.Mesh (codes "mesh line 4 missing section Nodes")
    ∷ refused status.Mesh (codes "mesh no cells 1")
    ∷ refused status.Mesh (codes "mesh line 1 not msh")
    ∷ []
unfolding line_number lines_from lines_of is_indent name_of tokens_on items_on items_of ahead quoted_on uint_of int_of decimal_of scaled fixed_value fixed_of lexeme_of format name names node nodes_after nodes element elements row section section_of blocks_of misplaced unfinished with_section with_block said content sorted rotations reflections orientations corners_under act relative sights_of first_sight arrangement contains seen_under twist_key kept greatest_dim vertex_nodes cell_elements cells_of marks_of loose_elements section_on row_values mesh_of twist accepted tokens_of form_of with_form plan_from plan_of rank_by misfits misfit made_of with_word request_from request grid_points grid_cells corners_at cells_at made digits words_refused read_refused too_long_refused msh_text mesh_text plan_text twist_refused task_by task
refused_short_meshes = refl

-- the second of two hexahedra sees their common face twisted
abbrev twisted : List ℕ
twisted = codes "$MeshFormat\n2.2 0 8\n$EndMeshFormat\n$Nodes\n12\n1 0 0 0\n2 1 0 0\n3 1 1 0\n4 0 1 0\n5 0 0 1\n6 1 0 1\n7 1 1 1\n8 0 1 1\n9 0 0 2\n10 1 0 2\n11 1 1 2\n12 0 1 2\n$EndNodes\n$Elements\n2\n1 5 2 0 1 1 2 3 4 5 6 7 8\n2 5 2 0 1 5 7 6 8 9 10 11 12\n$EndElements\n"

refused_twist : of_mesh twisted ≡ refused status.Mesh (codes "twist cell 1 face 0")
unfolding line_number lines_from lines_of is_indent name_of tokens_on items_on items_of ahead quoted_on uint_of int_of decimal_of scaled fixed_value fixed_of lexeme_of format name names node nodes_after nodes element elements row section section_of blocks_of misplaced unfinished with_section with_block said content sorted rotations reflections orientations corners_under act relative sights_of first_sight arrangement contains seen_under twist_key kept greatest_dim vertex_nodes cell_elements cells_of marks_of loose_elements section_on row_values mesh_of twist accepted tokens_of form_of with_form plan_from plan_of rank_by misfits misfit made_of with_word request_from request grid_points grid_cells corners_at cells_at made digits words_refused read_refused too_long_refused msh_text mesh_text plan_text twist_refused task_by task
refused_twist = refl

-- ---- plans, with a mesh of two cells

abbrev pub two_triangles : List ℕ
two_triangles = codes "$MeshFormat\n2.2 0 8\n$EndMeshFormat\n$Nodes\n4\n1 0 0 0\n2 1 0 0\n3 0 1 0\n4 1 1 0\n$EndNodes\n$Elements\n2\n1 2 2 0 1 1 2 3\n2 2 2 0 1 2 4 3\n$EndElements\n"

abbrev of_plan : List ℕ → Option Refusal
of_plan bytes = refused_by (codes "--plan" ∷ codes "p" ∷ codes "T2" ∷ []) (files ((codes "T2", two_triangles) ∷ (codes "p", bytes) ∷ []))

refused_plans : map of_plan
    (codes "ranks 0\npart block\n"
    ∷ codes "ranks 65\npart block\n"
    ∷ codes "ranks 2\npart 0\n"
    ∷ codes "ranks 2\npart 0 2\n"
    ∷ codes "ranks 1\npart block\noverlap 5\n"
    ∷ codes "ranks 1\n"
    ∷ codes "ranks 1\nparts block\n"
    ∷ [])
    ≡ refused status.Plan (codes "plan line 1 ranks 0")
    ∷ refused status.Plan (codes "plan line 1 ranks 65")
    ∷ refused status.Plan (codes "plan line 2 part length 1 want 2")
    ∷ refused status.Plan (codes "plan line 2 part rank 2")
    ∷ refused status.Plan (codes "plan line 3 overlap 5")
    ∷ refused status.Plan (codes "plan line 2 no part")
    ∷ refused status.Plan (codes "plan line 2 word")
    ∷ []
unfolding line_number lines_from lines_of is_indent name_of tokens_on items_on items_of ahead quoted_on uint_of int_of decimal_of scaled fixed_value fixed_of lexeme_of format name names node nodes_after nodes element elements row section section_of blocks_of misplaced unfinished with_section with_block said content sorted rotations reflections orientations corners_under act relative sights_of first_sight arrangement contains seen_under twist_key kept greatest_dim vertex_nodes cell_elements cells_of marks_of loose_elements section_on row_values mesh_of twist accepted tokens_of form_of with_form plan_from plan_of rank_by misfits misfit made_of with_word request_from request grid_points grid_cells corners_at cells_at made digits words_refused read_refused too_long_refused msh_text mesh_text plan_text twist_refused task_by task
refused_plans = refl

accepted_plan : of_plan (codes "ranks 2\npart 0 1\noverlap 1\n") ≡ None
unfolding line_number lines_from lines_of is_indent name_of tokens_on items_on items_of ahead quoted_on uint_of int_of decimal_of scaled fixed_value fixed_of lexeme_of format name names node nodes_after nodes element elements row section section_of blocks_of misplaced unfinished with_section with_block said content sorted rotations reflections orientations corners_under act relative sights_of first_sight arrangement contains seen_under twist_key kept greatest_dim vertex_nodes cell_elements cells_of marks_of loose_elements section_on row_values mesh_of twist accepted tokens_of form_of with_form plan_from plan_of rank_by misfits misfit made_of with_word request_from request grid_points grid_cells corners_at cells_at made digits words_refused read_refused too_long_refused msh_text mesh_text plan_text twist_refused task_by task
accepted_plan = refl

-- ---- words

abbrev of_words : List (List ℕ) → Option Refusal
of_words words = refused_by words (files ((codes "T1", []) ∷ []))

refused_words : map of_words
    ([] ∷ (codes "--make" ∷ codes "hex:63" ∷ []) ∷ (codes "--plan" ∷ codes "p" ∷ codes "--plan" ∷ codes "q" ∷ codes "T1" ∷ []) ∷ (codes "--make" ∷ codes "tri:1" ∷ codes "T1" ∷ []) ∷ (codes "--make" ∷ codes "tri:01" ∷ []) ∷ [])
    ≡ replicate 5 (refused status.Words (codes "words"))
unfolding line_number lines_from lines_of is_indent name_of tokens_on items_on items_of ahead quoted_on uint_of int_of decimal_of scaled fixed_value fixed_of lexeme_of format name names node nodes_after nodes element elements row section section_of blocks_of misplaced unfinished with_section with_block said content sorted rotations reflections orientations corners_under act relative sights_of first_sight arrangement contains seen_under twist_key kept greatest_dim vertex_nodes cell_elements cells_of marks_of loose_elements section_on row_values mesh_of twist accepted tokens_of form_of with_form plan_from plan_of rank_by misfits misfit made_of with_word request_from request grid_points grid_cells corners_at cells_at made digits words_refused read_refused too_long_refused msh_text mesh_text plan_text twist_refused task_by task
refused_words = refl

-- ---- the order of causes

-- Words come before files; the plan file before the mesh file; both before the plan's fault; that one before the mesh's
-- faults; and these before the plan's fit. A made mesh has no file.
abbrev first_of : List (List ℕ) → List (List ℕ × List ℕ) → Option Refusal
first_of words there = refused_by words (files there)

abbrev pub with_plan : List (List ℕ)
with_plan = codes "--plan" ∷ codes "p" ∷ codes "m" ∷ []

order_of_causes : (first_of (codes "--plan" ∷ codes "p" ∷ []) [] ≡ refused status.Words (codes "words"))
    × (first_of with_plan [] ≡ refused status.ReadFault (codes "read p"))
    × (first_of with_plan ((codes "p", codes "x") ∷ []) ≡ refused status.ReadFault (codes "read m"))
    × (first_of with_plan ((codes "p", codes "x") ∷ (codes "m", []) ∷ []) ≡ refused status.Plan (codes "plan line 1 word"))
    × (first_of with_plan ((codes "p", codes "ranks 2\npart 5\n") ∷ (codes "m", []) ∷ []) ≡ refused status.Mesh (codes "mesh line 1 not msh"))
    × (first_of with_plan ((codes "p", codes "ranks 2\npart 5\n") ∷ (codes "m", two_triangles) ∷ []) ≡ refused status.Plan (codes "plan line 2 part length 1 want 2"))
    × (first_of with_plan ((codes "p", codes "ranks 2\npart 5\n") ∷ (codes "m", twisted) ∷ []) ≡ refused status.Plan (codes "plan line 2 part length 1 want 2"))
    × (first_of (codes "--make" ∷ codes "tri:1" ∷ codes "--plan" ∷ codes "p" ∷ []) ((codes "p", codes "ranks 2\npart 0 2\n") ∷ []) ≡ refused status.Plan (codes "plan line 2 part rank 2"))
    × (first_of (codes "--make=tri:1" ∷ []) [] ≡ None)
unfolding line_number lines_from lines_of is_indent name_of tokens_on items_on items_of ahead quoted_on uint_of int_of decimal_of scaled fixed_value fixed_of lexeme_of format name names node nodes_after nodes element elements row section section_of blocks_of misplaced unfinished with_section with_block said content sorted rotations reflections orientations corners_under act relative sights_of first_sight arrangement contains seen_under twist_key kept greatest_dim vertex_nodes cell_elements cells_of marks_of loose_elements section_on row_values mesh_of twist accepted tokens_of form_of with_form plan_from plan_of rank_by misfits misfit made_of with_word request_from request grid_points grid_cells corners_at cells_at made digits words_refused read_refused too_long_refused msh_text mesh_text plan_text twist_refused task_by task
order_of_causes = (refl, refl, refl, refl, refl, refl, refl, refl, refl)

-- ---- a file that is too long

too_long_file : (called bytes : List ℕ) → nat_lt most_bytes (length bytes) ≡ true → short_file called (Some bytes) ≡ Err (record { status = status.TooLong; text = line (codes "refused: too long " ++ called ++ codes " 268435457") })
unfolding too_long_refused
too_long_file called bytes long = cond-true _ _ _ long

-- ---- the other lines

lines_of_mesh_faults : map msh_refused
    (msh.Header 3 ∷ msh.BadName 3 ∷ msh.RepeatedSection 3 ∷ msh.Components 3 2 ∷ msh.UnknownNumber 3 9 ∷ msh.TooMany 3 what.Nodes ∷ msh.TooMany 3 what.Elements ∷ msh.TooMany 3 what.Names ∷ msh.TooMany 3 what.Fields ∷ [])
    ≡ map (λ text. line (codes "refused: mesh line 3 " ++ text))
    (codes "header" ∷ codes "bad name" ∷ codes "repeated section" ∷ codes "components 2" ∷ codes "unknown number 9" ∷ codes "too many nodes" ∷ codes "too many elements" ∷ codes "too many names" ∷ codes "too many fields" ∷ [])
unfolding msh_text digits
lines_of_mesh_faults = refl

lines_of_meshes : map mesh_refused (mesh.NoCells 0 ∷ mesh.TooManyCells ∷ mesh.CellTwist 6 8 ∷ [])
    ≡ map (λ text. line (codes "refused: mesh " ++ text)) (codes "no cells 0" ∷ codes "too many cells" ∷ codes "cell twist 6 8" ∷ [])
unfolding mesh_text digits
lines_of_meshes = refl

lines_of_plan_faults : map plan_refused (plan.Steps 40 ∷ plan.Dofs 40 ∷ plan.Weight 40 250000 17 ∷ plan.NotYet 40 ∷ [])
    ≡ map (λ text. line (codes "refused: plan line 40 " ++ text)) (codes "steps" ∷ codes "dofs" ∷ codes "weight 250000 17" ∷ codes "not yet" ∷ [])
unfolding plan_text digits
lines_of_plan_faults = refl
