-- Worked rows: the first line of a plan that is not built yet, and its place among the refusals.
use Rattle.std.proofs.Common.{◌≡◌, ℕ, List, [], ◌∷◌, map, Option, Some, None, refl}
use Rattle.std.specs.Prelude.{codes, option_and_then}
use Rattle.std.specs.Result.{result_err}
use Rattle.input_defs.specs.line_defs.Rows.{lines_of, tokens_of}
use Rattle.input_defs.specs.scan_defs.Lines.{line_number, lines_from, is_indent}
use Rattle.input_defs.specs.scan_defs.Items.{name_of, tokens_on, items_on, items_of, ahead}
use Rattle.input_defs.specs.scan_defs.Quotes.{quoted_on}
use Rattle.input_defs.specs.scan_defs.Numbers.{uint_of, int_of, decimal_of, scaled, fixed_value, fixed_of}
use Rattle.plex_defs.specs.Fields.{row_values}
use Rattle.input_defs.specs.Bodies.{lexeme_of}
use Rattle.input_defs.specs.Sections.{format, name, names, node, nodes_after, nodes, element, elements}
use Rattle.input_defs.specs.DataSections.{row, section, section_of}
use Rattle.input_defs.specs.Files.{blocks_of, misplaced, unfinished, with_section, with_block, said, content}
use Rattle.plain_lists.specs.Lists.{sorted}
use Rattle.mesh_defs.specs.Orientation.{rotations, reflections, orientations, corners_under, act, relative}
use Rattle.mesh_defs.specs.Points.{sights_of, first_sight, arrangement, contains}
use Rattle.mesh_defs.specs.Diagram.{seen_under, twist_key}
use Rattle.input_defs.specs.Meshes.{kept, greatest_dim, vertex_nodes, cell_elements, cells_of, marks_of, loose_elements, section_on, mesh_of, twist, accepted}
use Rattle.input_defs.specs.Plans.{form_of, with_form, plan_from, plan_of, rank_by, misfits, misfit}
use Rattle.input_defs.specs.Words.{made_of, with_word, request_from, request, plan_name, mesh_name}
use Rattle.input_defs.specs.Generated.{grid_points, grid_cells, corners_at, cells_at, made}
use Rattle.std.specs.Fmt.{digits}
use Rattle.input_defs.specs.text_defs.Refusals.{words_refused, read_refused, too_long_refused}
use Rattle.input_defs.specs.declared.PlanFault.{PlanFault}
use Rattle.input_defs.specs.declared.PlanFault.TheVariants.{Word, NoPart, NotYet}
use Rattle.input_defs.specs.declared.Status.TheVariants as status
use Rattle.input_defs.specs.Refused.{Refusal, msh_text, mesh_text, plan_text, twist_refused, task_by, task}
use Rattle.input_defs.specs.Ahead.{first_ahead, built_plan, built_task}
use Rattle.input_defs.proofs.RefusalRows.{files, refused, two_triangles, with_plan}

-- ---- the first line that is not built

-- a plan's first fault, where a line that is not built is one after all others
abbrev plan_fault : List ℕ → Option PlanFault
plan_fault bytes = result_err (built_plan bytes)

lines_ahead : map plan_fault
    (codes "ranks 1\npart block\npart stripe\npart 0 0\nshow points\n"
    ∷ codes "ranks 2\npart block\n"
    ∷ codes "# ranks 2\n\n ranks 01\r\npart block\noverlap 0\n"
    ∷ codes "show windows\nranks 64\npart stripe\ndofs u 1 0 0 0\nshow local"
    ∷ codes "ranks 2\npart block\nshow trace\npart stripe\n"
    ∷ codes "ranks 3\npart block\noverlap 1\npart stripe\n"
    ∷ [])
    ≡ None ∷ None ∷ Some (NotYet 5) ∷ None ∷ Some (NotYet 4) ∷ Some (NotYet 3) ∷ []
unfolding lines_of tokens_of form_of with_form plan_from plan_of first_ahead
lines_ahead = refl

-- a plan's own first fault stands before a line that is not built, wherever the two are
faults_before_ahead : map plan_fault (codes "ranks 2\npart block\npart block\nparts\n" ∷ codes "ranks 2\npart block\npart block\n" ∷ codes "ranks 1\n" ∷ codes "ranks 1\npart block\n" ∷ [])
    ≡ Some (Word 4) ∷ Some (NotYet 3) ∷ Some (NoPart 2) ∷ None ∷ []
unfolding lines_of tokens_of form_of with_form plan_from plan_of first_ahead
faults_before_ahead = refl

-- ---- its refusal: after words, files that are not there and the plan's own fault, before the mesh's faults and the plan's fit

abbrev built_by : List (List ℕ) → List (List ℕ × List ℕ) → Option Refusal
built_by words there = result_err (built_task words (option_and_then (files there) (plan_name words)) (option_and_then (files there) (mesh_name words)))

order_with_ahead : (built_by (codes "--plan" ∷ codes "p" ∷ []) [] ≡ refused status.Words (codes "words"))
    × (built_by with_plan ((codes "p", codes "ranks 2\npart 5\n") ∷ []) ≡ refused status.ReadFault (codes "read m"))
    × (built_by with_plan ((codes "p", codes "ranks 2\nparts\n") ∷ (codes "m", []) ∷ []) ≡ refused status.Plan (codes "plan line 2 word"))
    × (built_by with_plan ((codes "p", codes "ranks 2\npart 5\npart 5\n") ∷ (codes "m", []) ∷ []) ≡ refused status.Plan (codes "plan line 3 not yet"))
    × (built_by with_plan ((codes "p", codes "ranks 1\npart 0\noverlap 1\n") ∷ (codes "m", two_triangles) ∷ []) ≡ refused status.Plan (codes "plan line 3 not yet"))
    × (built_by with_plan ((codes "p", codes "ranks 1\npart 0\n") ∷ (codes "m", two_triangles) ∷ []) ≡ refused status.Plan (codes "plan line 2 part length 1 want 2"))
    × (built_by with_plan ((codes "p", codes "ranks 1\npart 0 0\n") ∷ (codes "m", two_triangles) ∷ []) ≡ None)
    × (built_by with_plan ((codes "p", codes "ranks 2\npart 0 1\n") ∷ (codes "m", two_triangles) ∷ []) ≡ None)
    × (built_by (codes "m" ∷ []) ((codes "m", two_triangles) ∷ []) ≡ None)
unfolding line_number lines_from lines_of is_indent name_of tokens_on items_on items_of ahead quoted_on uint_of int_of decimal_of scaled fixed_value fixed_of lexeme_of format name names node nodes_after nodes element elements row section section_of blocks_of misplaced unfinished with_section with_block said content sorted rotations reflections orientations corners_under act relative sights_of first_sight arrangement contains seen_under twist_key kept greatest_dim vertex_nodes cell_elements cells_of marks_of loose_elements section_on row_values mesh_of twist accepted tokens_of form_of with_form plan_from plan_of rank_by misfits misfit made_of with_word request_from request grid_points grid_cells corners_at cells_at made digits words_refused read_refused too_long_refused msh_text mesh_text plan_text twist_refused task_by task first_ahead
order_with_ahead = (refl, refl, refl, refl, refl, refl, refl, refl, refl)
