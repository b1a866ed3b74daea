-- Worked rows: from words and the bytes of files to the bytes of the text.
use Rattle.std.proofs.Common.{◌≡◌, ℕ, List, [], ◌∷◌, Option, Some, None, Ok, Err, refl}
use Rattle.std.specs.Prelude.{codes, option_and_then, Result, if◌then◌else◌}
use Rattle.headline_defs.specs.Headline.{AskedFiles, Asking, subject_of, given}
use Rattle.headline_defs.specs.Lines.{move_line, ghost_line, point_tail, owned_line, held_line, closure_line, trace_line, turn_text, window_line, sum_line}
use Rattle.headline_defs.specs.Picks.{picks_of}
use Rattle.headline_defs.specs.Rounds.{due}
use Rattle.input_defs.specs.States.{states, first_ranks}
use Rattle.headline_defs.specs.StepText.{ranks_with, ghosts_text, owned_text, held_text, closure_of, closures_text, traces_text, windows_text, sums_text, step_details, step_lines, text_of_steps, whole_text}
use Rattle.headline_defs.specs.Tops.{asking, replay_asking, runs}
use Rattle.plex_defs.specs.Fields.{row_values, dof_words}
use Rattle.input_defs.specs.Bodies.{lexeme_of}
use Rattle.input_defs.specs.DataSections.{row, section, section_of}
use Rattle.input_defs.specs.Files.{blocks_of, misplaced, unfinished, with_section, with_block as file_step, said, content}
use Rattle.input_defs.specs.Further.{name_line, section_line, dofs_line, labels_at, labels_text, data_text, full_head}
use Rattle.input_defs.specs.Generated.{grid_points, grid_cells, corners_at, cells_at, made}
use Rattle.input_defs.specs.Meshes.{kept, greatest_dim, vertex_nodes, cell_elements, cells_of, marks_of, loose_elements, section_on, mesh_of, twist, accepted}
use Rattle.input_defs.specs.Plans.{form_of, with_form, plan_from, plan_of, rank_by, misfits, misfit}
use Rattle.input_defs.specs.Refused.{msh_text, mesh_text, plan_text, twist_refused, task_by, task, Task, Refusal}
use Rattle.input_defs.specs.Sections.{format, name, names, node, nodes_after, nodes, element, elements}
use Rattle.input_defs.specs.Words.{made_of, with_word, request_from, request}
use Rattle.mesh_defs.specs.Diagram.{seen_under, twist_key, stratum, strata, chart, entry, cone, diagram}
use Rattle.plain_lists.specs.Lists.{sorted, same_list}
use Rattle.mesh_defs.specs.Orientation.{rotations, reflections, orientations, corners_under, act, relative}
use Rattle.mesh_defs.specs.Points.{sights_of, first_sight, arrangement, contains, key}
use Rattle.sf_defs.specs.Asks.{step}
use Rattle.plex_defs.specs.Closure.{closure}
use Rattle.rank_defs.specs.Home.{by_vertices, shared_points, home_points, home_words, home_asks, number_asks}
use Rattle.sf_defs.specs.PrintedOrder.{fetched_before, stands_before, printed_order}
use Rattle.rank_defs.specs.Ranks.{assigned, layer, held_cells, held, ranks_at, owner, is_shared, owned, own_key}
use Rattle.sf_defs.specs.Script.{scripted}
use Rattle.rank_defs.specs.Spread.{charts, trace}
use Rattle.input_defs.specs.scan_defs.Items.{name_of, tokens_on, items_on, items_of, ahead}
use Rattle.input_defs.specs.scan_defs.Lines.{line_number, lines_from, is_indent}
use Rattle.input_defs.specs.scan_defs.Numbers.{uint_of, int_of, decimal_of, scaled, fixed_value, fixed_of}
use Rattle.input_defs.specs.scan_defs.Quotes.{quoted_on}
use Rattle.std.specs.Fmt.{digits}
use Rattle.input_defs.specs.line_defs.Numbers.{numeral, fraction_digits, unsigned_fixed_text, fixed_text}
use Rattle.input_defs.specs.text_defs.Refusals.{words_refused, read_refused, too_long_refused}
use Rattle.input_defs.specs.line_defs.Rows.{lines_of, tokens_of}
use Rattle.input_defs.specs.text_defs.Text.{tag, entry_text, at_text, tail_text, mesh_line, ranks_line, step_line, rank_line, total_line, rank_text, total_text, end_line}
use Rattle.input_defs.proofs.PlateRows.{plate}

-- the files of the rows, by their names
abbrev file_named : List ℕ → Option (List ℕ)
file_named name =
    if same_list name (codes "G1") then Some plate
    else if same_list name (codes "T2") then Some (codes "$MeshFormat\n2.2 0 8\n$EndMeshFormat\n$Nodes\n4\n1 0 0 0\n2 1 0 0\n3 0 1 0\n4 1 1 0\n$EndNodes\n$Elements\n2\n1 2 2 0 1 1 2 3\n2 2 2 0 1 2 4 3\n$EndElements\n")
    else if same_list name (codes "H2") then Some (codes "$MeshFormat\n2.2 0 8\n$EndMeshFormat\n$Nodes\n12\n1 0 0 0\n2 1 0 0\n3 1 1 0\n4 0 1 0\n5 0 0 1\n6 1 0 1\n7 1 1 1\n8 0 1 1\n9 0 0 2\n10 1 0 2\n11 1 1 2\n12 0 1 2\n$EndNodes\n$Elements\n2\n1 5 2 0 1 1 2 3 4 5 6 7 8\n2 5 2 0 1 5 7 6 8 9 10 11 12\n$EndElements\n")
    else if same_list name (codes "p") then Some (codes "ranks 3\npart 0 2\nshow windows\n")
    else None

-- the whole text that words give where the rounds go by picks, or the line of the refusal
abbrev printed : List ℕ → Result Task Refusal → List ℕ
printed picks (Ok task) = whole_text (subject_of task) (runs picks task)
printed picks (Err refusal) = refusal.text

-- those that are asked for
abbrev files_of : Asking → AskedFiles
files_of a = record { plan = option_and_then file_named a.plan_name; mesh = option_and_then file_named a.mesh_name }

abbrev printed_by : List (List ℕ) → List ℕ
printed_by words = printed [] (given (asking words) (files_of (asking words)))

-- a plate with a hole, its lines ended by CR LF: names, labels, an unused node
plate_with_a_hole : printed_by (codes "G1" ∷ [])
    ≡ codes "mesh dim 2 cells 8 vertices 8 unused 1 loose 0 merged 0\nname 1 1 \"outer\"\nname 1 2 \"hole\"\nname 2 3 \"plate\"\nranks 1\nstep 0 part\nrank 0 cells 8 held 32 owned 32 base 0\ntotal 32 cells 8 vertices 8 faces 0 edges 16\nP 0 c0 16:0 17:0 18:0 cell=3\nP 1 c1 19:0 20:0 21:0 cell=3\nP 2 c2 22:0 23:0 24:0 cell=3\nP 3 c3 25:0 26:0 27:0 cell=3\nP 4 c4 28:0 21:-1 16:-1 cell=3\nP 5 c5 29:0 24:-1 19:-1 cell=3\nP 6 c6 30:0 27:-1 22:-1 cell=3\nP 7 c7 31:0 18:-1 25:-1 cell=3\nP 8 v0 @ 3 3 0\nP 9 v1 @ -3 3 0\nP 10 v2 @ -3 -3 0\nP 11 v3 @ 3 -3 0\nP 12 v4 @ 1 0 0\nP 13 v5 @ 0 1 0\nP 14 v6 @ -1 0 0\nP 15 v7 @ 0 -1 0\nP 16 e8 8:0 13:0\nP 17 e9 13:0 12:0 face=2\nP 18 e10 12:0 8:0\nP 19 e72 9:0 14:0\nP 20 e73 14:0 13:0 face=2\nP 21 e74 13:0 9:0\nP 22 e136 10:0 15:0\nP 23 e137 15:0 14:0 face=2\nP 24 e138 14:0 10:0\nP 25 e200 11:0 12:0\nP 26 e201 12:0 15:0 face=2\nP 27 e202 15:0 11:0\nP 28 e264 8:0 9:0 face=1\nP 29 e328 9:0 10:0 face=1\nP 30 e392 10:0 11:0 face=1\nP 31 e456 11:0 8:0 face=1\nend\n"
unfolding line_number lines_from lines_of is_indent name_of tokens_on items_on items_of ahead quoted_on uint_of int_of decimal_of scaled fixed_value fixed_of lexeme_of format name names node nodes_after nodes element elements row section section_of blocks_of misplaced unfinished with_section said content sorted rotations reflections orientations corners_under act relative sights_of first_sight arrangement contains seen_under twist_key kept greatest_dim vertex_nodes cell_elements cells_of marks_of loose_elements section_on row_values mesh_of twist accepted tokens_of form_of with_form plan_from plan_of rank_by misfits misfit made_of with_word request_from request grid_points grid_cells corners_at cells_at made digits words_refused read_refused too_long_refused msh_text mesh_text plan_text twist_refused task_by task key stratum strata chart entry cone diagram fraction_digits unsigned_fixed_text fixed_text tag entry_text at_text tail_text mesh_line ranks_line step_line rank_line total_line rank_text total_text end_line fetched_before stands_before printed_order scripted closure by_vertices shared_points home_points home_words home_asks number_asks assigned layer held_cells held ranks_at owner is_shared owned own_key charts trace labels_at labels_text dof_words data_text full_head states first_ranks due move_line ghost_line point_tail owned_line held_line closure_line trace_line turn_text window_line sum_line ranks_with ghosts_text owned_text held_text closure_of closures_text traces_text windows_text sums_text step_details step_lines text_of_steps whole_text step file_step numeral name_line section_line dofs_line picks_of replay_asking asking
plate_with_a_hole = refl

-- the sums of two triangles
summary_of_a_square : printed_by (codes "--make" ∷ codes "tri:1" ∷ codes "--summary" ∷ [])
    ≡ codes "mesh dim 2 cells 2 vertices 4 unused 0 loose 0 merged 0\nranks 1\nstep 0 part\nsum held 11 owned 11 entries 16 back 1 at 4 data 0 dofs 0\nend\n"
unfolding line_number lines_from lines_of is_indent name_of tokens_on items_on items_of ahead quoted_on uint_of int_of decimal_of scaled fixed_value fixed_of lexeme_of format name names node nodes_after nodes element elements row section section_of blocks_of misplaced unfinished with_section said content sorted rotations reflections orientations corners_under act relative sights_of first_sight arrangement contains seen_under twist_key kept greatest_dim vertex_nodes cell_elements cells_of marks_of loose_elements section_on row_values mesh_of twist accepted tokens_of form_of with_form plan_from plan_of rank_by misfits misfit made_of with_word request_from request grid_points grid_cells corners_at cells_at made digits words_refused read_refused too_long_refused msh_text mesh_text plan_text twist_refused task_by task key stratum strata chart entry cone diagram fraction_digits unsigned_fixed_text fixed_text tag entry_text at_text tail_text mesh_line ranks_line step_line rank_line total_line rank_text total_text end_line fetched_before stands_before printed_order scripted closure by_vertices shared_points home_points home_words home_asks number_asks assigned layer held_cells held ranks_at owner is_shared owned own_key charts trace labels_at labels_text dof_words data_text full_head states first_ranks due move_line ghost_line point_tail owned_line held_line closure_line trace_line turn_text window_line sum_line ranks_with ghosts_text owned_text held_text closure_of closures_text traces_text windows_text sums_text step_details step_lines text_of_steps whole_text step file_step numeral name_line section_line dofs_line picks_of replay_asking asking
summary_of_a_square = refl

-- a plan by a file, and the refusals of a twisted mesh, of a file that is not there, and of words
from_words : (printed_by (codes "--plan" ∷ codes "p" ∷ codes "T2" ∷ [])
    ≡ codes "mesh dim 2 cells 2 vertices 4 unused 0 loose 0 merged 0\nranks 3\nstep 0 part\nrank 0 cells 1 held 7 owned 7 base 0\nrank 1 cells 0 held 0 owned 0 base 7\nrank 2 cells 1 held 7 owned 4 base 7\nghost 2 0 3\ntotal 11 cells 2 vertices 4 faces 0 edges 5\nW home 0 9 9 2:74:9\nW number 0 0 11 0:7:0 1:0:7 2:4:7\nend\n")
    × (printed_by (codes "H2" ∷ []) ≡ codes "refused: twist cell 1 face 0\n") × (printed_by (codes "T3" ∷ []) ≡ codes "refused: read T3\n") × (printed_by [] ≡ codes "refused: words\n")
unfolding line_number lines_from lines_of is_indent name_of tokens_on items_on items_of ahead quoted_on uint_of int_of decimal_of scaled fixed_value fixed_of lexeme_of format name names node nodes_after nodes element elements row section section_of blocks_of misplaced unfinished with_section said content sorted rotations reflections orientations corners_under act relative sights_of first_sight arrangement contains seen_under twist_key kept greatest_dim vertex_nodes cell_elements cells_of marks_of loose_elements section_on row_values mesh_of twist accepted tokens_of form_of with_form plan_from plan_of rank_by misfits misfit made_of with_word request_from request grid_points grid_cells corners_at cells_at made digits words_refused read_refused too_long_refused msh_text mesh_text plan_text twist_refused task_by task key stratum strata chart entry cone diagram fraction_digits unsigned_fixed_text fixed_text tag entry_text at_text tail_text mesh_line ranks_line step_line rank_line total_line rank_text total_text end_line fetched_before stands_before printed_order scripted closure by_vertices shared_points home_points home_words home_asks number_asks assigned layer held_cells held ranks_at owner is_shared owned own_key charts trace labels_at labels_text dof_words data_text full_head states first_ranks due move_line ghost_line point_tail owned_line held_line closure_line trace_line turn_text window_line sum_line ranks_with ghosts_text owned_text held_text closure_of closures_text traces_text windows_text sums_text step_details step_lines text_of_steps whole_text step file_step numeral name_line section_line dofs_line picks_of replay_asking asking
from_words = (refl, refl, refl, refl)

-- ---- one name twice

-- what is written where the plan and the mesh have one name
abbrev twice : Option (List ℕ) → Option (List ℕ) → List ℕ
twice plan mesh = printed [] (given (asking (codes "--plan" ∷ codes "x" ∷ codes "x" ∷ [])) (record { plan = plan; mesh = mesh }))

-- two takes that gave different files, and takes that gave one file: a plan is no mesh, and a mesh no plan
one_name_twice : (twice (file_named (codes "p")) (file_named (codes "T2")) ≡ printed_by (codes "--plan" ∷ codes "p" ∷ codes "T2" ∷ []))
    × (twice (file_named (codes "p")) (file_named (codes "p")) ≡ codes "refused: mesh line 4 not msh\n")
    × (twice (file_named (codes "T2")) (file_named (codes "T2")) ≡ codes "refused: plan line 1 word\n")
    × (twice None (file_named (codes "T2")) ≡ codes "refused: read x\n") × (twice (file_named (codes "p")) None ≡ codes "refused: read x\n")
unfolding line_number lines_from lines_of is_indent name_of tokens_on items_on items_of ahead quoted_on uint_of int_of decimal_of scaled fixed_value fixed_of lexeme_of format name names node nodes_after nodes element elements row section section_of blocks_of misplaced unfinished with_section said content sorted rotations reflections orientations corners_under act relative sights_of first_sight arrangement contains seen_under twist_key kept greatest_dim vertex_nodes cell_elements cells_of marks_of loose_elements section_on row_values mesh_of twist accepted tokens_of form_of with_form plan_from plan_of rank_by misfits misfit made_of with_word request_from request grid_points grid_cells corners_at cells_at made digits words_refused read_refused too_long_refused msh_text mesh_text plan_text twist_refused task_by task key stratum strata chart entry cone diagram fraction_digits unsigned_fixed_text fixed_text tag entry_text at_text tail_text mesh_line ranks_line step_line rank_line total_line rank_text total_text end_line fetched_before stands_before printed_order scripted closure by_vertices shared_points home_points home_words home_asks number_asks assigned layer held_cells held ranks_at owner is_shared owned own_key charts trace labels_at labels_text dof_words data_text full_head states first_ranks due move_line ghost_line point_tail owned_line held_line closure_line trace_line turn_text window_line sum_line ranks_with ghosts_text owned_text held_text closure_of closures_text traces_text windows_text sums_text step_details step_lines text_of_steps whole_text step file_step numeral name_line section_line dofs_line picks_of replay_asking asking
one_name_twice = (refl, refl, refl, refl, refl)

-- ---- replays: the first word has the picks

abbrev replayed_by : List (List ℕ) → Option (List ℕ) → List ℕ
replayed_by words None = printed [] (given (replay_asking words) (files_of (replay_asking words)))
replayed_by words (Some picks) = printed picks (given (replay_asking words) (files_of (replay_asking words)))

abbrev replayed : List ℕ → List ℕ
replayed word = let words = word ∷ codes "--plan" ∷ codes "p" ∷ codes "T2" ∷ [] in replayed_by words (picks_of word)

replays : (replayed (codes "2,0,1")
    ≡ codes "mesh dim 2 cells 2 vertices 4 unused 0 loose 0 merged 0\nranks 3\nstep 0 part\nrank 0 cells 1 held 7 owned 7 base 4\nrank 1 cells 0 held 0 owned 0 base 11\nrank 2 cells 1 held 7 owned 4 base 0\nghost 2 0 3\ntotal 11 cells 2 vertices 4 faces 0 edges 5\nW home 0 9 9 2:74:9\nW number 0 0 11 2:4:0 0:7:4 1:0:11\nend\n")
    × (replayed (codes "1,,2") ≡ codes "refused: words\n") × (picks_of (codes "-") ≡ Some []) × (picks_of (codes "1,02") ≡ None) × (picks_of [] ≡ None)
unfolding line_number lines_from lines_of is_indent name_of tokens_on items_on items_of ahead quoted_on uint_of int_of decimal_of scaled fixed_value fixed_of lexeme_of format name names node nodes_after nodes element elements row section section_of blocks_of misplaced unfinished with_section said content sorted rotations reflections orientations corners_under act relative sights_of first_sight arrangement contains seen_under twist_key kept greatest_dim vertex_nodes cell_elements cells_of marks_of loose_elements section_on row_values mesh_of twist accepted tokens_of form_of with_form plan_from plan_of rank_by misfits misfit made_of with_word request_from request grid_points grid_cells corners_at cells_at made digits words_refused read_refused too_long_refused msh_text mesh_text plan_text twist_refused task_by task key stratum strata chart entry cone diagram fraction_digits unsigned_fixed_text fixed_text tag entry_text at_text tail_text mesh_line ranks_line step_line rank_line total_line rank_text total_text end_line fetched_before stands_before printed_order scripted closure by_vertices shared_points home_points home_words home_asks number_asks assigned layer held_cells held ranks_at owner is_shared owned own_key charts trace labels_at labels_text dof_words data_text full_head states first_ranks due move_line ghost_line point_tail owned_line held_line closure_line trace_line turn_text window_line sum_line ranks_with ghosts_text owned_text held_text closure_of closures_text traces_text windows_text sums_text step_details step_lines text_of_steps whole_text step file_step numeral name_line section_line dofs_line picks_of replay_asking asking
replays = (refl, refl, refl, refl, refl)
