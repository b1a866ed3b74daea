-- Worked rows: the texts of two triangles over ranks, byte by byte.
use Rattle.std.proofs.Common.{◌≡◌, [], ◌∷◌, refl}
use Rattle.std.specs.Prelude.{codes}
use Rattle.std.specs.Fmt.{digits}
use Rattle.plain_lists.specs.Lists.{sorted}
use Rattle.mesh_defs.specs.Orientation.{rotations, reflections, orientations, corners_under, act, relative}
use Rattle.mesh_defs.specs.Points.{sights_of, first_sight, key, arrangement, contains}
use Rattle.mesh_defs.specs.Diagram.{stratum, strata, chart, seen_under, entry, cone, twist_key, diagram}
use Rattle.input_defs.specs.line_defs.Rows.{lines_of, tokens_of}
use Rattle.input_defs.specs.line_defs.Numbers.{fraction_digits, unsigned_fixed_text, fixed_text}
use Rattle.input_defs.specs.text_defs.Text.{tag, entry_text, at_text, tail_text, mesh_line, ranks_line, step_line, rank_line, total_line, rank_text, total_text, end_line}
use Rattle.sf_defs.specs.Asks.{step}
use Rattle.sf_defs.specs.PrintedOrder.{fetched_before, stands_before, printed_order}
use Rattle.sf_defs.specs.Script.{scripted}
use Rattle.plex_defs.specs.Closure.{closure}
use Rattle.rank_defs.specs.Home.{by_vertices, shared_points, home_points, home_words, home_asks, number_asks}
use Rattle.rank_defs.specs.Ranks.{assigned, layer, held_cells, held, ranks_at, owner, is_shared, owned, own_key}
use Rattle.rank_defs.specs.Spread.{charts, trace}
use Rattle.plex_defs.proofs.Meshes.{two_triangles, around_a_vertex}
use Rattle.plex_defs.specs.Fields.{row_values, dof_words}
use Rattle.input_defs.specs.Plans.{form_of, with_form, plan_from, plan_of, rank_by}
use Rattle.input_defs.specs.Further.{labels_at, labels_text, data_text, full_head}
use Rattle.input_defs.specs.States.{states, first_ranks}
use Rattle.headline_defs.specs.Rounds.{due}
use Rattle.headline_defs.specs.Lines.{move_line, ghost_line, point_tail, owned_line, held_line, closure_line, trace_line, turn_text, window_line, sum_line}
use Rattle.headline_defs.specs.StepText.{ranks_with, ghosts_text, owned_text, held_text, closure_of, closures_text, traces_text, windows_text, sums_text, step_details, step_lines, text_of_steps, whole_text}
use Rattle.headline_defs.proofs.Runs.{printed}

-- two triangles on one rank: all points, and the closures of the cells
two_triangles_one_rank : printed two_triangles (codes "ranks 1\npart block\nshow points\nshow closure\n") []
    ≡ codes "mesh dim 2 cells 2 vertices 4 unused 0 loose 0 merged 0\nranks 1\nstep 0 part\nrank 0 cells 2 held 11 owned 11 base 0\ntotal 11 cells 2 vertices 4 faces 0 edges 5\nP 0 c0 6:0 7:0 8:0\nP 1 c1 9:0 10:0 7:-1\nP 2 v0 @ 0 0 0\nP 3 v1 @ 1 0 0\nP 4 v2 @ 0 1 0\nP 5 v3 @ 1 1 0\nP 6 e8 2:0 3:0\nP 7 e9 3:0 4:0\nP 8 e10 4:0 2:0\nP 9 e72 3:0 5:0\nP 10 e73 5:0 4:0\nC 0 0:0 6:0 7:0 8:0 2:0 3:0 4:0\nC 1 1:0 9:0 10:0 7:-1 3:0 5:0 4:0\nend\n"
unfolding digits sorted rotations reflections orientations corners_under act relative sights_of first_sight key arrangement contains stratum strata chart seen_under entry cone twist_key diagram lines_of tokens_of fraction_digits unsigned_fixed_text fixed_text tag entry_text at_text tail_text mesh_line ranks_line step_line rank_line total_line rank_text total_text end_line step fetched_before stands_before printed_order scripted closure by_vertices shared_points home_points home_words home_asks number_asks assigned layer held_cells held ranks_at owner is_shared owned own_key charts trace form_of with_form plan_from plan_of rank_by labels_at labels_text row_values dof_words data_text full_head states first_ranks due move_line ghost_line point_tail owned_line held_line closure_line trace_line turn_text window_line sum_line ranks_with ghosts_text owned_text held_text closure_of closures_text traces_text windows_text sums_text step_details step_lines text_of_steps whole_text
two_triangles_one_rank = refl

-- over two ranks, the held points and the windows shown
two_triangles_two_ranks : printed two_triangles (codes "ranks 2\npart 0 1\nshow local\nshow windows\n") []
    ≡ codes "mesh dim 2 cells 2 vertices 4 unused 0 loose 0 merged 0\nranks 2\nstep 0 part\nrank 0 cells 1 held 7 owned 7 base 0\nrank 1 cells 1 held 7 owned 4 base 7\nghost 1 0 3\ntotal 11 cells 2 vertices 4 faces 0 edges 5\nL 0 0 c0 0 0 4:0 5:0 6:0\nL 0 1 v0 0 1 @ 0 0 0\nL 0 2 v1 0 2 @ 1 0 0\nL 0 3 v2 0 3 @ 0 1 0\nL 0 4 e8 0 4 1:0 2:0\nL 0 5 e9 0 5 2:0 3:0\nL 0 6 e10 0 6 3:0 1:0\nL 1 0 c1 1 0 5:0 6:0 4:-1\nL 1 1 v1 0 2 @ 1 0 0\nL 1 2 v2 0 3 @ 0 1 0\nL 1 3 v3 1 3 @ 1 1 0\nL 1 4 e9 0 5 1:0 2:0\nL 1 5 e72 1 5 1:0 3:0\nL 1 6 e73 1 6 3:0 2:0\nW home 0 9 9 1:74:9\nW number 0 0 11 0:7:0 1:4:7\nend\n"
unfolding digits sorted rotations reflections orientations corners_under act relative sights_of first_sight key arrangement contains stratum strata chart seen_under entry cone twist_key diagram lines_of tokens_of fraction_digits unsigned_fixed_text fixed_text tag entry_text at_text tail_text mesh_line ranks_line step_line rank_line total_line rank_text total_text end_line step fetched_before stands_before printed_order scripted closure by_vertices shared_points home_points home_words home_asks number_asks assigned layer held_cells held ranks_at owner is_shared owned own_key charts trace form_of with_form plan_from plan_of rank_by labels_at labels_text row_values dof_words data_text full_head states first_ranks due move_line ghost_line point_tail owned_line held_line closure_line trace_line turn_text window_line sum_line ranks_with ghosts_text owned_text held_text closure_of closures_text traces_text windows_text sums_text step_details step_lines text_of_steps whole_text
two_triangles_two_ranks = refl

-- over three ranks, of which one idles, in three orders of the number round
two_triangles_three_ranks : (printed two_triangles (codes "ranks 3\npart 0 2\nshow windows\n") []
    ≡ codes "mesh dim 2 cells 2 vertices 4 unused 0 loose 0 merged 0\nranks 3\nstep 0 part\nrank 0 cells 1 held 7 owned 7 base 0\nrank 1 cells 0 held 0 owned 0 base 7\nrank 2 cells 1 held 7 owned 4 base 7\nghost 2 0 3\ntotal 11 cells 2 vertices 4 faces 0 edges 5\nW home 0 9 9 2:74:9\nW number 0 0 11 0:7:0 1:0:7 2:4:7\nend\n")
    × (printed two_triangles (codes "ranks 3\npart 0 2\nshow windows\n") (2 ∷ 0 ∷ 1 ∷ [])
    ≡ codes "mesh dim 2 cells 2 vertices 4 unused 0 loose 0 merged 0\nranks 3\nstep 0 part\nrank 0 cells 1 held 7 owned 7 base 4\nrank 1 cells 0 held 0 owned 0 base 11\nrank 2 cells 1 held 7 owned 4 base 0\nghost 2 0 3\ntotal 11 cells 2 vertices 4 faces 0 edges 5\nW home 0 9 9 2:74:9\nW number 0 0 11 2:4:0 0:7:4 1:0:11\nend\n")
    × (printed two_triangles (codes "ranks 3\npart 0 2\nshow windows\n") (1 ∷ 2 ∷ 0 ∷ [])
    ≡ codes "mesh dim 2 cells 2 vertices 4 unused 0 loose 0 merged 0\nranks 3\nstep 0 part\nrank 0 cells 1 held 7 owned 7 base 4\nrank 1 cells 0 held 0 owned 0 base 0\nrank 2 cells 1 held 7 owned 4 base 0\nghost 2 0 3\ntotal 11 cells 2 vertices 4 faces 0 edges 5\nW home 0 9 9 2:74:9\nW number 0 0 11 1:0:0 2:4:0 0:7:4\nend\n")
unfolding digits sorted rotations reflections orientations corners_under act relative sights_of first_sight key arrangement contains stratum strata chart seen_under entry cone twist_key diagram lines_of tokens_of fraction_digits unsigned_fixed_text fixed_text tag entry_text at_text tail_text mesh_line ranks_line step_line rank_line total_line rank_text total_text end_line step fetched_before stands_before printed_order scripted closure by_vertices shared_points home_points home_words home_asks number_asks assigned layer held_cells held ranks_at owner is_shared owned own_key charts trace form_of with_form plan_from plan_of rank_by labels_at labels_text row_values dof_words data_text full_head states first_ranks due move_line ghost_line point_tail owned_line held_line closure_line trace_line turn_text window_line sum_line ranks_with ghosts_text owned_text held_text closure_of closures_text traces_text windows_text sums_text step_details step_lines text_of_steps whole_text
two_triangles_three_ranks = (refl, refl, refl)

-- the key of the shared edge comes from the rank that does not own it
key_from_the_other_rank : printed two_triangles (codes "ranks 2\npart 1 0\nshow points\nshow windows\n") []
    ≡ codes "mesh dim 2 cells 2 vertices 4 unused 0 loose 0 merged 0\nranks 2\nstep 0 part\nrank 0 cells 1 held 7 owned 7 base 0\nrank 1 cells 1 held 7 owned 4 base 7\nghost 1 0 3\ntotal 11 cells 2 vertices 4 faces 0 edges 5\nP 0 c1 5:0 6:0 4:-1\nP 1 v1 @ 1 0 0\nP 2 v2 @ 0 1 0\nP 3 v3 @ 1 1 0\nP 4 e9 1:0 2:0\nP 5 e72 1:0 3:0\nP 6 e73 3:0 2:0\nP 7 c0 9:0 4:0 10:0\nP 8 v0 @ 0 0 0\nP 9 e8 8:0 1:0\nP 10 e10 2:0 8:0\nW home 0 74 9 1:9:74\nW number 0 0 11 0:7:0 1:4:7\nend\n"
unfolding digits sorted rotations reflections orientations corners_under act relative sights_of first_sight key arrangement contains stratum strata chart seen_under entry cone twist_key diagram lines_of tokens_of fraction_digits unsigned_fixed_text fixed_text tag entry_text at_text tail_text mesh_line ranks_line step_line rank_line total_line rank_text total_text end_line step fetched_before stands_before printed_order scripted closure by_vertices shared_points home_points home_words home_asks number_asks assigned layer held_cells held ranks_at owner is_shared owned own_key charts trace form_of with_form plan_from plan_of rank_by labels_at labels_text row_values dof_words data_text full_head states first_ranks due move_line ghost_line point_tail owned_line held_line closure_line trace_line turn_text window_line sum_line ranks_with ghosts_text owned_text held_text closure_of closures_text traces_text windows_text sums_text step_details step_lines text_of_steps whole_text
key_from_the_other_rank = refl

-- two triangles change their ranks, with traces; and a layer of overlap comes and goes
redistributed_and_back : (printed two_triangles (codes "ranks 2\npart 0 1\npart 1 0\nshow trace\nshow windows\n") []
    ≡ codes "mesh dim 2 cells 2 vertices 4 unused 0 loose 0 merged 0\nranks 2\nstep 0 part\nrank 0 cells 1 held 7 owned 7 base 0\nrank 1 cells 1 held 7 owned 4 base 7\nghost 1 0 3\ntotal 11 cells 2 vertices 4 faces 0 edges 5\nT 0 0 0\nT 1 0 1\nT 2 0 2\nT 3 0 3\nT 4 0 4\nT 5 0 5\nT 6 0 6\nT 7 1 0\nT 8 1 3\nT 9 1 5\nT 10 1 6\nW home 0 9 9 1:74:9\nW number 0 0 11 0:7:0 1:4:7\nstep 1 part\nrank 0 cells 1 held 7 owned 7 base 0\nrank 1 cells 1 held 7 owned 4 base 7\nghost 1 0 3\ntotal 11 cells 2 vertices 4 faces 0 edges 5\nT 0 1 0\nT 1 0 2\nT 2 0 3\nT 3 1 3\nT 4 0 5\nT 5 1 5\nT 6 1 6\nT 7 0 0\nT 8 0 1\nT 9 0 4\nT 10 0 6\nW number 0 0 11 0:7:0 1:4:7\nend\n")
    × (printed two_triangles (codes "ranks 2\npart 0 1\noverlap 1\noverlap 0\n") []
    ≡ codes "mesh dim 2 cells 2 vertices 4 unused 0 loose 0 merged 0\nranks 2\nstep 0 part\nrank 0 cells 1 held 7 owned 7 base 0\nrank 1 cells 1 held 7 owned 4 base 7\nghost 1 0 3\ntotal 11 cells 2 vertices 4 faces 0 edges 5\nstep 1 overlap 1\nrank 0 cells 1 held 11 owned 7 base 0\nrank 1 cells 1 held 11 owned 4 base 7\nghost 0 1 4\nghost 1 0 7\ntotal 11 cells 2 vertices 4 faces 0 edges 5\nstep 2 overlap 0\nrank 0 cells 1 held 7 owned 7 base 0\nrank 1 cells 1 held 7 owned 4 base 7\nghost 1 0 3\ntotal 11 cells 2 vertices 4 faces 0 edges 5\nend\n")
unfolding digits sorted rotations reflections orientations corners_under act relative sights_of first_sight key arrangement contains stratum strata chart seen_under entry cone twist_key diagram lines_of tokens_of fraction_digits unsigned_fixed_text fixed_text tag entry_text at_text tail_text mesh_line ranks_line step_line rank_line total_line rank_text total_text end_line step fetched_before stands_before printed_order scripted closure by_vertices shared_points home_points home_words home_asks number_asks assigned layer held_cells held ranks_at owner is_shared owned own_key charts trace form_of with_form plan_from plan_of rank_by labels_at labels_text row_values dof_words data_text full_head states first_ranks due move_line ghost_line point_tail owned_line held_line closure_line trace_line turn_text window_line sum_line ranks_with ghosts_text owned_text held_text closure_of closures_text traces_text windows_text sums_text step_details step_lines text_of_steps whole_text
redistributed_and_back = (refl, refl)

-- four triangles around a vertex: one layer reaches every cell
overlap_reaches_across_one_vertex : printed around_a_vertex (codes "ranks 4\npart 0 1 2 3\noverlap 1\n") []
    ≡ codes "mesh dim 2 cells 4 vertices 5 unused 0 loose 0 merged 0\nranks 4\nstep 0 part\nrank 0 cells 1 held 7 owned 7 base 0\nrank 1 cells 1 held 7 owned 4 base 7\nrank 2 cells 1 held 7 owned 4 base 11\nrank 3 cells 1 held 7 owned 2 base 15\nghost 1 0 3\nghost 2 0 1\nghost 2 1 2\nghost 3 0 3\nghost 3 2 2\ntotal 17 cells 4 vertices 5 faces 0 edges 8\nstep 1 overlap 1\nrank 0 cells 1 held 17 owned 7 base 0\nrank 1 cells 1 held 17 owned 4 base 7\nrank 2 cells 1 held 17 owned 4 base 11\nrank 3 cells 1 held 17 owned 2 base 15\nghost 0 1 4\nghost 0 2 4\nghost 0 3 2\nghost 1 0 7\nghost 1 2 4\nghost 1 3 2\nghost 2 0 7\nghost 2 1 4\nghost 2 3 2\nghost 3 0 7\nghost 3 1 4\nghost 3 2 4\ntotal 17 cells 4 vertices 5 faces 0 edges 8\nend\n"
unfolding digits sorted rotations reflections orientations corners_under act relative sights_of first_sight key arrangement contains stratum strata chart seen_under entry cone twist_key diagram lines_of tokens_of fraction_digits unsigned_fixed_text fixed_text tag entry_text at_text tail_text mesh_line ranks_line step_line rank_line total_line rank_text total_text end_line step fetched_before stands_before printed_order scripted closure by_vertices shared_points home_points home_words home_asks number_asks assigned layer held_cells held ranks_at owner is_shared owned own_key charts trace form_of with_form plan_from plan_of rank_by labels_at labels_text row_values dof_words data_text full_head states first_ranks due move_line ghost_line point_tail owned_line held_line closure_line trace_line turn_text window_line sum_line ranks_with ghosts_text owned_text held_text closure_of closures_text traces_text windows_text sums_text step_details step_lines text_of_steps whole_text
overlap_reaches_across_one_vertex = refl
