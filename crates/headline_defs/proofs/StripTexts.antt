-- Worked rows: a strip of eight squares that is redistributed, with and without overlap in between, byte by byte.
use Rattle.std.proofs.Common.{◌≡◌, [], refl}
use Rattle.std.specs.Prelude.{codes}
use Rattle.std.specs.Fmt.{digits}
use Rattle.plain_lists.specs.Lists.{sorted}
use Rattle.mesh_defs.specs.Orientation.{rotations, reflections, orientations, corners_under, act, relative}
use Rattle.mesh_defs.specs.Points.{sights_of, first_sight, key, arrangement, contains}
use Rattle.mesh_defs.specs.Diagram.{stratum, strata, chart, seen_under, entry, cone, twist_key, diagram}
use Rattle.input_defs.specs.line_defs.Rows.{lines_of, tokens_of}
use Rattle.input_defs.specs.line_defs.Numbers.{fraction_digits, unsigned_fixed_text, fixed_text}
use Rattle.input_defs.specs.text_defs.Text.{tag, entry_text, at_text, tail_text, mesh_line, ranks_line, step_line, rank_line, total_line, rank_text, total_text, end_line}
use Rattle.sf_defs.specs.Asks.{step}
use Rattle.sf_defs.specs.PrintedOrder.{fetched_before, stands_before, printed_order}
use Rattle.sf_defs.specs.Script.{scripted}
use Rattle.plex_defs.specs.Closure.{closure}
use Rattle.rank_defs.specs.Home.{by_vertices, shared_points, home_points, home_words, home_asks, number_asks}
use Rattle.rank_defs.specs.Ranks.{assigned, layer, held_cells, held, ranks_at, owner, is_shared, owned, own_key}
use Rattle.rank_defs.specs.Spread.{charts, trace}
use Rattle.plex_defs.proofs.Meshes.{strip}
use Rattle.plex_defs.specs.Fields.{row_values, dof_words}
use Rattle.input_defs.specs.Plans.{form_of, with_form, plan_from, plan_of, rank_by}
use Rattle.input_defs.specs.Further.{labels_at, labels_text, data_text, full_head}
use Rattle.input_defs.specs.States.{states, first_ranks}
use Rattle.headline_defs.specs.Rounds.{due}
use Rattle.headline_defs.specs.Lines.{move_line, ghost_line, point_tail, owned_line, held_line, closure_line, trace_line, turn_text, window_line, sum_line}
use Rattle.headline_defs.specs.StepText.{ranks_with, ghosts_text, owned_text, held_text, closure_of, closures_text, traces_text, windows_text, sums_text, step_details, step_lines, text_of_steps, whole_text}
use Rattle.headline_defs.proofs.Runs.{printed}

-- in blocks, in stripes and in blocks again: the traces are of the first blocks
strip_redistributed : printed strip (codes "ranks 4\npart block\npart stripe\npart block\nshow trace\n") []
    ≡ codes "mesh dim 2 cells 8 vertices 18 unused 0 loose 0 merged 0\nranks 4\nstep 0 part\nrank 0 cells 2 held 15 owned 15 base 0\nrank 1 cells 2 held 15 owned 12 base 15\nrank 2 cells 2 held 15 owned 12 base 27\nrank 3 cells 2 held 15 owned 12 base 39\nghost 1 0 3\nghost 2 1 3\nghost 3 2 3\ntotal 51 cells 8 vertices 18 faces 0 edges 25\nT 0 0 0\nT 1 0 1\nT 2 0 2\nT 3 0 3\nT 4 0 4\nT 5 0 5\nT 6 0 6\nT 7 0 7\nT 8 0 8\nT 9 0 9\nT 10 0 10\nT 11 0 11\nT 12 0 12\nT 13 0 13\nT 14 0 14\nT 15 1 0\nT 16 1 1\nT 17 1 3\nT 18 1 4\nT 19 1 6\nT 20 1 7\nT 21 1 9\nT 22 1 10\nT 23 1 11\nT 24 1 12\nT 25 1 13\nT 26 1 14\nT 27 2 0\nT 28 2 1\nT 29 2 3\nT 30 2 4\nT 31 2 6\nT 32 2 7\nT 33 2 9\nT 34 2 10\nT 35 2 11\nT 36 2 12\nT 37 2 13\nT 38 2 14\nT 39 3 0\nT 40 3 1\nT 41 3 3\nT 42 3 4\nT 43 3 6\nT 44 3 7\nT 45 3 9\nT 46 3 10\nT 47 3 11\nT 48 3 12\nT 49 3 13\nT 50 3 14\nstep 1 part\nrank 0 cells 2 held 18 owned 18 base 0\nrank 1 cells 2 held 18 owned 12 base 18\nrank 2 cells 2 held 18 owned 12 base 30\nrank 3 cells 2 held 18 owned 9 base 42\nghost 1 0 6\nghost 2 1 6\nghost 3 0 3\nghost 3 2 6\ntotal 51 cells 8 vertices 18 faces 0 edges 25\nT 0 0 0\nT 1 2 0\nT 2 0 2\nT 3 0 3\nT 4 1 4\nT 5 2 3\nT 6 0 5\nT 7 0 6\nT 8 1 7\nT 9 2 6\nT 10 0 8\nT 11 0 9\nT 12 0 10\nT 13 0 11\nT 14 1 13\nT 15 2 9\nT 16 2 10\nT 17 2 11\nT 18 0 1\nT 19 2 1\nT 20 0 4\nT 21 2 4\nT 22 0 7\nT 23 2 7\nT 24 0 12\nT 25 0 13\nT 26 0 14\nT 27 2 12\nT 28 2 13\nT 29 2 14\nT 30 1 0\nT 31 3 0\nT 32 1 3\nT 33 3 3\nT 34 1 6\nT 35 3 6\nT 36 1 9\nT 37 1 10\nT 38 1 11\nT 39 3 9\nT 40 3 10\nT 41 3 11\nT 42 1 1\nT 43 3 1\nT 44 3 4\nT 45 3 7\nT 46 1 12\nT 47 1 14\nT 48 3 12\nT 49 3 13\nT 50 3 14\nstep 2 part\nrank 0 cells 2 held 15 owned 15 base 0\nrank 1 cells 2 held 15 owned 12 base 15\nrank 2 cells 2 held 15 owned 12 base 27\nrank 3 cells 2 held 15 owned 12 base 39\nghost 1 0 3\nghost 2 1 3\nghost 3 2 3\ntotal 51 cells 8 vertices 18 faces 0 edges 25\nT 0 0 0\nT 1 0 1\nT 2 0 2\nT 3 0 3\nT 4 0 4\nT 5 0 5\nT 6 0 6\nT 7 0 7\nT 8 0 8\nT 9 0 9\nT 10 0 10\nT 11 0 11\nT 12 0 12\nT 13 0 13\nT 14 0 14\nT 15 1 0\nT 16 1 1\nT 17 1 3\nT 18 1 4\nT 19 1 6\nT 20 1 7\nT 21 1 9\nT 22 1 10\nT 23 1 11\nT 24 1 12\nT 25 1 13\nT 26 1 14\nT 27 2 0\nT 28 2 1\nT 29 2 3\nT 30 2 4\nT 31 2 6\nT 32 2 7\nT 33 2 9\nT 34 2 10\nT 35 2 11\nT 36 2 12\nT 37 2 13\nT 38 2 14\nT 39 3 0\nT 40 3 1\nT 41 3 3\nT 42 3 4\nT 43 3 6\nT 44 3 7\nT 45 3 9\nT 46 3 10\nT 47 3 11\nT 48 3 12\nT 49 3 13\nT 50 3 14\nend\n"
unfolding digits sorted rotations reflections orientations corners_under act relative sights_of first_sight key arrangement contains stratum strata chart seen_under entry cone twist_key diagram lines_of tokens_of fraction_digits unsigned_fixed_text fixed_text tag entry_text at_text tail_text mesh_line ranks_line step_line rank_line total_line rank_text total_text end_line step fetched_before stands_before printed_order scripted closure by_vertices shared_points home_points home_words home_asks number_asks assigned layer held_cells held ranks_at owner is_shared owned own_key charts trace form_of with_form plan_from plan_of rank_by labels_at labels_text row_values dof_words data_text full_head states first_ranks due move_line ghost_line point_tail owned_line held_line closure_line trace_line turn_text window_line sum_line ranks_with ghosts_text owned_text held_text closure_of closures_text traces_text windows_text sums_text step_details step_lines text_of_steps whole_text
strip_redistributed = refl

-- two layers of overlap, and then in stripes
strip_redistributed_after_overlap : printed strip (codes "ranks 4\npart block\noverlap 2\npart stripe\nshow trace\n") []
    ≡ codes "mesh dim 2 cells 8 vertices 18 unused 0 loose 0 merged 0\nranks 4\nstep 0 part\nrank 0 cells 2 held 15 owned 15 base 0\nrank 1 cells 2 held 15 owned 12 base 15\nrank 2 cells 2 held 15 owned 12 base 27\nrank 3 cells 2 held 15 owned 12 base 39\nghost 1 0 3\nghost 2 1 3\nghost 3 2 3\ntotal 51 cells 8 vertices 18 faces 0 edges 25\nT 0 0 0\nT 1 0 1\nT 2 0 2\nT 3 0 3\nT 4 0 4\nT 5 0 5\nT 6 0 6\nT 7 0 7\nT 8 0 8\nT 9 0 9\nT 10 0 10\nT 11 0 11\nT 12 0 12\nT 13 0 13\nT 14 0 14\nT 15 1 0\nT 16 1 1\nT 17 1 3\nT 18 1 4\nT 19 1 6\nT 20 1 7\nT 21 1 9\nT 22 1 10\nT 23 1 11\nT 24 1 12\nT 25 1 13\nT 26 1 14\nT 27 2 0\nT 28 2 1\nT 29 2 3\nT 30 2 4\nT 31 2 6\nT 32 2 7\nT 33 2 9\nT 34 2 10\nT 35 2 11\nT 36 2 12\nT 37 2 13\nT 38 2 14\nT 39 3 0\nT 40 3 1\nT 41 3 3\nT 42 3 4\nT 43 3 6\nT 44 3 7\nT 45 3 9\nT 46 3 10\nT 47 3 11\nT 48 3 12\nT 49 3 13\nT 50 3 14\nstep 1 overlap 2\nrank 0 cells 2 held 27 owned 15 base 0\nrank 1 cells 2 held 39 owned 12 base 15\nrank 2 cells 2 held 39 owned 12 base 27\nrank 3 cells 2 held 27 owned 12 base 39\nghost 0 1 12\nghost 1 0 15\nghost 1 2 12\nghost 2 0 3\nghost 2 1 12\nghost 2 3 12\nghost 3 1 3\nghost 3 2 12\ntotal 51 cells 8 vertices 18 faces 0 edges 25\nT 0 0 0\nT 1 0 1\nT 2 0 2\nT 3 0 3\nT 4 0 4\nT 5 0 5\nT 6 0 6\nT 7 0 7\nT 8 0 8\nT 9 0 9\nT 10 0 10\nT 11 0 11\nT 12 0 12\nT 13 0 13\nT 14 0 14\nT 15 1 0\nT 16 1 1\nT 17 1 3\nT 18 1 4\nT 19 1 6\nT 20 1 7\nT 21 1 9\nT 22 1 10\nT 23 1 11\nT 24 1 12\nT 25 1 13\nT 26 1 14\nT 27 2 0\nT 28 2 1\nT 29 2 3\nT 30 2 4\nT 31 2 6\nT 32 2 7\nT 33 2 9\nT 34 2 10\nT 35 2 11\nT 36 2 12\nT 37 2 13\nT 38 2 14\nT 39 3 0\nT 40 3 1\nT 41 3 3\nT 42 3 4\nT 43 3 6\nT 44 3 7\nT 45 3 9\nT 46 3 10\nT 47 3 11\nT 48 3 12\nT 49 3 13\nT 50 3 14\nstep 2 part\nrank 0 cells 2 held 18 owned 18 base 0\nrank 1 cells 2 held 18 owned 12 base 18\nrank 2 cells 2 held 18 owned 12 base 30\nrank 3 cells 2 held 18 owned 9 base 42\nghost 1 0 6\nghost 2 1 6\nghost 3 0 3\nghost 3 2 6\ntotal 51 cells 8 vertices 18 faces 0 edges 25\nT 0 0 0\nT 1 2 0\nT 2 0 2\nT 3 0 3\nT 4 1 4\nT 5 2 3\nT 6 0 5\nT 7 0 6\nT 8 1 7\nT 9 2 6\nT 10 0 8\nT 11 0 9\nT 12 0 10\nT 13 0 11\nT 14 1 13\nT 15 2 9\nT 16 2 10\nT 17 2 11\nT 18 0 1\nT 19 2 1\nT 20 0 4\nT 21 2 4\nT 22 0 7\nT 23 2 7\nT 24 0 12\nT 25 0 13\nT 26 0 14\nT 27 2 12\nT 28 2 13\nT 29 2 14\nT 30 1 0\nT 31 3 0\nT 32 1 3\nT 33 3 3\nT 34 1 6\nT 35 3 6\nT 36 1 9\nT 37 1 10\nT 38 1 11\nT 39 3 9\nT 40 3 10\nT 41 3 11\nT 42 1 1\nT 43 3 1\nT 44 3 4\nT 45 3 7\nT 46 1 12\nT 47 1 14\nT 48 3 12\nT 49 3 13\nT 50 3 14\nend\n"
unfolding digits sorted rotations reflections orientations corners_under act relative sights_of first_sight key arrangement contains stratum strata chart seen_under entry cone twist_key diagram lines_of tokens_of fraction_digits unsigned_fixed_text fixed_text tag entry_text at_text tail_text mesh_line ranks_line step_line rank_line total_line rank_text total_text end_line step fetched_before stands_before printed_order scripted closure by_vertices shared_points home_points home_words home_asks number_asks assigned layer held_cells held ranks_at owner is_shared owned own_key charts trace form_of with_form plan_from plan_of rank_by labels_at labels_text row_values dof_words data_text full_head states first_ranks due move_line ghost_line point_tail owned_line held_line closure_line trace_line turn_text window_line sum_line ranks_with ghosts_text owned_text held_text closure_of closures_text traces_text windows_text sums_text step_details step_lines text_of_steps whole_text
strip_redistributed_after_overlap = refl
