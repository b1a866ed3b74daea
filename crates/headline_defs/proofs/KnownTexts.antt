-- Worked rows: what of a text is known from the rounds that were kept.
use Rattle.std.proofs.Common.{◌≡◌, ℕ, List, [], ◌++◌, take, Option, Some, None, refl}
use Rattle.std.specs.Prelude.{codes}
use Rattle.std.specs.Fmt.{digits}
use Rattle.plain_lists.specs.Lists.{sorted}
use Rattle.mesh_defs.specs.Orientation.{rotations, reflections, orientations, corners_under, act, relative}
use Rattle.mesh_defs.specs.Points.{sights_of, first_sight, key, arrangement, contains}
use Rattle.mesh_defs.specs.Diagram.{stratum, strata, chart, seen_under, entry, cone, twist_key, diagram}
use Rattle.input_defs.specs.line_defs.Rows.{lines_of, tokens_of}
use Rattle.input_defs.specs.line_defs.Numbers.{fraction_digits, unsigned_fixed_text, fixed_text}
use Rattle.input_defs.specs.text_defs.Text.{tag, entry_text, at_text, tail_text, mesh_line, ranks_line, step_line, rank_line, total_line, rank_text, total_text, end_line}
use Rattle.sf_defs.specs.Asks.{step}
use Rattle.sf_defs.specs.PrintedOrder.{fetched_before, stands_before, printed_order}
use Rattle.sf_defs.specs.Script.{scripted}
use Rattle.plex_defs.specs.Closure.{closure}
use Rattle.rank_defs.specs.Home.{by_vertices, shared_points, home_points, home_words, home_asks, number_asks}
use Rattle.rank_defs.specs.Ranks.{assigned, layer, held_cells, held, ranks_at, owner, is_shared, owned, own_key}
use Rattle.rank_defs.specs.Spread.{charts, trace}
use Rattle.plex_defs.proofs.Meshes.{two_triangles}
use Rattle.plex_defs.specs.Fields.{row_values, dof_words}
use Rattle.input_defs.specs.Plans.{form_of, with_form, plan_from, plan_of, rank_by}
use Rattle.input_defs.specs.Further.{labels_at, labels_text, data_text, full_head}
use Rattle.input_defs.specs.States.{states, first_ranks}
use Rattle.headline_defs.specs.Rounds.{due}
use Rattle.headline_defs.specs.Lines.{move_line, ghost_line, point_tail, owned_line, held_line, closure_line, trace_line, turn_text, window_line, sum_line}
use Rattle.headline_defs.specs.StepText.{ranks_with, ghosts_text, owned_text, held_text, closure_of, closures_text, traces_text, windows_text, sums_text, step_details, step_lines, text_of_steps, whole_text, known_text}
use Rattle.headline_defs.specs.Headline.{subject_of}
use Rattle.headline_defs.specs.Tops.{runs}
use Rattle.headline_defs.proofs.Runs.{task_of}

-- the first rounds of two triangles that change their ranks, with a layer of overlap in between
abbrev known : ℕ → Option (List ℕ)
known n = let task = task_of two_triangles (codes "ranks 2\npart 0 1\noverlap 1\npart 1 0\n") in known_text (subject_of task) (take n (runs [] task))

abbrev first_steps : List ℕ
first_steps = codes "mesh dim 2 cells 2 vertices 4 unused 0 loose 0 merged 0\nranks 2\nstep 0 part\nrank 0 cells 1 held 7 owned 7 base 0\nrank 1 cells 1 held 7 owned 4 base 7\nghost 1 0 3\ntotal 11 cells 2 vertices 4 faces 0 edges 5\nstep 1 overlap 1\nrank 0 cells 1 held 11 owned 7 base 0\nrank 1 cells 1 held 11 owned 4 base 7\nghost 0 1 4\nghost 1 0 7\ntotal 11 cells 2 vertices 4 faces 0 edges 5\n"

-- nothing before the first number round; both steps before the second part; and then all
known_by_rounds : (known 0 ≡ None) × (known 1 ≡ None) × (known 2 ≡ Some first_steps)
    × (known 3 ≡ Some (first_steps ++ codes "step 2 part\nrank 0 cells 1 held 7 owned 7 base 0\nrank 1 cells 1 held 7 owned 4 base 7\nghost 1 0 3\ntotal 11 cells 2 vertices 4 faces 0 edges 5\nend\n"))
unfolding digits sorted rotations reflections orientations corners_under act relative sights_of first_sight key arrangement contains stratum strata chart seen_under entry cone twist_key diagram lines_of tokens_of fraction_digits unsigned_fixed_text fixed_text tag entry_text at_text tail_text mesh_line ranks_line step_line rank_line total_line rank_text total_text end_line step fetched_before stands_before printed_order scripted closure by_vertices shared_points home_points home_words home_asks number_asks assigned layer held_cells held ranks_at owner is_shared owned own_key charts trace form_of with_form plan_from plan_of rank_by labels_at labels_text row_values dof_words data_text full_head states first_ranks due move_line ghost_line point_tail owned_line held_line closure_line trace_line turn_text window_line sum_line ranks_with ghosts_text owned_text held_text closure_of closures_text traces_text windows_text sums_text step_details step_lines text_of_steps whole_text known_text
known_by_rounds = (refl, refl, refl, refl)
