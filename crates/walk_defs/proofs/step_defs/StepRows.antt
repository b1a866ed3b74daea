-- Worked rows: over two meshes, what is printed of the distributions that plans ask for is the headline's text of each step.
use Rattle.std.proofs.Common.{◌≡◌, ℕ, ◌-◌, ◌==◌, if◌then◌else◌, List, [], ◌∷◌, ◌++◌, map, pos, negsuc, true, refl}
use Rattle.mesh_defs.specs.declared.Place.TheVariants.{Node, Element}
use Rattle.mesh_defs.specs.Mesh.{Mesh}
use Rattle.sf_defs.specs.Rounds.{Round}
use Rattle.plex_defs.proofs.Meshes.{two_triangles, two_tetrahedra}
use Rattle.rank_defs.specs.Spread.{plain_dist, migration_forest}
use Rattle.input_defs.specs.declared.Step.{Step}
use Rattle.input_defs.specs.declared.Step.TheVariants as step
use Rattle.input_defs.specs.Plans.{DofsLine, Move, Part, Layers}
use Rattle.input_defs.specs.Refused.{Task}
use Rattle.input_defs.specs.States.{State}
use Rattle.headline_defs.specs.StepText.{Subject, home_round, number_round, step_text}
use Rattle.headline_defs.specs.Headline.{subject_of}
use Rattle.headline_defs.specs.Tops.{runs}
use Rattle.headline_defs.proofs.Runs.{task_of}
use Rattle.rank_defs.specs.Home.{bases_of, point_number}
use Rattle.plex_defs.specs.Labels.{mesh_label}
use Rattle.walk_defs.specs.Cones.{facet_by_cone, closure_by_cones}
use Rattle.poly_orient.specs.Group.{facet_on, facet_under, composition}
use Rattle.walk_defs.specs.step_defs.Words.{signed_of}
use Rattle.walk_defs.specs.step_defs.Numbers.{held_numbers}
use Rattle.walk_defs.specs.step_defs.Points.{labels_of, words_text, fields_of, tail_of}
use Rattle.walk_defs.specs.step_defs.Steps.{Printed, plain_rank, plain_ghosts, plain_total, point_line, plain_points, local_line, plain_locals, plain_closures, plain_traces, plain_round, plain_sums, plain_details, plain_step}
use Rattle.rank_defs.specs.Spread.{local_mesh, point_forest}
use Rattle.sf_defs.specs.Forest.{root_of}
use Rattle.plex_defs.specs.Fields.{data_words, fields}
use Rattle.std.specs.Prelude.{codes}
use Rattle.std.specs.Fmt.{digits}
use Rattle.plain_lists.specs.Lists.{sorted}
use Rattle.mesh_defs.specs.Orientation.{rotations, reflections, orientations, corners_under, act, relative}
use Rattle.mesh_defs.specs.Points.{sights_of, first_sight, key, arrangement, contains}
use Rattle.mesh_defs.specs.Diagram.{stratum, strata, chart, seen_under, entry, cone, twist_key, diagram}
use Rattle.input_defs.specs.line_defs.Rows.{lines_of, tokens_of}
use Rattle.input_defs.specs.line_defs.Numbers.{fraction_digits, unsigned_fixed_text, fixed_text}
use Rattle.input_defs.specs.text_defs.Text.{tag, entry_text, at_text, tail_text, mesh_line, ranks_line, step_line, rank_line, total_line, rank_text, total_text, end_line}
use Rattle.sf_defs.specs.Asks.{step}
use Rattle.sf_defs.specs.PrintedOrder.{fetched_before, stands_before, printed_order}
use Rattle.sf_defs.specs.Script.{scripted}
use Rattle.plex_defs.specs.Closure.{closure}
use Rattle.rank_defs.specs.Home.{by_vertices, shared_points, home_points, home_words, home_asks, number_asks}
use Rattle.rank_defs.specs.Ranks.{assigned, layer, held_cells, held, ranks_at, owner, is_shared, owned, own_key}
use Rattle.rank_defs.specs.Spread.{charts, trace}
use Rattle.plex_defs.specs.Fields.{row_values, dof_words}
use Rattle.input_defs.specs.Plans.{form_of, with_form, plan_from, plan_of, rank_by}
use Rattle.input_defs.specs.Further.{labels_at, labels_text, data_text, full_head}
use Rattle.input_defs.specs.States.{states, first_ranks}
use Rattle.headline_defs.specs.Rounds.{due}
use Rattle.headline_defs.specs.Lines.{move_line, ghost_line, point_tail, owned_line, held_line, closure_line, trace_line, turn_text, window_line, sum_line}
use Rattle.headline_defs.specs.StepText.{ranks_with, ghosts_text, owned_text, held_text, closure_of, closures_text, traces_text, windows_text, sums_text, step_details, step_lines, text_of_steps, whole_text}

abbrev step_of : Move → Step
step_of (Part spread) = step.Part
step_of (Layers k) = step.Overlap k

-- the rounds of a step: the home round in the first one, and the number round of a part
abbrev rounds_of : State → Move → List Round → List Round
rounds_of s (Part spread) rounds = (if s.steps == 1 then home_round rounds ∷ [] else []) ++ number_round s rounds ∷ []
rounds_of s (Layers k) rounds = []

-- what a step of a plan is printed of
abbrev printed : Subject → List Round → State → Printed
printed x rounds s =
    let bases = bases_of (number_round s rounds) in
    record {
      place = s.steps - 1;
      step = step_of s.move;
      dist = plain_dist x.mesh (map (λ (d : DofsLine). d.dofs) x.plan.dofs) s.ranks x.plan.ranks s.layers;
      bases = bases;
      numbers = held_numbers x.mesh s.ranks x.plan.ranks s.layers bases;
      trace = migration_forest x.mesh (first_ranks x.mesh x.plan) s.ranks x.plan.ranks;
      rounds = rounds_of s s.move rounds;
      show = x.show;
    }

abbrev texts : (Subject → List Round → State → List ℕ) → Task → List (List ℕ)
texts text task = map (text (subject_of task) (runs [] task)) (states task.mesh task.plan)

-- with marks of two values, data on vertices and on cells, negative ones too
abbrev marked : Mesh → Mesh
marked m = record m {
  marks = record { dim = 0; vertices = 1 ∷ []; value = pos 7 } ∷ record { dim = 2; vertices = 1 ∷ 2 ∷ 3 ∷ []; value = negsuc 1 } ∷ record { dim = 1; vertices = 2 ∷ 1 ∷ []; value = pos 3 } ∷ record { dim = 1; vertices = 1 ∷ 2 ∷ []; value = pos 2 } ∷ [];
  fields = record { on = Node; name = []; comps = 1; rows = record { number = 2; values = negsuc 9 ∷ [] } ∷ record { number = 1; values = pos 5 ∷ [] } ∷ record { number = 2; values = pos 10000000000 ∷ [] } ∷ [] }
      ∷ record { on = Element; name = []; comps = 3; rows = record { number = 1; values = negsuc 0 ∷ pos 0 ∷ pos 1 ∷ [] } ∷ [] } ∷ [];
}

-- two triangles on two ranks and back: every line
all_lines_of_triangles : texts (λ x rounds s. plain_step (printed x rounds s)) (task_of (marked two_triangles) (codes "ranks 2\ndofs u 1 0 2 0\npart 1 0\nshow points\nshow local\nshow closure\nshow trace\nshow windows\npart 0 1\noverlap 1\noverlap 0\n")) ≡ texts step_text (task_of (marked two_triangles) (codes "ranks 2\ndofs u 1 0 2 0\npart 1 0\nshow points\nshow local\nshow closure\nshow trace\nshow windows\npart 0 1\noverlap 1\noverlap 0\n"))
unfolding digits sorted rotations reflections orientations corners_under act relative sights_of first_sight key arrangement contains stratum strata chart seen_under entry cone twist_key diagram lines_of tokens_of fraction_digits unsigned_fixed_text fixed_text tag entry_text at_text tail_text mesh_line ranks_line step_line rank_line total_line rank_text total_text end_line step fetched_before stands_before printed_order scripted closure by_vertices shared_points home_points home_words home_asks number_asks assigned layer held_cells held ranks_at owner is_shared owned own_key charts trace form_of with_form plan_from plan_of rank_by labels_at labels_text row_values dof_words data_text full_head states first_ranks due move_line ghost_line point_tail owned_line held_line closure_line trace_line turn_text window_line sum_line ranks_with ghosts_text owned_text held_text closure_of closures_text traces_text windows_text sums_text step_details step_lines text_of_steps whole_text signed_of held_numbers labels_of words_text fields_of tail_of plain_rank plain_ghosts plain_total point_line plain_points local_line plain_locals plain_closures plain_traces plain_round plain_sums plain_details plain_step point_number mesh_label plain_dist migration_forest local_mesh point_forest root_of data_words fields facet_by_cone closure_by_cones facet_on facet_under composition
all_lines_of_triangles = refl

-- two tetrahedra, of which the first rank has the second: every line
all_lines_of_tetrahedra : texts (λ x rounds s. plain_step (printed x rounds s)) (task_of (marked two_tetrahedra) (codes "ranks 2\ndofs u 1 0 2 1\npart 1 0\nshow points\nshow local\nshow closure\nshow trace\nshow windows\n")) ≡ texts step_text (task_of (marked two_tetrahedra) (codes "ranks 2\ndofs u 1 0 2 1\npart 1 0\nshow points\nshow local\nshow closure\nshow trace\nshow windows\n"))
unfolding digits sorted rotations reflections orientations corners_under act relative sights_of first_sight key arrangement contains stratum strata chart seen_under entry cone twist_key diagram lines_of tokens_of fraction_digits unsigned_fixed_text fixed_text tag entry_text at_text tail_text mesh_line ranks_line step_line rank_line total_line rank_text total_text end_line step fetched_before stands_before printed_order scripted closure by_vertices shared_points home_points home_words home_asks number_asks assigned layer held_cells held ranks_at owner is_shared owned own_key charts trace form_of with_form plan_from plan_of rank_by labels_at labels_text row_values dof_words data_text full_head states first_ranks due move_line ghost_line point_tail owned_line held_line closure_line trace_line turn_text window_line sum_line ranks_with ghosts_text owned_text held_text closure_of closures_text traces_text windows_text sums_text step_details step_lines text_of_steps whole_text signed_of held_numbers labels_of words_text fields_of tail_of plain_rank plain_ghosts plain_total point_line plain_points local_line plain_locals plain_closures plain_traces plain_round plain_sums plain_details plain_step point_number mesh_label plain_dist migration_forest local_mesh point_forest root_of data_words fields facet_by_cone closure_by_cones facet_on facet_under composition
all_lines_of_tetrahedra = refl

-- the sums of the same
sums_of_tetrahedra : texts (λ x rounds s. plain_step (printed x rounds s)) (record (task_of (marked two_tetrahedra) (codes "ranks 2\ndofs u 1 0 2 1\npart 1 0\n")) { summary = true }) ≡ texts step_text (record (task_of (marked two_tetrahedra) (codes "ranks 2\ndofs u 1 0 2 1\npart 1 0\n")) { summary = true })
unfolding digits sorted rotations reflections orientations corners_under act relative sights_of first_sight key arrangement contains stratum strata chart seen_under entry cone twist_key diagram lines_of tokens_of fraction_digits unsigned_fixed_text fixed_text tag entry_text at_text tail_text mesh_line ranks_line step_line rank_line total_line rank_text total_text end_line step fetched_before stands_before printed_order scripted closure by_vertices shared_points home_points home_words home_asks number_asks assigned layer held_cells held ranks_at owner is_shared owned own_key charts trace form_of with_form plan_from plan_of rank_by labels_at labels_text row_values dof_words data_text full_head states first_ranks due move_line ghost_line point_tail owned_line held_line closure_line trace_line turn_text window_line sum_line ranks_with ghosts_text owned_text held_text closure_of closures_text traces_text windows_text sums_text step_details step_lines text_of_steps whole_text signed_of held_numbers labels_of words_text fields_of tail_of plain_rank plain_ghosts plain_total point_line plain_points local_line plain_locals plain_closures plain_traces plain_round plain_sums plain_details plain_step point_number mesh_label plain_dist migration_forest local_mesh point_forest root_of data_words fields facet_by_cone closure_by_cones facet_on facet_under composition
sums_of_tetrahedra = refl
