-- Worked rows: plans, the first faults of plans, ranks of cells, and plans that do not fit.
use Rattle.std.proofs.Common.{◌≡◌, ℕ, true, false, List, [], ◌∷◌, map, Option, Some, None, Ok, Err, refl}
use Rattle.std.specs.Prelude.{Result, codes}
use Rattle.input_defs.specs.line_defs.Rows.{lines_of, tokens_of}
use Rattle.input_defs.specs.Plans.{form_of, with_form, plan_from, plan_of, rank_by, misfits, misfit}
use Rattle.std.specs.Result.{result_err}
use Rattle.plain_lists.specs.Lists.{below}
use Rattle.input_defs.specs.declared.PlanFault.{PlanFault}
use Rattle.input_defs.specs.declared.PlanFault.TheVariants.{Word, Ranks, NoPart, Overlap, Dofs, Steps, PartLength, PartRank, Weight}
use Rattle.input_defs.specs.Plans.{Plan, Block, Stripe, Listed, Part, Layers, showing, plain_plan}

abbrev fault : List ℕ → Option PlanFault
fault bytes = result_err (plan_of bytes)

-- ---- the first fault and its line

refused_plans : map fault
    (codes "ranks 0\npart block\n"
    ∷ codes "ranks 65\npart block\n"
    ∷ codes "ranks 1\npart block\noverlap 5\n"
    ∷ codes "ranks 1\n"
    ∷ codes "ranks 1\nparts block\n"
    ∷ codes "\n"
    ∷ codes "ranks 1\nranks 0\n"
    ∷ codes "part block\nranks 1\n"
    ∷ codes "ranks 1\noverlap 9\npart block\n"
    ∷ codes "ranks 0000000001\npart block\n"
    ∷ codes "ranks -1\n"
    ∷ codes "ranks 1\npart\n"
    ∷ codes "ranks 1\npart block 0\n"
    ∷ codes "ranks 1\npart 0 x\n"
    ∷ codes "ranks 1\npart block\noverlap\n"
    ∷ codes "ranks 1\npart block\noverlap 3\noverlap 0\noverlap 4\npart stripe\noverlap 2\noverlap 3\n"
    ∷ codes "ranks 1\nshow all\n"
    ∷ codes "dofs u 0 0 0\n"
    ∷ codes "dofs u- 0 0 0 0\n"
    ∷ codes "dofs u 0 0 17 0\n"
    ∷ codes "dofs u 1 0 0 0\ndofs v 1 0 0 0\ndofs u 0 0 0 1\n"
    ∷ codes "dofs aaaaaaaaaaaaaaaaaaaaaaaaaaaaaaaaa 0 0 0 0\n"
    ∷ codes "dofs a0 0 0 0 0\ndofs a1 0 0 0 0\ndofs a2 0 0 0 0\ndofs a3 0 0 0 0\ndofs a4 0 0 0 0\ndofs a5 0 0 0 0\ndofs a6 0 0 0 0\ndofs a7 0 0 0 0\ndofs a8 0 0 0 0\n"
    ∷ codes "ranks 2\npart block\npart block\npart block\npart block\npart block\npart block\npart block\npart block\npart block\npart block\npart block\npart block\npart block\npart block\npart block\npart block\npart block\npart block\npart block\npart block\npart block\npart block\npart block\npart block\npart block\npart block\npart block\npart block\npart block\npart block\npart block\npart block\npart block\n"
    ∷ codes "ranks 2\npart block\noverlap 0\noverlap 0\noverlap 0\noverlap 0\noverlap 0\noverlap 0\noverlap 0\noverlap 0\noverlap 0\noverlap 0\noverlap 0\noverlap 0\noverlap 0\noverlap 0\noverlap 0\noverlap 0\noverlap 0\noverlap 0\noverlap 0\noverlap 0\noverlap 0\noverlap 0\noverlap 0\noverlap 0\noverlap 0\noverlap 0\noverlap 0\noverlap 0\noverlap 0\noverlap 0\noverlap 0\noverlap 5\n"
    ∷ [])
    ≡ Some (Ranks 1 0) ∷ Some (Ranks 1 65) ∷ Some (Overlap 3 5) ∷ Some (NoPart 2) ∷ Some (Word 2) ∷ Some (NoPart 2) ∷ Some (Word 2) ∷ Some (Word 1) ∷ Some (NoPart 2) ∷ Some (Word 1) ∷ Some (Word 1) ∷ Some (Word 2) ∷ Some (Word 2) ∷ Some (Word 2) ∷ Some (Word 3) ∷ Some (Overlap 8 5) ∷ Some (Word 2) ∷ Some (Word 1) ∷ Some (Dofs 1) ∷ Some (Dofs 1) ∷ Some (Dofs 3) ∷ Some (Dofs 1) ∷ Some (Dofs 9) ∷ Some (Steps 34) ∷ Some (Steps 34) ∷ []
unfolding lines_of tokens_of form_of with_form plan_from plan_of rank_by misfits misfit
refused_plans = refl

-- the end of a plan without LF after it is on its last line
no_part_in_one_line : fault (codes "ranks 1") ≡ Some (NoPart 1)
unfolding lines_of tokens_of form_of with_form plan_from plan_of rank_by misfits misfit
no_part_in_one_line = refl

-- ---- right plans

-- comments, blank lines, blanks, CR LF and leading zeros; overlap adds up after each part and falls back to 0
whole_plan : plan_of (codes "  # a plan\n\nranks 02\t\r\n dofs u_1 1 0 0 16\npart 1 0 1\nshow local\n#overlap 9\noverlap 3\noverlap 1\nshow windows\npart stripe\noverlap 0\nshow local\npart block\n") ≡ Ok (record {
  ranks = 2;
  moves = (5, Part (Listed (1 ∷ 0 ∷ 1 ∷ []))) ∷ (8, Layers 3) ∷ (9, Layers 1) ∷ (11, Part Stripe) ∷ (12, Layers 0) ∷ (14, Part Block) ∷ [];
  dofs = record { name = codes "u_1"; dofs = 1 ∷ 0 ∷ 0 ∷ 16 ∷ [] } ∷ [];
  shows = showing false true false false true;
})
unfolding lines_of tokens_of form_of with_form plan_from plan_of rank_by misfits misfit
whole_plan = refl

pub plain_plan_in_words : plan_of (codes "ranks 1\npart block\nshow points\n") ≡ Ok plain_plan
unfolding lines_of tokens_of form_of with_form plan_from plan_of rank_by misfits misfit
plain_plan_in_words = refl

-- ---- the ranks of cells

blocks_of_eight : map (λ cell. rank_by 3 Block cell 8) (below 8) ≡ 0 ∷ 0 ∷ 0 ∷ 1 ∷ 1 ∷ 1 ∷ 2 ∷ 2 ∷ []
unfolding rank_by
blocks_of_eight = refl

stripes_of_eight : map (λ cell. rank_by 3 Stripe cell 8) (below 8) ≡ 0 ∷ 1 ∷ 2 ∷ 0 ∷ 1 ∷ 2 ∷ 0 ∷ 1 ∷ []
unfolding rank_by
stripes_of_eight = refl

listed_ranks : map (λ cell. rank_by 3 (Listed (2 ∷ 0 ∷ 1 ∷ [])) cell 3) (below 3) ≡ 2 ∷ 0 ∷ 1 ∷ []
unfolding rank_by
listed_ranks = refl

-- ---- plans that do not fit

abbrev misfit_where : ℕ → Result Plan PlanFault → Option PlanFault
misfit_where cells (Ok plan) = misfit plan cells
misfit_where cells (Err fault) = None

abbrev misfit_of : ℕ → List ℕ → Option PlanFault
misfit_of cells bytes = misfit_where cells (plan_of bytes)

plans_for_two_cells : map (misfit_of 2) (codes "ranks 2\npart 0\n" ∷ codes "ranks 2\npart 0 2\n" ∷ codes "ranks 2\npart 0 1\n" ∷ codes "ranks 2\npart 0 1\npart 3 2 5\npart 0\n" ∷ codes "ranks 2\npart 0 1\npart 9 2\n" ∷ [])
    ≡ Some (PartLength 2 2 1) ∷ Some (PartRank 2 2) ∷ None ∷ Some (PartLength 3 2 3) ∷ Some (PartRank 3 9) ∷ []
unfolding lines_of tokens_of form_of with_form plan_from plan_of rank_by misfits misfit
plans_for_two_cells = refl

plans_for_many_cells : map (misfit_of 250000) (codes "ranks 17\npart block\noverlap 1\n" ∷ codes "ranks 16\npart block\noverlap 1\n" ∷ codes "ranks 17\npart block\noverlap 0\n" ∷ [])
    ≡ Some (Weight 3 250000 17) ∷ None ∷ None ∷ []
unfolding lines_of tokens_of form_of with_form plan_from plan_of rank_by misfits misfit
plans_for_many_cells = refl
