use Rattle.std.proofs.Common.{◌≡◌, ◌≤◌, map, length, ap, sym, subst, ◌∙◌, arith}
use Rattle.plain_lists.specs.Lists.{below}
use Rattle.input_defs.specs.States.{first_ranks}
use Rattle.rank_defs.specs.Ranks.{IsRightAssignment}
use Rattle.rank_defs.specs.Spread.{PlainScatter, IsScatter}
use Rattle.plan_reader.specs.Drafts.{counts_of}
use Rattle.dist_seed.specs.rank_cells.Own.{held_of}
use Rattle.dist_seed.specs.Parts.{part_given}
use Rattle.dist_seed.proofs.Seeded.{length-held, whole-scatter, seeded}
use Rattle.dist_seed.proofs.seeding.seed.Goals as goal

pub vertex_owners-requires-clause-right : goal.vertex_owners-requires-clause-right
vertex_owners-requires-clause-right g c =
    let m = c.args.mesh.now in
    let n = c.args.plan.now.plan.ranks in
    let a = c.in_ok-ranks.ranks.items in
    let held = c.in_ok-held.held.items in
    let are : held ≡ map (held_of m a) (below n) = c.in_ok-held.ensures ∙ (λ i. map (held_of m (c.deref.ensures.value i)) (below (c.ranks.ensures.ranks i))) in
    let size : length c.deref-3.result.now ≡ n = ap length c.deref-3.ensures.value ∙ length-held m a n held are in
    coe 1 0 (i. IsRightAssignment m (size i) (c.deref-2.ensures.value i)) c.in_ok-ranks.ensures.right

pub vertex_owners-requires-clause-held : goal.vertex_owners-requires-clause-held
vertex_owners-requires-clause-held g c =
    let m = c.args.mesh.now in
    let n = c.args.plan.now.plan.ranks in
    let a = c.in_ok-ranks.ranks.items in
    let held = c.in_ok-held.held.items in
    let are : held ≡ map (held_of m a) (below n) = c.in_ok-held.ensures ∙ (λ i. map (held_of m (c.deref.ensures.value i)) (below (c.ranks.ensures.ranks i))) in
    let size : length c.deref-3.result.now ≡ n = ap length c.deref-3.ensures.value ∙ length-held m a n held are in
    record { each = c.deref-3.ensures.value ∙ are ∙ sym (λ i. map (held_of m (c.deref-2.ensures.value i)) (below (size i))) }

pub parts_of-requires-clause-few : goal.parts_of-requires-clause-few
parts_of-requires-clause-few g c κs within =
    let m = c.args.mesh.now in
    let n = c.args.plan.now.plan.ranks in
    let a = c.in_ok-ranks.ranks.items in
    let held = c.in_ok-held.held.items in
    let are : held ≡ map (held_of m a) (below n) = c.in_ok-held.ensures ∙ (λ i. map (held_of m (c.deref.ensures.value i)) (below (c.ranks.ensures.ranks i))) in
    let count = length-held m a n held are in
    omega (arith, count, c.ranks.ensures.ranks, c.ranks.ensures.few)

pub parts_of-requires-clause-held : goal.parts_of-requires-clause-held
parts_of-requires-clause-held g c κs within =
    let m = c.args.mesh.now in
    let n = c.args.plan.now.plan.ranks in
    let a = c.in_ok-ranks.ranks.items in
    let held = c.in_ok-held.held.items in
    let are : held ≡ map (held_of m a) (below n) = c.in_ok-held.ensures ∙ (λ i. map (held_of m (c.deref.ensures.value i)) (below (c.ranks.ensures.ranks i))) in
    let count = length-held m a n held are in
    are ∙ sym (λ i. map (held_of m (c.deref-4.ensures.value i)) (below (count i)))

pub of-requires : goal.of-requires
of-requires g c =
    let m = c.args.mesh.now in
    let n = c.args.plan.now.plan.ranks in
    let a = c.in_ok-ranks.ranks.items in
    let held = c.in_ok-held.held.items in
    let are : held ≡ map (held_of m a) (below n) = c.in_ok-held.ensures ∙ (λ i. map (held_of m (c.deref.ensures.value i)) (below (c.ranks.ensures.ranks i))) in
    let count = length-held m a n held are in
    let s : PlainScatter = record { whole = c.cells.result; sections = c.in_ok-sections.sections.items; dofs = c.in_ok-dofs.dofs.items; parts = c.in_ok-parts.parts.items } in
    let parts : s.parts ≡ map (part_given m a) (below n) = c.in_ok-parts.ensures ∙ (λ i. map (part_given m (c.deref-4.ensures.value i)) (below (count i))) in
    let some : 1 ≤ n = omega (arith, c.ranks.ensures.ranks, c.ranks.ensures.some) in
    let few : n ≤ 64 = omega (arith, c.ranks.ensures.ranks, c.ranks.ensures.few) in
    let lines = ap length c.in_ok-dofs.ensures in
    let few_lines : length s.dofs ≤ 8 = omega (arith, lines, c.dofs-dofs.ensures.right.few_lines) in
    whole-scatter m a n s parts c.in_ok-sections.ensures.sections some few c.in_ok-sections.ensures.few few_lines

pub returns-clause-scatter : goal.returns-clause-scatter
returns-clause-scatter g c =
    let m = c.args.mesh.now in
    let plan = c.args.plan.now.plan in
    let n = plan.ranks in
    let a = c.in_ok-ranks.ranks.items in
    let held = c.in_ok-held.held.items in
    let are : held ≡ map (held_of m a) (below n) = c.in_ok-held.ensures ∙ (λ i. map (held_of m (c.deref.ensures.value i)) (below (c.ranks.ensures.ranks i))) in
    let count = length-held m a n held are in
    let dofs = counts_of plan.dofs in
    let s : PlainScatter = record { whole = c.cells.result; sections = c.in_ok-sections.sections.items; dofs = c.in_ok-dofs.dofs.items; parts = c.in_ok-parts.parts.items } in
    let parts : s.parts ≡ map (part_given m a) (below n) = c.in_ok-parts.ensures ∙ (λ i. map (part_given m (c.deref-4.ensures.value i)) (below (count i))) in
    subst (λ t. IsScatter t m dofs (first_ranks m plan) n) (sym c.of.ensures)
    (subst (λ b. IsScatter s m dofs b n) c.in_ok-ranks.ensures.ranks
    (seeded m a n s parts c.in_ok-sections.ensures.sections dofs c.dim-dim.ensures.right c.dofs-dofs.ensures.right c.in_ok-ranks.ensures.right c.cells.ensures c.in_ok-dofs.ensures))
