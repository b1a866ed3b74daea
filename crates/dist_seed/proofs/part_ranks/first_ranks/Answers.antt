use Rattle.std.proofs.Common.{◌≡◌, ◌≤◌, ◌∷◌, ◌++◌, [], map, length, Some, ap, sym, subst, ◌∙◌, arith}
use Rattle.std.specs.Prelude.{option_map}
use Rattle.plain_lists.specs.Lists.{below}
use Rattle.input_defs.specs.Plans.{rank_by}
use Rattle.input_defs.specs.States.{assignment}
use Rattle.rank_defs.specs.Ranks.{IsRightAssignment}
use Rattle.plan_reader.specs.Drafts.{spread_at}
use Rattle.dist_seed.proofs.part_ranks.FirstPart.{begins, first-are, first-right, assigned-more, spread-is}
use Rattle.dist_seed.proofs.part_ranks.first_ranks.Goals as goal

pub loop-c-preserved : goal.loop-c-preserved
loop-c-preserved c = λ spread is.
    let plan = c.args.plan.now.plan in
    let cells = length c.args.mesh.now.cells in
    let told : option_map (λ s. rank_by plan.ranks s c.loop-c.c cells) (spread_at plan.moves 0) ≡ Some c.rank_of.result =
    ap (λ n. option_map (λ s. rank_by plan.ranks s c.loop-c.c n) (spread_at plan.moves 0)) (sym c.cells-in-loop-c.ensures) ∙ c.rank_of.ensures in
    c.in_ok-push.ensures.items
    ∙ ap (λ l. l ++ c.rank_of.result ∷ []) (c.loop-c.invariant spread is)
    ∙ sym (assigned-more plan.ranks cells c.loop-c.c c.rank_of.result spread (spread_at plan.moves 0) is told)

pub returns : goal.returns
returns c =
    let m = c.args.mesh.now in
    let plan = c.args.plan.now.plan in
    let spread = spread-is (spread_at plan.moves 0) c.ranks-ranks.ensures.part in
    let first = begins plan.moves spread.0 spread.1 in
    let all : c.loop-c.c ≡ length m.cells = omega (arith, c.loop-c-test.false, c.loop-c.auto.c-end, c.cells-c-end.ensures) in
    let ranks : c.loop-c.ranks.items ≡ assignment plan.ranks (length m.cells) spread.0 = c.loop-c.invariant spread.0 spread.1 ∙ ap (λ n. map (λ k. rank_by plan.ranks spread.0 k (length m.cells)) (below n)) all in
    let some : 1 ≤ plan.ranks = omega (arith, c.ranks-ranks.ensures.ranks, c.ranks-ranks.ensures.some) in
    let few : plan.ranks ≤ 64 = omega (arith, c.ranks-ranks.ensures.ranks, c.ranks-ranks.ensures.few) in
    record {
      ranks = ranks ∙ sym (first-are m plan spread.0 first);
      right = subst (IsRightAssignment m plan.ranks) (sym ranks) (first-right m plan spread.0 first some few c.requires);
    }
