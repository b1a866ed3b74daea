use Rattle.std.proofs.Common.{◌<◌, [], ℕ, List, length, arith, ap, sym, subst, ◌∙◌}
use Rattle.std.specs.Prelude.{zip}
use Rattle.std.specs.List.{AllByRecursion}
use Rattle.plain_lists.specs.Vectors.{lists_of}
use Rattle.sf_defs.specs.Forest.{leaves_on}
use Rattle.sf_ops.proofs.Words.{lists_of-push}
use Rattle.sf_defs.specs.slots.Slots.{slot_leaves, slotted}
use Rattle.sf_ops.proofs.slots.Lone.{IsDrawn, pairs-drawn}
use Rattle.sf_ops.proofs.slots.Listing.{drawn-count, drawn-of-rank, slotted-count, slotted-own, made-more, made-all}
use Rattle.sf_ops.proofs.slots.making.leaves_on_slots.Goals as goal

pub slot_leaves-requires-clause-count : goal.slot_leaves-requires-clause-count
slot_leaves-requires-clause-count c = ap length c.got.ensures ∙ drawn-count c.args.a.now c.args.round.now.got c.loop-rank.rank c.requires.draws

pub slot_leaves-requires-clause-within : goal.slot_leaves-requires-clause-within
slot_leaves-requires-clause-within c =
    let within : c.loop-rank.rank < length c.args.a.now.leaves = omega (arith, c.ranks-rank-end.ensures.ranks, c.ranks-rank-end.ensures.for_ranks.ranks) in
    subst (λ (ds : List ℕ). AllByRecursion (IsDrawn c.args.a.now) (zip (leaves_on c.args.a.now c.loop-rank.rank) ds)) (sym c.got.ensures) (drawn-of-rank c.args.a.now c.args.round.now.got c.loop-rank.rank c.requires.draws within (pairs-drawn c.args.a.now c.args.round.now.got c.requires.draws))

pub loop-rank-preserved : goal.loop-rank-preserved
loop-rank-preserved c =
    let within : c.loop-rank.rank < length c.args.a.now.leaves = omega (arith, c.ranks-rank-end.ensures.ranks, c.ranks-rank-end.ensures.for_ranks.ranks) in
    let inside : c.loop-rank.rank < length (slotted c.args.a.now c.args.round.now.got).leaves = omega (arith, slotted-count c.args.a.now c.args.round.now.got c.requires.draws) in
    ap (λ vs. lists_of vs) c.in_ok-push.ensures.items ∙ (lists_of-push c.loop-rank.leaves.items c.in_ok-slot_leaves.field-0
    ∙ made-more (slotted c.args.a.now c.args.round.now.got).leaves (lists_of c.loop-rank.leaves.items) c.in_ok-slot_leaves.field-0.items [] c.loop-rank.rank c.loop-rank.invariant inside
    (c.in_ok-slot_leaves.ensures ∙ (ap (slot_leaves c.args.a.now (leaves_on c.args.a.now c.loop-rank.rank)) c.got.ensures ∙ slotted-own c.args.a.now c.args.round.now.got c.loop-rank.rank c.requires.draws within)))

pub returns : goal.returns
returns c = made-all (slotted c.args.a.now c.args.round.now.got).leaves (lists_of c.loop-rank.leaves.items) c.loop-rank.rank c.loop-rank.invariant (omega (arith, slotted-count c.args.a.now c.args.round.now.got c.requires.draws, c.ranks-rank-end.ensures.ranks, c.ranks-rank-end.ensures.for_ranks.ranks))
