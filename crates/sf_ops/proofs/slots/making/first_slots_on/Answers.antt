use Rattle.std.proofs.Common.{◌++◌, ◌∷◌, ◌+◌, [], ◌≡◌, arith, ap, sym, ◌∙◌, add-one}
use Rattle.sf_defs.specs.Forest.{roots_on}
use Rattle.sf_defs.specs.slots.Slots.{first_slot, first_slots_on}
use Rattle.sf_ops.proofs.slots.Listing.{firsts-more, slot-fits}
use Rattle.sf_ops.proofs.slots.Places.{first_slot-none, first_slot-more}
use Rattle.sf_ops.proofs.slots.making.first_slots_on.Goals as goal

pub loop-index-init : goal.loop-index-init
loop-index-init c = record { firsts = c.in_ok-firsts.ensures.items; first = sym (first_slot-none c.args.a.now c.args.rank) }

pub overflow_add-first : goal.overflow_add-first
overflow_add-first c = omega (arith, c.roots-index-end.ensures, c.degree-first.ensures, c.loop-index.invariant.first, slot-fits c.args.a.now c.args.rank c.loop-index.index c.requires.for_ranks c.requires.rank (omega (arith, c.roots-index-end.ensures)))

pub loop-index-preserved : goal.loop-index-preserved
loop-index-preserved c = record {
  firsts = c.in_ok-push.ensures.items ∙ ((λ i. c.loop-index.invariant.firsts i ++ c.loop-index.invariant.first i ∷ []) ∙ sym (firsts-more c.args.a.now c.args.rank c.loop-index.index));
  first = (λ i. c.loop-index.invariant.first i + c.degree-first.ensures i) ∙ (sym (first_slot-more c.args.a.now c.args.rank c.loop-index.index) ∙ ap (first_slot c.args.a.now c.args.rank) (sym (add-one c.loop-index.index)));
}

pub returns : goal.returns
returns c =
    let all : c.loop-index.index ≡ roots_on c.args.a.now c.args.rank = omega (arith, c.roots-index-end.ensures) in
    c.of.ensures ∙ (c.in_ok-push-2.ensures.items ∙ ((λ i. c.loop-index.invariant.firsts i ++ c.loop-index.invariant.first i ∷ []) ∙ (sym (firsts-more c.args.a.now c.args.rank c.loop-index.index) ∙ ap (first_slots_on c.args.a.now c.args.rank) all)))
