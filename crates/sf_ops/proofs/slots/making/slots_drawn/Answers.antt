use Rattle.std.proofs.Common.{sym, subst, ◌∙◌}
use Rattle.plain_lists.specs.Vectors.{lists_of}
use Rattle.sf_graph.specs.Parts.{IsForRanks}
use Rattle.sf_defs.specs.slots.Slots.{HasLoneLeaves}
use Rattle.sf_ops.proofs.slots.Lone.{lone-leaves}
use Rattle.sf_ops.proofs.slots.Listing.{slotted-whole, slotted-fits}
use Rattle.sf_ops.proofs.slots.making.slots_drawn.Goals as goal

pub made_of-requires : goal.made_of-requires
made_of-requires c =
    let whole = slotted-whole c.args.a.now c.args.round.now.got c.in_ok-roots.roots.items (lists_of c.in_ok-leaves.leaves.items) c.in_ok-roots.ensures.counts c.in_ok-leaves.ensures in
    subst IsForRanks (sym whole) (slotted-fits c.args.a.now c.args.round.now.got c.in_ok-roots.ensures.for_ranks c.requires)

pub of-requires : goal.of-requires
of-requires c =
    let whole = slotted-whole c.args.a.now c.args.round.now.got c.in_ok-roots.roots.items (lists_of c.in_ok-leaves.leaves.items) c.in_ok-roots.ensures.counts c.in_ok-leaves.ensures in
    subst HasLoneLeaves (sym (c.in_ok-forest.ensures ∙ whole)) (lone-leaves c.args.a.now c.args.round.now.got c.requires)

pub returns : goal.returns
returns c =
    let whole = slotted-whole c.args.a.now c.args.round.now.got c.in_ok-roots.roots.items (lists_of c.in_ok-leaves.leaves.items) c.in_ok-roots.ensures.counts c.in_ok-leaves.ensures in
    record {
      drawn = c.args.round.now.got;
      draws = c.requires;
      forest = c.of.ensures.forest ∙ (c.in_ok-forest.ensures ∙ whole);
      firsts = c.of.ensures.firsts ∙ c.in_ok-firsts.ensures;
    }
