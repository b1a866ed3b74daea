use Rattle.std.proofs.Common.{◌≡◌, ◌+◌, ◌-◌, ◌++◌, replicate, sym, subst, ◌∙◌, arith}
use Rattle.std.specs.Vec.{vec_len}
use Rattle.std.proofs.lemmas.List.{take_all}
use Rattle.sf_defs.specs.Forest.{degree}
use Rattle.shared_forest.specs.sf_meet.SlotRoots.{AreSlotRoots}
use Rattle.shared_forest.proofs.sf_meet.Places.{slot-roots-none, slot-roots-more}
use Rattle.shared_forest.proofs.sf_meet.slot_roots.slot_roots.Goals as goal

pub loop-index-init : goal.loop-index-init
loop-index-init c = subst (AreSlotRoots c.args.f.now c.args.rank 0) (sym c.new-roots.ensures.items) (slot-roots-none c.args.f.now c.args.rank)

pub loop-index-preserved : goal.loop-index-preserved
loop-index-preserved c =
    let old = c.loop-index.roots.items in
    let count : c.len.result + c.degree.result - vec_len c.loop-index.roots ≡ degree c.args.f.now c.args.rank c.loop-index.index = omega arith in
    slot-roots-more c.args.f.now c.args.rank c.loop-index.index old c.resize.new.self.items c.loop-index.invariant
    (c.in_ok-resize.ensures.items ∙ ((λ i. take_all (c.len.result + c.degree.result) old (omega arith) i ++ replicate (count i) c.loop-index.index)))
