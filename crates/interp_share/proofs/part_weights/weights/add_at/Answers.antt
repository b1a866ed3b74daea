use Rattle.std.proofs.Common.{◌^◌}
use Rattle.rank_laws.proofs.cell_laws.Adding.{added-more, added-fits}
use Rattle.interp_share.proofs.part_weights.weights.add_at.Goals as goal

pub overflow_add-index_mut : goal.overflow_add-index_mut
overflow_add-index_mut c =
    record { fits = added-fits c.args.value c.args.places.now c.args.weights.now.items c.loop-place.weights.items c.loop-place.place-index c.index_mut.result.now (2 ^ 64) c.loop-place-test.true c.requires.places c.index_mut.ensures.value c.loop-place.invariant c.requires.room }

pub loop-place-preserved : goal.loop-place-preserved
loop-place-preserved c = added-more c.args.value c.args.places.now c.args.weights.now.items c.loop-place.weights.items c.loop-place.place-index c.index_mut.result.now c.loop-place-test.true c.requires.places c.index_mut.ensures.value c.loop-place.invariant
