use Rattle.std.proofs.Common.{◌^◌, ◌<◌, List, arith, subst}
use Rattle.mesh_defs.specs.declared.ConeEntry.{ConeEntry}
use Rattle.plex_walk.specs.Filling.{IsCounted}
use Rattle.plex_walk.proofs.Filling.{sizes-more, sizes-small}
use Rattle.plex_walk.proofs.fill.count.Goals as goal

pub count_cone-requires-clause-fits : goal.count_cone-requires-clause-fits
count_cone-requires-clause-fits c j within =
    let low : c.loop-q.q < 2 ^ 32 = omega (arith, c.chart-q-end.ensures.count, c.chart-q-end.type_inv) in
    sizes-small c.args.x.now c.loop-q.q c.loop-q.counts (2 ^ 32) c.loop-q.invariant low j within

pub loop-q-preserved : goal.loop-q-preserved
loop-q-preserved c =
    sizes-more c.args.x.now c.loop-q.q c.loop-q.counts c.count_cone.new.counts c.loop-q.invariant
    (subst (λ (cone : List ConeEntry). IsCounted cone c.loop-q.counts c.count_cone.new.counts) c.cone.ensures.value c.count_cone.ensures)
