use Rattle.plex_walk.specs.Filling.{AreSizes}
use Rattle.plex_walk.proofs.fill.count.Given as goal

abbrev pub invariant-loop-q : goal.invariant-loop-q
invariant-loop-q l = AreSizes l.x l.q l.counts
