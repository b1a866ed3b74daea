use Rattle.std.proofs.Common.{take}
use Rattle.plex_walk.specs.Filling.{IsCounted}
use Rattle.plex_walk.proofs.fill.count_cone.Given as goal

abbrev pub invariant-loop-k : goal.invariant-loop-k
invariant-loop-k l = IsCounted (take l.k l.cone) l.initial.counts l.counts
