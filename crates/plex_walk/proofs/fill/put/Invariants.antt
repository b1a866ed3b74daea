use Rattle.std.proofs.Common.{take}
use Rattle.plex_walk.specs.Filling.{IsPut}
use Rattle.plex_walk.proofs.fill.put.Given as goal

abbrev pub invariant-loop-k : goal.invariant-loop-k
invariant-loop-k l = IsPut l.q (take l.k l.cone) l.initial.ends l.initial.points l.ends l.points
