use Rattle.std.proofs.Common.{length}
use Rattle.plex_walk.specs.Filling.{IsFilled}
use Rattle.plex_walk.proofs.fill.fill.Given as goal

abbrev pub invariant-loop-q : goal.invariant-loop-q
invariant-loop-q l = IsFilled l.x l.q l.initial.ends (length l.initial.points) l.ends l.points
