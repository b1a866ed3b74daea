use Rattle.std.proofs.Common.{◌≡◌, map}
use Rattle.plain_lists.specs.Lists.{below}
use Rattle.shared_forest.specs.sf_meet.Named.{least_at}
use Rattle.shared_forest.proofs.sf_meet.least.least_ids.Given as goal

abbrev pub invariant-loop-s : goal.invariant-loop-s
invariant-loop-s l = l.least.items ≡ map (least_at l.roots l.firsts l.seconds l.ids) (below l.s)
