use Rattle.std.specs.HashMap as hash
use Rattle.shared_forest.specs.sf_meet.Named.{same_name}
use Rattle.shared_forest.proofs.sf_meet.Names.{HasLeast}
use Rattle.shared_forest.proofs.sf_meet.least.least_by_name.Given as goal

abbrev pub invariant-loop-s : goal.invariant-loop-s
invariant-loop-s l = HasLeast l.roots l.firsts l.seconds l.ids l.s (hash.get same_name l.by_name)
