use Rattle.std.proofs.Common.{◌∙◌}
use Rattle.std.specs.HashMap as hash
use Rattle.shared_forest.specs.sf_meet.Named.{same_name}
use Rattle.shared_forest.proofs.sf_meet.Names.{least-more}
use Rattle.shared_forest.proofs.sf_meet.least.least_ids.Goals as goal

pub loop-s-preserved : goal.loop-s-preserved
loop-s-preserved c = c.in_ok-push.ensures.items ∙ least-more c.args.roots.now c.args.firsts.now c.args.seconds.now c.args.ids.now c.loop-s.least.items c.loop-s.s c.least_with.result (hash.get same_name c.in_ok-by_name.by_name) c.in_ok-by_name.ensures c.loop-s.invariant c.least_with.ensures
