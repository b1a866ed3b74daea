use Rattle.std.proofs.Common.{rules}
use Rattle.std.specs.HashMap as hash
use Rattle.shared_forest.specs.sf_meet.Named.{same_name}
use Rattle.shared_forest.proofs.sf_meet.Names.{least-none, least-entered}
use Rattle.shared_forest.proofs.sf_meet.least.least_by_name.Goals as goal

pub loop-s-init : goal.loop-s-init
loop-s-init c = least-none c.args.roots.now c.args.firsts.now c.args.seconds.now c.args.ids.now (hash.get same_name c.new-by_name.result) (λ name. search rules)

pub loop-s-preserved : goal.loop-s-preserved
loop-s-preserved c = least-entered c.args.roots.now c.args.firsts.now c.args.seconds.now c.args.ids.now c.loop-s.s (hash.get same_name c.loop-s.by_name) (hash.get same_name c.insert.new.self) c.least_with-least.result c.loop-s.invariant c.least_with-least.ensures c.in_ok-insert.ensures.updates.0
