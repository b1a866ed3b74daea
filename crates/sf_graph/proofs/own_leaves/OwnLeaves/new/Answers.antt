use Rattle.std.proofs.Common.{nat_eq, arith, sym, ap, ◌∙◌, is_some}
use Rattle.std.specs.HashMap as hash
use Rattle.std.proofs.lemmas.Grind.{common_steps}
use Rattle.sf_graph.proofs.Flaws.{IsSearched-twice, IsSearched-more}
use Rattle.sf_graph.proofs.own_leaves.OwnLeaves.new.Goals as goal

pub returns-then-is_some-clause-err : goal.returns-then-is_some-clause-err
returns-then-is_some-clause-err c = IsSearched-twice c.args.roots.now c.args.rank c.args.leaves.items c.loop-i.i c.index-leaf.result.now (hash.get nat_eq c.loop-i.by_local) c.loop-i.invariant (omega arith) (grind (arith, common_steps)) (grind (arith, common_steps)) (ap is_some (sym c.in_ok-insert.ensures.old) ∙ (sym c.is_some.ensures ∙ c.if-is_some.true))

pub loop-i-preserved : goal.loop-i-preserved
loop-i-preserved c = IsSearched-more c.args.roots.now c.args.rank c.args.leaves.items c.loop-i.i c.index-leaf.result.now (hash.get nat_eq c.loop-i.by_local) (hash.get nat_eq c.insert.new.self) c.loop-i.invariant (omega arith) (grind (arith, common_steps)) (grind (arith, common_steps)) (ap is_some (sym c.in_ok-insert.ensures.old) ∙ (sym c.is_some.ensures ∙ c.if-is_some.false)) c.in_ok-insert.ensures.updates.0
