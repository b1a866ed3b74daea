use Rattle.std.proofs.Common.{◌≡◌, ℕ, length, arith, subst, []}
use Rattle.std.proofs.lemmas.Grind.{common_steps}
use Rattle.sf_defs.specs.Forest.{flaw_on}
use Rattle.sf_graph.specs.Faults.{IsFirstFault}
use Rattle.plain_lists.specs.Vectors.{lists_of}
use Rattle.sf_graph.proofs.Ranks.{IsSearchedTo, IsSearchedTo-fault, IsSearchedTo-all}
use Rattle.sf_graph.proofs.forest.find_leaves.Goals as goal

pub returns-in_err-new-clause-err : goal.returns-in_err-new-clause-err
returns-in_err-new-clause-err c =
    let rank : c.len-rank.result ≡ length c.loop-own.found.items = grind (arith, common_steps) in
    let first = IsSearchedTo-fault c.args.roots.now (lists_of c.args.leaves.items) c.loop-own.found.items c.loop-own.own-iterator.rest.items c.next.new.self.rest.items c.in-Some.own c.in_err-new.field-0.0 c.loop-own.invariant.searched c.in-Some.ensures.steps.0 (subst (λ (n : ℕ). IsFirstFault c.in_err-new.field-0.0 (flaw_on c.args.roots.now n [] 0 c.in-Some.own.items)) rank c.in_err-new.ensures.err) in
    grind (arith, common_steps, first)

pub returns-clause-right : goal.returns-clause-right
returns-clause-right c = (IsSearchedTo-all c.args.roots.now (lists_of c.args.leaves.items) c.loop-own.found.items (subst (IsSearchedTo c.args.roots.now (lists_of c.args.leaves.items) c.loop-own.found.items) (grind (arith, common_steps)) c.loop-own.invariant.searched)).1
