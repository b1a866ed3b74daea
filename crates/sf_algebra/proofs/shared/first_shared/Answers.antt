use Rattle.std.proofs.Common.{◌+◌, arith, sym, ap, ◌∙◌, option_map}
use Rattle.std.specs.Option.{option_or}
use Rattle.sf_algebra.proofs.Searching.{shared_from, shared-start, shared-step, shared-end}
use Rattle.sf_algebra.proofs.shared.first_shared.Goals as goal

pub loop-rank-init : goal.loop-rank-init
loop-rank-init c = shared-start c.args.forest.now

pub returns-in-Some : goal.returns-in-Some
returns-in-Some c =
    let step = shared-step c.args.forest.now c.loop-rank.rank (omega (arith, c.ranks-rank-end.ensures.ranks)) in
    sym (c.loop-rank.invariant ∙ (step ∙ ap (λ o. option_or (option_map (λ i. (c.loop-rank.rank, i)) o) (shared_from c.args.forest.now (c.loop-rank.rank + 1))) (sym c.in-Some.ensures)))

pub loop-rank-preserved : goal.loop-rank-preserved
loop-rank-preserved c =
    let step = shared-step c.args.forest.now c.loop-rank.rank (omega (arith, c.ranks-rank-end.ensures.ranks)) in
    c.loop-rank.invariant ∙ (step ∙ ap (λ o. option_or (option_map (λ i. (c.loop-rank.rank, i)) o) (shared_from c.args.forest.now (c.loop-rank.rank + 1))) (sym c.in_default.ensures))

pub returns : goal.returns
returns c = sym (c.loop-rank.invariant ∙ shared-end c.args.forest.now c.loop-rank.rank (omega (arith, c.ranks-rank-end.ensures.ranks)))
