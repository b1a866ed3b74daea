use Rattle.std.proofs.Common.{◌≡◌, ◌<◌, length, IfOk, arith, sym, subst, ap, ◌∙◌}
use Rattle.plain_lists.specs.Vectors.{lists_of}
use Rattle.sf_defs.specs.Forest.{Forest, IsForest, compose}
use Rattle.sf_graph.specs.Parts.{forest_of, IsForRanks}
use Rattle.rank_laws.proofs.Kept.{compose-forest}
use Rattle.sf_algebra.proofs.Steps.{ranks-more}
use Rattle.sf_algebra.proofs.Pieces.{whole, compose-roots, compose-count, compose-own, compose-fits}
use Rattle.sf_algebra.proofs.composing.compose.Goals as goal

pub loop-rank-preserved : goal.loop-rank-preserved
loop-rank-preserved c =
    let made : Forest = compose c.args.a.now c.args.b.now in
    let within : c.loop-rank.rank < length made.leaves = omega (arith, compose-count c.args.a.now c.args.b.now, c.ranks-rank-end.ensures.ranks, c.ranks-rank-end.ensures.for_ranks.ranks) in
    ap (λ vs. lists_of vs) c.in_ok-push.ensures.items ∙ ranks-more made.leaves c.loop-rank.leaves.items c.in_ok-leaves_through.field-0 c.loop-rank.rank c.loop-rank.invariant within (c.in_ok-leaves_through.ensures ∙ compose-own c.args.a.now c.args.b.now c.loop-rank.rank)

-- the lists that are made are those of the definition
all_made : (c : goal.In_ok-roots_of) → forest_of c.in_ok-roots_of.field-0.items (lists_of c.loop-rank.leaves.items) ≡ compose c.args.a.now c.args.b.now
all_made c =
    let end : c.loop-rank.rank ≡ length (compose c.args.a.now c.args.b.now).leaves = omega (arith, compose-count c.args.a.now c.args.b.now, c.ranks-rank-end.ensures.ranks, c.ranks-rank-end.ensures.for_ranks.ranks) in
    whole (compose c.args.a.now c.args.b.now) c.in_ok-roots_of.field-0.items c.loop-rank.leaves.items c.loop-rank.rank (c.in_ok-roots_of.ensures.roots ∙ compose-roots c.args.a.now c.args.b.now) c.loop-rank.invariant end

pub made_of-requires-clause-right : goal.made_of-requires-clause-right
made_of-requires-clause-right c = subst IsForest (sym (all_made c)) (compose-forest c.args.a.now c.args.b.now c.in_ok-roots_of.ensures.right c.ranks-rank-end.ensures.right)

pub made_of-requires-clause-for_ranks : goal.made_of-requires-clause-for_ranks
made_of-requires-clause-for_ranks c = subst IsForRanks (sym (all_made c)) (compose-fits c.args.a.now c.args.b.now c.in_ok-roots_of.ensures.for_ranks c.ranks-rank-end.ensures.for_ranks c.requires)

pub returns : goal.returns
returns c = subst (λ (t : Forest). IfOk c.made_of.result (λ f. f ≡ t)) (all_made c.before) c.made_of.ensures
