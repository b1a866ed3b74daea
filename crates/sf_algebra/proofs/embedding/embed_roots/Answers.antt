use Rattle.std.proofs.Common.{◌≡◌, ◌<◌, length, IfOk, arith, sym, subst, ap, ◌∙◌}
use Rattle.plain_lists.specs.Vectors.{lists_of}
use Rattle.sf_defs.specs.Forest.{Forest, IsForest, embed_roots}
use Rattle.sf_graph.specs.Parts.{forest_of, IsForRanks}
use Rattle.rank_laws.proofs.Kept.{embed_roots-forest}
use Rattle.sf_algebra.proofs.Steps.{ranks-more}
use Rattle.sf_algebra.proofs.Pieces.{whole, embed_roots-roots, embed_roots-count, embed_roots-own, embed_roots-fits}
use Rattle.sf_algebra.proofs.embedding.embed_roots.Goals as goal

pub loop-rank-preserved : goal.loop-rank-preserved
loop-rank-preserved c =
    let made : Forest = embed_roots c.args.a.now (lists_of c.args.keep.now) in
    let within : c.loop-rank.rank < length made.leaves = omega (arith, embed_roots-count c.args.a.now (lists_of c.args.keep.now), c.ranks-rank-end.ensures.ranks, c.ranks-rank-end.ensures.for_ranks.ranks) in
    ap (λ vs. lists_of vs) c.in_ok-push.ensures.items ∙ ranks-more made.leaves c.loop-rank.leaves.items c.in_ok-leaves_on_kept.field-0 c.loop-rank.rank c.loop-rank.invariant within (c.in_ok-leaves_on_kept.ensures ∙ embed_roots-own c.args.a.now (lists_of c.args.keep.now) c.loop-rank.rank)

-- the lists that are made are those of the definition
all_made : (c : goal.In_ok-roots_of) → forest_of c.in_ok-roots_of.field-0.items (lists_of c.loop-rank.leaves.items) ≡ embed_roots c.args.a.now (lists_of c.args.keep.now)
all_made c =
    let end : c.loop-rank.rank ≡ length (embed_roots c.args.a.now (lists_of c.args.keep.now)).leaves = omega (arith, embed_roots-count c.args.a.now (lists_of c.args.keep.now), c.ranks-rank-end.ensures.ranks, c.ranks-rank-end.ensures.for_ranks.ranks) in
    whole (embed_roots c.args.a.now (lists_of c.args.keep.now)) c.in_ok-roots_of.field-0.items c.loop-rank.leaves.items c.loop-rank.rank (c.in_ok-roots_of.ensures.roots ∙ embed_roots-roots c.args.a.now (lists_of c.args.keep.now)) c.loop-rank.invariant end

pub made_of-requires-clause-right : goal.made_of-requires-clause-right
made_of-requires-clause-right c = subst IsForest (sym (all_made c)) (embed_roots-forest c.args.a.now (lists_of c.args.keep.now) c.ranks-rank-end.ensures.right)

pub made_of-requires-clause-for_ranks : goal.made_of-requires-clause-for_ranks
made_of-requires-clause-for_ranks c = subst IsForRanks (sym (all_made c)) (embed_roots-fits c.args.a.now (lists_of c.args.keep.now) c.ranks-rank-end.ensures.for_ranks)

pub returns : goal.returns
returns c = subst (λ (t : Forest). IfOk c.made_of.result (λ f. f ≡ t)) (all_made c.before) c.made_of.ensures
