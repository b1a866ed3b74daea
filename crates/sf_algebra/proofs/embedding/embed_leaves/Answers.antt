use Rattle.std.proofs.Common.{◌≡◌, ◌<◌, [], length, IfOk, arith, sym, subst, ap, ◌∙◌, get_or}
use Rattle.plain_lists.specs.Vectors.{lists_of}
use Rattle.sf_defs.specs.Forest.{Forest, IsForest, embed_leaves, leaves_on, selected}
use Rattle.sf_graph.specs.Parts.{forest_of, IsForRanks}
use Rattle.rank_laws.proofs.Kept.{embed_leaves-forest}
use Rattle.std.proofs.lemmas.List.{length-map}
use Rattle.sf_ops.proofs.Words.{length-lists_of, lists_of-at}
use Rattle.sf_algebra.proofs.Fitting.{length_at}
use Rattle.sf_algebra.proofs.Steps.{ranks-more}
use Rattle.sf_algebra.proofs.Pieces.{whole, embed_leaves-roots, embed_leaves-count, embed_leaves-own, embed_leaves-fits}
use Rattle.sf_algebra.proofs.embedding.embed_leaves.Goals as goal

pub kept_leaves-requires-clause-length : goal.kept_leaves-requires-clause-length
kept_leaves-requires-clause-length c =
    let count : length c.args.keep.now ≡ length c.args.a.now.leaves = sym (length-lists_of c.args.keep.now) ∙ (sym (length-map (lists_of c.args.keep.now) length) ∙ (ap length c.requires ∙ length-map c.args.a.now.leaves length)) in
    let within : c.loop-rank.rank < length c.args.keep.now = omega (arith, c.ranks-rank-end.ensures.ranks, c.ranks-rank-end.ensures.for_ranks.ranks) in
    ap length (c.deref.ensures.value ∙ (ap (λ v. v.items) c.index-keep-rank.is ∙ sym (lists_of-at c.args.keep.now c.loop-rank.rank c.index-keep-rank.result within)))
    ∙ (length_at (lists_of c.args.keep.now) c.loop-rank.rank ∙ (ap (λ ns. get_or ns c.loop-rank.rank 0) c.requires ∙ sym (length_at c.args.a.now.leaves c.loop-rank.rank)))

pub loop-rank-preserved : goal.loop-rank-preserved
loop-rank-preserved c =
    let count : length c.args.keep.now ≡ length c.args.a.now.leaves = sym (length-lists_of c.args.keep.now) ∙ (sym (length-map (lists_of c.args.keep.now) length) ∙ (ap length c.requires ∙ length-map c.args.a.now.leaves length)) in
    let in-keep : c.loop-rank.rank < length c.args.keep.now = omega (arith, c.ranks-rank-end.ensures.ranks, c.ranks-rank-end.ensures.for_ranks.ranks) in
    let flags : c.deref.result.now ≡ get_or (lists_of c.args.keep.now) c.loop-rank.rank [] = c.deref.ensures.value ∙ (ap (λ v. v.items) c.index-keep-rank.is ∙ sym (lists_of-at c.args.keep.now c.loop-rank.rank c.index-keep-rank.result in-keep)) in
    let made : Forest = embed_leaves c.args.a.now (lists_of c.args.keep.now) in
    let within : c.loop-rank.rank < length made.leaves = omega (arith, embed_leaves-count c.args.a.now (lists_of c.args.keep.now), c.ranks-rank-end.ensures.ranks, c.ranks-rank-end.ensures.for_ranks.ranks) in
    ap (λ vs. lists_of vs) c.in_ok-push.ensures.items ∙ ranks-more made.leaves c.loop-rank.leaves.items c.in_ok-kept_leaves.field-0 c.loop-rank.rank c.loop-rank.invariant within (c.in_ok-kept_leaves.ensures ∙ (ap (λ own. selected own (leaves_on c.args.a.now c.loop-rank.rank)) flags ∙ embed_leaves-own c.args.a.now (lists_of c.args.keep.now) c.loop-rank.rank))

-- the lists that are made are those of the definition
all_made : (c : goal.In_ok-roots_of) → forest_of c.in_ok-roots_of.field-0.items (lists_of c.loop-rank.leaves.items) ≡ embed_leaves c.args.a.now (lists_of c.args.keep.now)
all_made c =
    let end : c.loop-rank.rank ≡ length (embed_leaves c.args.a.now (lists_of c.args.keep.now)).leaves = omega (arith, embed_leaves-count c.args.a.now (lists_of c.args.keep.now), c.ranks-rank-end.ensures.ranks, c.ranks-rank-end.ensures.for_ranks.ranks) in
    whole (embed_leaves c.args.a.now (lists_of c.args.keep.now)) c.in_ok-roots_of.field-0.items c.loop-rank.leaves.items c.loop-rank.rank (c.in_ok-roots_of.ensures.roots ∙ embed_leaves-roots c.args.a.now (lists_of c.args.keep.now)) c.loop-rank.invariant end

pub made_of-requires-clause-right : goal.made_of-requires-clause-right
made_of-requires-clause-right c = subst IsForest (sym (all_made c)) (embed_leaves-forest c.args.a.now (lists_of c.args.keep.now) c.ranks-rank-end.ensures.right)

pub made_of-requires-clause-for_ranks : goal.made_of-requires-clause-for_ranks
made_of-requires-clause-for_ranks c = subst IsForRanks (sym (all_made c)) (embed_leaves-fits c.args.a.now (lists_of c.args.keep.now) c.ranks-rank-end.ensures.for_ranks)

pub returns : goal.returns
returns c = subst (λ (t : Forest). IfOk c.made_of.result (λ f. f ≡ t)) (all_made c.before) c.made_of.ensures
