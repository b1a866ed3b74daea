use Rattle.std.proofs.Common.{◌≡◌, ℕ, length, take, arith, sym, ap, ◌∙◌, []}
use Rattle.std.proofs.Math.Seq.{take-length}
use Rattle.plain_lists.specs.Vectors.{lists_of}
use Rattle.sf_defs.specs.declared.Op.TheVariants.{Load}
use Rattle.sf_ops.specs.Asked.{asks_of}
use Rattle.sf_ops.proofs.Words.{asks_of-more, length-asks_of}
use Rattle.sf_ops.proofs.asking.loads_of.Goals as goal

pub loop-rank-preserved : goal.loop-rank-preserved
loop-rank-preserved c = ap lists_of c.in_ok-push.ensures.items ∙ asks_of-more c.args.forest.now Load [] c.loop-rank.rank c.loop-rank.asks.items c.in_ok-own_asks.field-0 (omega (arith, c.ranks-rank-end.ensures.ranks, c.ranks-rank-end.ensures.for_ranks.ranks)) c.loop-rank.invariant c.in_ok-own_asks.ensures

pub returns-clause-asks : goal.returns-clause-asks
returns-clause-asks c =
    let whole : c.loop-rank.rank ≡ length (asks_of c.args.forest.now Load []) = sym (length-asks_of c.args.forest.now Load [] ∙ omega (arith, c.ranks-rank-end.ensures.ranks, c.ranks-rank-end.ensures.for_ranks.ranks)) in
    c.loop-rank.invariant ∙ (ap (λ (n : ℕ). take n (asks_of c.args.forest.now Load [])) whole ∙ take-length (asks_of c.args.forest.now Load []))
