use Rattle.std.proofs.Common.{ap, ◌∙◌, arith}
use Rattle.plain_lists.specs.Vectors.{lists_of}
use Rattle.headline_laws.specs.seed_laws.Asked.{asks_at}
use Rattle.dist_seed.proofs.vertex_owners.Asked.{lists-push, all-pushed}
use Rattle.dist_seed.proofs.vertex_owners.asks.asks_of.Goals as goal

pub loop-rank-preserved : goal.loop-rank-preserved
loop-rank-preserved c =
    ap lists_of c.in_ok-push.ensures.items
    ∙ lists-push c.loop-rank.asks.items c.in_ok-asks_at.field-0 c.args.held.now c.loop-rank.rank c.index-held-rank.result c.loop-rank-test.true c.index-held-rank.is (c.in_ok-asks_at.ensures ∙ ap (asks_at c.loop-rank.rank) c.vertices.ensures) c.loop-rank.invariant

pub returns : goal.returns
returns c = c.loop-rank.invariant ∙ all-pushed c.args.held.now c.loop-rank.rank (omega (arith, c.loop-rank-test.false))
