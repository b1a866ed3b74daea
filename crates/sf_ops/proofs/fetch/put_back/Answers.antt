use Rattle.std.proofs.Common.{◌≡◌, length, arith}
use Rattle.std.proofs.lemmas.Grind.{common_steps}
use Rattle.std.specs.Prelude.{slice_index_or}
use Rattle.sf_ops.proofs.Fills.{rank_is_there, IsPutBack-more, IsPutBack-all}
use Rattle.sf_ops.proofs.fetch.put_back.Goals as goal

pub fill-requires : goal.fill-requires
fill-requires c = rank_is_there c.args.roots.now c.loop-rank.roots c.args.words.now c.loop-rank.rank c.loop-rank.first c.index-roots-rank.result c.requires c.loop-rank.invariant (omega arith)

pub overflow_add-first : goal.overflow_add-first
overflow_add-first c =
    let there = rank_is_there c.args.roots.now c.loop-rank.roots c.args.words.now c.loop-rank.rank c.loop-rank.first c.index-roots-rank.result c.requires c.loop-rank.invariant (omega arith) in
    let count : c.len-count.result ≡ length (slice_index_or c.loop-rank.roots c.loop-rank.rank c.index-roots-rank.result).items = grind (arith, common_steps) in
    omega (arith, there)

pub loop-rank-preserved : goal.loop-rank-preserved
loop-rank-preserved c =
    let count : c.len-count.result ≡ length (slice_index_or c.loop-rank.roots c.loop-rank.rank c.index-roots-rank.result).items = grind (arith, common_steps) in
    IsPutBack-more c.args.roots.now c.loop-rank.roots c.args.words.now c.loop-rank.rank c.loop-rank.first c.len-count.result c.index-roots-rank.result c.fill.new.own c.requires c.loop-rank.invariant (omega arith) count c.fill.ensures

pub returns-clause-words : goal.returns-clause-words
returns-clause-words c = IsPutBack-all c.args.roots.now c.loop-rank.roots c.args.words.now c.loop-rank.rank c.loop-rank.first c.requires c.loop-rank.invariant (omega arith)
