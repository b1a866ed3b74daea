use Rattle.std.proofs.Common.{ℕ, sym, subst, List}
use Rattle.plain_lists.specs.Vectors.{lists_of}
use Rattle.sf_defs.specs.Rounds.{MeetsConditions}
use Rattle.sf_ops.specs.Asked.{words_of}
use Rattle.sf_ops.proofs.Conditions.{forest_meets}
use Rattle.sf_ops.proofs.fetch.fetch_and_op.Goals as goal

pub run-requires : goal.run-requires
run-requires g c =
    let meets = forest_meets c.args.forest.now c.args.op (lists_of c.args.leaves.now) (lists_of c.args.roots.now) c.in_ok-asks.ensures.right c.in_ok-asks.ensures.for_ranks c.requires.roots c.requires.asks in
    subst (λ (words : List ℕ). MeetsConditions words (lists_of c.in_ok-asks.asks.items)) (sym c.in_ok-words.ensures.words) (subst (MeetsConditions (words_of (lists_of c.args.roots.now))) (sym c.in_ok-asks.ensures.asks) meets)
