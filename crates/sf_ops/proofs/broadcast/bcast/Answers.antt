use Rattle.std.proofs.Common.{◌≡◌, ℕ, ◌<◌, ◌^◌, [], length, get_or, arith, sym, ap, subst, ◌∙◌, List}
use Rattle.plain_lists.specs.Vectors.{lists_of}
use Rattle.sf_defs.specs.declared.Op.TheVariants.{Load}
use Rattle.sf_defs.specs.Rounds.{MeetsConditions}
use Rattle.sf_ops.specs.Asked.{words_of}
use Rattle.sf_ops.proofs.Conditions.{forest_meets}
use Rattle.std.proofs.lemmas.List.{length-map}
use Rattle.sf_defs.specs.Forest.{leaves_on}
use Rattle.sf_ops.proofs.Words.{length-asks_of, length-lists_of}
use Rattle.sf_ops.proofs.Loads.{loads_may, length-got, loads_fetch_roots, root_value}
use Rattle.sf_ops.proofs.Broadcasts.{IsHandedOut-more, IsHandedOut-all}
use Rattle.sf_ops.proofs.broadcast.bcast.Goals as goal

pub run-requires : goal.run-requires
run-requires g c =
    let small : (w : ℕ) → get_or (words_of (lists_of c.args.roots.now)) w 0 < 2 ^ 64 = λ w. subst (λ (ws : List ℕ). get_or ws w 0 < 2 ^ 64) c.in_ok-words.ensures.words (c.in_ok-words.ensures.small w) in
    let meets = forest_meets c.args.forest.now Load [] (lists_of c.args.roots.now) c.in_ok-asks.ensures.right c.in_ok-asks.ensures.for_ranks c.requires.roots (loads_may c.args.forest.now (lists_of c.args.roots.now) small) in
    subst (λ (words : List ℕ). MeetsConditions words (lists_of c.in_ok-asks.asks.items)) (sym c.in_ok-words.ensures.words) (subst (MeetsConditions (words_of (lists_of c.args.roots.now))) (sym c.in_ok-asks.ensures.asks) meets)

pub got-requires : goal.got-requires
got-requires g c =
    let count = length-got c.in_ok-round.round c.args.forest.now c.in_ok-round.ensures.legal (c.in_ok-round.ensures.asks ∙ c.in_ok-asks.ensures.asks) in
    omega (arith, c.ranks-rank-end.ensures.ranks, c.ranks-rank-end.ensures.for_ranks.ranks)

pub hand_out-requires-clause-count : goal.hand_out-requires-clause-count
hand_out-requires-clause-count g c =
    let asks = c.in_ok-round.ensures.asks ∙ c.in_ok-asks.ensures.asks in
    let in-leaves : c.loop-rank.rank < length c.args.forest.now.leaves = omega (arith, c.ranks-rank-end.ensures.ranks, c.ranks-rank-end.ensures.for_ranks.ranks) in
    let within : c.loop-rank.rank < length c.in_ok-round.round.asks = subst (λ (n : ℕ). c.loop-rank.rank < n) (sym (ap length asks ∙ length-asks_of c.args.forest.now Load [])) in-leaves in
    let fetched = loads_fetch_roots c.in_ok-round.round c.args.forest.now (lists_of c.args.roots.now) c.in_ok-round.ensures.legal c.in_ok-asks.ensures.right c.requires.roots (c.in_ok-round.ensures.before ∙ c.in_ok-words.ensures.words) asks c.loop-rank.rank in-leaves within in
    ap length (c.got.ensures ∙ fetched) ∙ length-map (leaves_on c.args.forest.now c.loop-rank.rank) (root_value (lists_of c.args.roots.now))

pub loop-rank-preserved : goal.loop-rank-preserved
loop-rank-preserved g c =
    let asks = c.in_ok-round.ensures.asks ∙ c.in_ok-asks.ensures.asks in
    let in-leaves : c.loop-rank.rank < length c.args.forest.now.leaves = omega (arith, c.ranks-rank-end.ensures.ranks, c.ranks-rank-end.ensures.for_ranks.ranks) in
    let within : c.loop-rank.rank < length c.in_ok-round.round.asks = subst (λ (n : ℕ). c.loop-rank.rank < n) (sym (ap length asks ∙ length-asks_of c.args.forest.now Load [])) in-leaves in
    let fetched = loads_fetch_roots c.in_ok-round.round c.args.forest.now (lists_of c.args.roots.now) c.in_ok-round.ensures.legal c.in_ok-asks.ensures.right c.requires.roots (c.in_ok-round.ensures.before ∙ c.in_ok-words.ensures.words) asks c.loop-rank.rank in-leaves within in
    let count : length c.args.leaves.now ≡ length c.args.forest.now.roots = sym (length-lists_of c.args.leaves.now) ∙ c.requires.leaves.ranks in
    IsHandedOut-more c.args.forest.now (lists_of c.args.roots.now) c.args.leaves.now c.loop-rank.leaves c.loop-rank.rank c.index-leaves-rank.result c.hand_out.new.own c.got.result.now c.loop-rank.invariant (omega (arith, c.ranks-rank-end.ensures.ranks)) (c.got.ensures ∙ fetched) c.hand_out.ensures.length c.hand_out.ensures.values

pub returns-clause-copies : goal.returns-clause-copies
returns-clause-copies g c = IsHandedOut-all c.args.forest.now (lists_of c.args.roots.now) c.args.leaves.now c.loop-rank.leaves c.loop-rank.rank c.loop-rank.invariant (omega (arith, c.ranks-rank-end.ensures.ranks, c.ranks-rank-end.ensures.for_ranks.ranks))
