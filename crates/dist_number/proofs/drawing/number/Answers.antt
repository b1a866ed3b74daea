use Rattle.std.proofs.Common.{ℕ, length, List, ap, arith, sym, subst, ◌∙◌, slice_index}
use Rattle.sf_defs.specs.Rounds.{MeetsConditions}
use Rattle.std.proofs.lemmas.List.{length-map}
use Rattle.dist_number.specs.Drawn.{Drawn}
use Rattle.dist_number.specs.Asked.{own_counts, sums_of}
use Rattle.dist_number.proofs.Listed.{length-own_counts}
use Rattle.dist_number.proofs.Meets.{sums-meet, one-each, count-got}
use Rattle.dist_number.proofs.Counted.{number-round}
use Rattle.dist_number.proofs.drawing.number.Goals as goal

pub run-requires : goal.run-requires
run-requires g c =
    let counts = length-own_counts c.args.d.now in
    let few = c.ranks.ensures.for_ranks.few_ranks in
    let some = c.ranks.ensures.for_ranks.some_rank in
    let same = c.ranks.ensures.whole.ranks in
    let meets = sums-meet (own_counts c.args.d.now) (omega (arith, counts, some, same)) (omega (arith, counts, few, same)) c.in_ok-asks.ensures.small in
    subst (MeetsConditions c.in_ok-words.words.items) (sym c.in_ok-asks.ensures.asks) (subst (λ (ws : List ℕ). MeetsConditions ws (sums_of (own_counts c.args.d.now))) (sym c.in_ok-words.ensures.items) meets)

pub of-requires-clause-word : goal.of-requires-clause-word
of-requires-clause-word g c = one-each c.in_ok-round.round (own_counts c.args.d.now) c.in_ok-round.ensures.legal (c.in_ok-round.ensures.before ∙ c.in_ok-words.ensures.items) (c.in_ok-round.ensures.asks ∙ c.in_ok-asks.ensures.asks)

pub of-requires-clause-count : goal.of-requires-clause-count
of-requires-clause-count g c =
    let counts = length-own_counts c.args.d.now in
    let got = count-got c.in_ok-round.round (own_counts c.args.d.now) c.in_ok-round.ensures.legal (c.in_ok-round.ensures.asks ∙ c.in_ok-asks.ensures.asks) in
    omega (arith, counts, got, c.in_ok-bases.ensures.len, c.ranks.ensures.ranks)

pub returns-clause-round : goal.returns-clause-round
returns-clause-round g c m dofs a n k is = number-round c.args.d.now c.in_ok-round.round m dofs a n k is c.in_ok-round.ensures.legal c.in_ok-round.ensures.tag (c.in_ok-round.ensures.before ∙ c.in_ok-words.ensures.items) (c.in_ok-round.ensures.asks ∙ c.in_ok-asks.ensures.asks)

pub returns-clause-count : goal.returns-clause-count
returns-clause-count g c =
    let counts = length-own_counts c.args.d.now in
    let got = count-got c.in_ok-round.round (own_counts c.args.d.now) c.in_ok-round.ensures.legal (c.in_ok-round.ensures.asks ∙ c.in_ok-asks.ensures.asks) in
    let bases = ap (λ (drawn : Drawn). length drawn.bases) c.of.ensures in
    omega (arith, counts, got, bases, length-map c.in_ok-round.round.got (λ (own : List ℕ). slice_index own 0))
