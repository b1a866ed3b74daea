use Rattle.std.proofs.Common.{ℕ, [], ◌∷◌, List, refl, sym, ap, subst, ◌∙◌}
use Rattle.plain_lists.specs.Vectors.{lists_of}
use Rattle.sf_defs.specs.declared.Op.TheVariants.{Sum}
use Rattle.sf_defs.specs.declared.Ask.{Ask}
use Rattle.sf_defs.specs.Rounds.{MeetsConditions}
use Rattle.round_laws.proofs.Tests.{decides-conditions}
use Rattle.sf_tests.proofs.scripts.three_sums.Goals as goal

add : ℕ → Ask
add value = record { word = 0; op = Sum; value = value }

pub run_script-requires : goal.run_script-requires
unfolding add
run_script-requires c =
    let asks = ap lists_of c.in_ok-asks.ensures.items ∙ (λ i. c.in_ok-first.ensures.items i ∷ c.in_ok-second.ensures.items i ∷ []) ∙ (λ i. (c.sum.ensures i ∷ []) ∷ (c.sum-2.ensures i ∷ c.sum-3.ensures i ∷ []) ∷ []) in
    subst (λ (words : List ℕ). MeetsConditions words (lists_of c.in_ok-asks.asks.items)) (sym c.in_ok-words.ensures.items)
    (subst (MeetsConditions (3 ∷ [])) (sym asks) ((decides-conditions (3 ∷ []) ((add 5 ∷ []) ∷ (add 0 ∷ add 0 ∷ []) ∷ [])).0 refl))
