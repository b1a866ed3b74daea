use Rattle.std.proofs.Common.{◌≡◌, ℕ, [], ◌∷◌, List, replicate, refl, sym, ap, subst, ◌∙◌}
use Rattle.plain_lists.specs.Vectors.{lists_of}
use Rattle.sf_defs.specs.declared.Op.TheVariants.{Sum}
use Rattle.sf_defs.specs.declared.Ask.{Ask}
use Rattle.sf_defs.specs.Rounds.{MeetsConditions}
use Rattle.round_laws.proofs.Tests.{decides-conditions}
use Rattle.sf_tests.proofs.threads_tests.rounds.many_sums.Goals as goal

thousand : List Ask
thousand = replicate 1000 (record { word = 0; op = Sum; value = 1 })

pub run_gated-requires-after_bounds : goal.run_gated-requires-after_bounds
unfolding thousand
run_gated-requires-after_bounds g c κs within =
    let asks : lists_of c.in_ok-asks.asks.items ≡ thousand ∷ thousand ∷ thousand ∷ thousand ∷ [] =
    ap lists_of c.in_ok-asks.ensures.items ∙ (λ i. c.in_ok-first.ensures i ∷ c.in_ok-second.ensures i ∷ c.in_ok-third.ensures i ∷ c.in_ok-fourth.ensures i ∷ []) in
    subst (λ (words : List ℕ). MeetsConditions words (lists_of c.in_ok-asks.asks.items)) (sym c.in_ok-words.ensures.items)
    (subst (MeetsConditions (0 ∷ [])) (sym asks) ((decides-conditions (0 ∷ []) (thousand ∷ thousand ∷ thousand ∷ thousand ∷ [])).0 refl))
