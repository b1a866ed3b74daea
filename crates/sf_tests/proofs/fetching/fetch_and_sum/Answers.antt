use Rattle.std.proofs.Common.{◌≡◌, List, ℕ, [], ◌∷◌, subst, sym}
use Rattle.sf_defs.specs.declared.Op.TheVariants.{Sum}
use Rattle.sf_ops.specs.Asked.{MayAsk}
use Rattle.sf_tests.specs.OneRoot.{one_root}
use Rattle.sf_tests.proofs.FetchRow.{leaf_values, may_add, root_values}
use Rattle.sf_tests.proofs.fetching.fetch_and_sum.Goals as goal

pub fetch_and_op-requires-clause-asks : goal.fetch_and_op-requires-clause-asks
fetch_and_op-requires-clause-asks c =
    let leaves : c.in_ok-first.first.items ∷ c.in_ok-second.second.items ∷ [] ≡ leaf_values = λ i. c.in_ok-first.ensures.items i ∷ c.in_ok-second.ensures.items i ∷ [] in
    let roots : c.in_ok-root.root.items ∷ c.new.result.items ∷ [] ≡ root_values = λ i. c.in_ok-root.ensures.items i ∷ c.new.ensures.items i ∷ [] in
    subst (λ f. MayAsk f Sum (c.in_ok-first.first.items ∷ c.in_ok-second.second.items ∷ []) (c.in_ok-root.root.items ∷ c.new.result.items ∷ [])) (sym c.in_ok-forest.ensures)
    (subst (λ (vs : List (List ℕ)). MayAsk one_root Sum vs (c.in_ok-root.root.items ∷ c.new.result.items ∷ [])) (sym leaves) (subst (MayAsk one_root Sum leaf_values) (sym roots) may_add))
