-- The three leaves of one root may add these values.
use Rattle.std.proofs.Common.{ℕ, zero, suc, ◌+◌, ◌^◌, ◌<◌, ◌≤◌, List, [], ◌∷◌, arith, count_by, get_or, sum_by}
use Rattle.sf_defs.specs.declared.Ask.{Ask}
use Rattle.sf_defs.specs.Rounds.{added, asks_on, same_op}
use Rattle.sf_defs.specs.declared.Op.TheVariants.{Replace, Sum}
use Rattle.sf_ops.specs.Asked.{asks_of, words_of, MayAsk}
use Rattle.sf_tests.specs.OneRoot.{one_root}

abbrev pub leaf_values : List (List ℕ)
leaf_values = (5 ∷ []) ∷ (0 ∷ 0 ∷ []) ∷ []

abbrev pub root_values : List (List ℕ)
root_values = (3 ∷ []) ∷ [] ∷ []

pub may_add : MayAsk one_root Sum leaf_values root_values
unfolding asks_of
may_add = record {
  plain_loads = ((λ e. cc), ((λ e. cc), ((λ e. cc), tt)));
  one_replace = λ w lt. replaced w lt;
  sums_fit = λ w lt. fits w lt;
}
  where
    replaced : (w : ℕ) → w < 1 → count_by (λ (a : Ask). same_op a.op Replace) (asks_on w (asks_of one_root Sum leaf_values)) ≤ 1
    replaced zero lt = omega arith
    replaced (suc n) lt = absurd (omega arith)

    fits : (w : ℕ) → w < 1 → get_or (words_of root_values) w 0 + sum_by added (asks_on w (asks_of one_root Sum leaf_values)) < 2 ^ 64
    fits zero lt = omega arith
    fits (suc n) lt = absurd (omega arith)
