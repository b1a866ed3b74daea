use Rattle.std.proofs.lemmas.List.Sorted.{IsNonDecreasingBy-from_sort_by_key}
use Rattle.std.proofs.Common.{rules}
use Rattle.rank_chart_laws.specs.key_laws.Words.{leaf_number}
use Rattle.orient_iface.proofs.iface_keys.leaves.word_leaves.Goals as goal

pub returns-clause-rising : goal.returns-clause-rising
returns-clause-rising c = IsNonDecreasingBy-from_sort_by_key leaf_number _ c.sort_unstable_by_key.ensures.sorted (λ a r q k. search rules)
