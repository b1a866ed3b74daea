use Rattle.std.proofs.Common.{◌≡◌, ℕ, ◌^◌, ◌<◌, [], map, get_or}
use Rattle.std.specs.List.{AllByRecursion}
use Rattle.plain_lists.specs.Lists.{below, picked}
use Rattle.plain_lists.specs.Vectors.{lists_of}
use Rattle.orient_iface.proofs.iface_keys.home.word_keys.Given as goal

abbrev pub invariant-loop-rank : goal.invariant-loop-rank
invariant-loop-rank l = record {
  words : lists_of l.words.items ≡ map (λ r. picked (get_or (lists_of l.keys) r []) (get_or (lists_of l.places) r [])) (below l.rank);
  low : AllByRecursion (λ own. (k : ℕ) → get_or own k 0 < 2 ^ 64) (lists_of l.words.items);
}
