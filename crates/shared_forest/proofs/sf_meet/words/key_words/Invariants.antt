use Rattle.std.proofs.Common.{◌≡◌, length, map, get_or, take}
use Rattle.std.specs.List.{AllByRecursion}
use Rattle.plain_lists.specs.Vectors.{lists_of}
use Rattle.shared_forest.proofs.sf_meet.words.key_words.Given as goal

abbrev pub invariant-loop-own : goal.invariant-loop-own
invariant-loop-own l = record {
  words : lists_of l.words.items ≡ map (map (λ key. get_or key l.which 0)) (lists_of (take l.own-index l.keys));
  pairs : AllByRecursion (AllByRecursion (λ key. length key ≡ 2)) (lists_of (take l.own-index l.keys));
}
