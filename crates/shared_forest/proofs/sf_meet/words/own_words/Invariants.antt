use Rattle.std.proofs.Common.{◌≡◌, length, map, get_or, take}
use Rattle.std.specs.List.{AllByRecursion}
use Rattle.shared_forest.proofs.sf_meet.words.own_words.Given as goal

abbrev pub invariant-loop-key : goal.invariant-loop-key
invariant-loop-key l = record {
  words : l.words.items ≡ map (λ key. get_or key l.which 0) (take l.key-index l.keys);
  pairs : AllByRecursion (λ key. length key ≡ 2) (take l.key-index l.keys);
}
