use Rattle.std.proofs.Common.{◌≡◌, map, take}
use Rattle.orient_iface.proofs.iface_keys.places.ordered_words.Given as goal

abbrev pub invariant-loop-word : goal.invariant-loop-word
invariant-loop-word l = l.places.items ≡ map (λ w. w.1) (take l.word-index l.word-items)
