use Rattle.std.proofs.Common.{◌≡◌, take}
use Rattle.dist_seed.proofs.vertex_owners.owners.narrow.Given as goal

abbrev pub invariant-loop-word : goal.invariant-loop-word
invariant-loop-word l = l.numbers.items ≡ take l.word-index l.words
