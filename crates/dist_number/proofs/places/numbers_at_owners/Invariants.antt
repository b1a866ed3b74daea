use Rattle.std.proofs.Common.{◌≡◌, take}
use Rattle.plain_lists.specs.Vectors.{lists_of}
use Rattle.dist_number.specs.Places.{numbers_at_owners}
use Rattle.dist_number.proofs.places.numbers_at_owners.Given as goal

abbrev pub invariant-loop-rank : goal.invariant-loop-rank
invariant-loop-rank l = lists_of l.numbers.items ≡ take l.rank (numbers_at_owners l.d l.bases.bases)
