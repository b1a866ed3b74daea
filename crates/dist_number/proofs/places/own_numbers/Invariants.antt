use Rattle.std.proofs.Common.{◌≡◌, ◌+◌, ◌++◌, ◌==◌, count_by, drop}
use Rattle.dist_number.specs.Places.{own_numbers}
use Rattle.dist_number.proofs.places.own_numbers.Given as goal

abbrev pub invariant-loop-p : goal.invariant-loop-p
invariant-loop-p l = record {
  rest : l.numbers.items ++ own_numbers l.rank l.next (drop l.p l.local.owners) ≡ own_numbers l.rank l.base l.local.owners;
  fits : l.next + count_by (λ o. o == l.rank) (drop l.p l.local.owners) ≡ l.base + count_by (λ o. o == l.rank) l.local.owners;
}
