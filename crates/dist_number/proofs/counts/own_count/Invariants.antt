use Rattle.std.proofs.Common.{◌≡◌, ◌≤◌, ◌==◌, count_by, take}
use Rattle.dist_number.proofs.counts.own_count.Given as goal

abbrev pub invariant-loop-p : goal.invariant-loop-p
invariant-loop-p l = record {
  count : l.count ≡ count_by (λ o. o == l.rank) (take l.p l.local.owners);
  small : l.count ≤ l.p;
}
