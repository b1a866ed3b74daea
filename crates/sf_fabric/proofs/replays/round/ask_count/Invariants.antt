use Rattle.std.proofs.Common.{◌≡◌, ◌≤◌, ◌*◌, length, get_or, []}
use Rattle.sf_fabric.specs.replays.Right.{total}
use Rattle.sf_fabric.proofs.replays.round.ask_count.Given as goal

abbrev pub invariant-loop-rank : goal.invariant-loop-rank
invariant-loop-rank l = record {
  counted : l.count ≡ total (λ rank. length (get_or l.round.asks rank [])) l.rank;
  fits : l.count ≤ 4294967296 * l.rank;
}
