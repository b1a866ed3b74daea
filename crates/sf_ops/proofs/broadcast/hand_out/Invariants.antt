use Rattle.std.proofs.Common.{◌≡◌, ℕ, ◌-◌, length, get_or, drop}
use Rattle.sf_defs.specs.Forest.{leaves_on}
use Rattle.sf_ops.specs.Copies.{handed}
use Rattle.sf_ops.proofs.broadcast.hand_out.Given as goal

abbrev pub invariant-loop-k : goal.invariant-loop-k
invariant-loop-k l = record {
  size : length l.own.items ≡ length l.initial.own.items;
  count : l.count ≡ length (leaves_on l.forest l.rank);
  values : (local : ℕ) → get_or l.own.items local 0 ≡ handed (drop (l.count - l.k) (leaves_on l.forest l.rank)) (drop (l.count - l.k) l.got) (get_or l.initial.own.items local 0) local;
}
