use Rattle.std.proofs.Common.{◌≡◌, length, drop}
use Rattle.rank_chart_laws.specs.key_laws.Places.{put}
use Rattle.orient_iface.proofs.iface_keys.values.put.Given as goal

abbrev pub invariant-loop-k : goal.invariant-loop-k
invariant-loop-k l = record {
  long : length l.own.items ≡ length l.initial.own.items;
  left : put l.own.items (drop l.k l.places) (drop l.k l.values) ≡ put l.initial.own.items l.places l.values;
}
