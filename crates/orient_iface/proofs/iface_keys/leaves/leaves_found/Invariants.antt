use Rattle.std.proofs.Common.{◌≡◌}
use Rattle.std.specs.Prelude.{filter_map}
use Rattle.rank_chart_laws.specs.key_laws.Places.{run}
use Rattle.rank_chart_laws.specs.key_laws.Words.{leaf_found}
use Rattle.orient_iface.proofs.iface_keys.leaves.leaves_found.Given as goal

abbrev pub invariant-loop-k : goal.invariant-loop-k
invariant-loop-k l = l.leaves.items ≡ filter_map (leaf_found l.shared.forest l.rank l.numbers) (run l.first l.k)
