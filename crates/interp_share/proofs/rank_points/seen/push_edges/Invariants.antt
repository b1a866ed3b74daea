use Rattle.std.proofs.Common.{◌≡◌, ◌++◌, map, take}
use Rattle.rank_chart_laws.specs.OwnRanks.{set_of}
use Rattle.interp_share.proofs.rank_points.seen.push_edges.Given as goal

abbrev pub invariant-loop-k : goal.invariant-loop-k
invariant-loop-k l = l.sets.items ≡ l.fn.sets.items ++ map set_of (take l.k l.local.edges)
