use Rattle.std.proofs.Common.{◌≡◌, take}
use Rattle.headline_laws.specs.seed_laws.Asked.{asks_at}
use Rattle.dist_seed.proofs.vertex_owners.asks.asks_at.Given as goal

abbrev pub invariant-loop-v : goal.invariant-loop-v
invariant-loop-v l = l.asks.items ≡ asks_at l.rank (take l.v-index l.vertices)
