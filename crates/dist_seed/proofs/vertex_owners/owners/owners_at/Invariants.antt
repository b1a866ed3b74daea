use Rattle.std.proofs.Common.{◌≡◌, map, take, slice_index}
use Rattle.dist_seed.proofs.vertex_owners.owners.owners_at.Given as goal

abbrev pub invariant-loop-v : goal.invariant-loop-v
invariant-loop-v l = l.own.items ≡ map (slice_index l.owners) (take l.v-index l.vertices)
