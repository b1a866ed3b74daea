use Rattle.std.proofs.Common.{◌≡◌, [], map, get_or, take}
use Rattle.dist_seed.proofs.parts.coordinates_of.Given as goal

abbrev pub invariant-loop-v : goal.invariant-loop-v
invariant-loop-v l = l.at.items ≡ map (λ v. get_or l.mesh.at v []) (take l.v-index l.vertices)
