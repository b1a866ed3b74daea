use Rattle.std.proofs.Common.{◌≡◌, [], ◌∷◌, ◌++◌, map, take}
use Rattle.plain_lists.specs.Lists.{sorted}
use Rattle.interp_share.proofs.rank_points.all_sets.push_vertices.Given as goal

abbrev pub invariant-loop-vertex : goal.invariant-loop-vertex
invariant-loop-vertex l = l.sets ≡ l.fn.sets ++ map (λ v. sorted (v ∷ [])) (take l.vertex-index l.vertex-items)
