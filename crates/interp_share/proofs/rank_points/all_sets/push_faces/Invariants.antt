use Rattle.std.proofs.Common.{◌≡◌, ◌++◌, take}
use Rattle.interp_share.specs.rank_points.Seen.{sets_on}
use Rattle.interp_share.proofs.rank_points.all_sets.push_faces.Given as goal

abbrev pub invariant-loop-k : goal.invariant-loop-k
invariant-loop-k l = l.sets ≡ l.fn.sets ++ sets_on (take l.k l.local.faces)
