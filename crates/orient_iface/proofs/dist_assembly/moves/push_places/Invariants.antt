use Rattle.std.proofs.Common.{◌≡◌, ◌++◌}
use Rattle.plain_lists.specs.Lists.{below}
use Rattle.orient_iface.proofs.dist_assembly.moves.push_places.Given as goal

-- the places up to here
abbrev pub invariant-loop-place : goal.invariant-loop-place
invariant-loop-place l = l.moves.items ≡ l.initial.moves.items ++ below l.place
