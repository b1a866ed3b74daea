use Rattle.std.proofs.Common.{◌≡◌, map, take}
use Rattle.orient_iface.specs.dist_assembly.Drawn.{told_owner}
use Rattle.orient_iface.proofs.dist_assembly.words.owners_from.Given as goal

-- the points up to here
abbrev pub invariant-loop-from : goal.invariant-loop-from
invariant-loop-from l = l.owners.items ≡ map (told_owner l.shared.forest l.rank) (take l.from-index l.sources)
