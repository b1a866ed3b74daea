use Rattle.std.proofs.Common.{◌≡◌, map, take, get_or}
use Rattle.plex_base.specs.declared.key.PointKey.{PointKey}
use Rattle.orient_iface.proofs.dist_assembly.words.keys_from.Given as goal

-- the points up to here
abbrev pub invariant-loop-from : goal.invariant-loop-from
invariant-loop-from l = map (λ (key : PointKey). key.0) l.moved.items ≡ map (λ from. get_or l.keys from 0) (take l.from-index l.sources)
