use Rattle.std.proofs.Common.{◌≡◌, ℤ, map, take, fold}
use Rattle.plex_defs.specs.Labels.{with_pair}
use Rattle.orient_iface.proofs.moved_points.label.move_values.Given as goal

-- the values up to here
abbrev pub invariant-loop-value : goal.invariant-loop-value
invariant-loop-value l = l.moved ≡ fold with_pair l.initial.moved (map (λ value. (l.to, value)) (take l.value-index l.value-items))
