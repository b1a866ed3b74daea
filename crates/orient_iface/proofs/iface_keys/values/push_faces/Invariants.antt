use Rattle.std.proofs.Common.{◌≡◌, ◌++◌, map, take}
use Rattle.mesh_defs.specs.Points.{Sight}
use Rattle.orient_iface.proofs.iface_keys.values.push_faces.Given as goal

abbrev pub invariant-loop-k : goal.invariant-loop-k
invariant-loop-k l = l.keys.items ≡ l.initial.keys.items ++ map (λ (s : Sight). s.key) (take l.k l.local.faces)
