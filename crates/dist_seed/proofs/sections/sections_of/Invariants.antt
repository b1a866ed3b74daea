use Rattle.std.proofs.Common.{◌≡◌, map, take}
use Rattle.mesh_defs.specs.Mesh.{Section}
use Rattle.dist_seed.proofs.sections.sections_of.Given as goal

abbrev pub invariant-loop-i : goal.invariant-loop-i
invariant-loop-i l = l.sections.items ≡ map (λ (f : Section). (f.on, f.comps)) (take l.i l.mesh.fields)
