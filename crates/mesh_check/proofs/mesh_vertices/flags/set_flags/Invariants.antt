use Rattle.std.proofs.Common.{◌≡◌, ℕ, Bool, map, take}
use Rattle.mesh_check.proofs.mesh_vertices.Marking.{AreFlags}
use Rattle.mesh_check.proofs.mesh_vertices.flags.set_flags.Given as goal

abbrev pub invariant-loop-number : goal.invariant-loop-number
invariant-loop-number l = (test : ℕ → Bool) → l.fn.flags ≡ map test l.table → AreFlags test l.table (take l.number-index l.numbers) l.flags
