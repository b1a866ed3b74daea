-- How a shared root is answered.
use Rattle.std.specs.Prelude.{◌≡◌, ℕ, Option, Some}
use Rattle.sf_algebra.specs.declared.fault.InvertFault.{InvertFault}
use Rattle.sf_algebra.specs.declared.fault.InvertFault.TheVariants.{Shared, NoMemory}

-- memory ran out, or the fault is this shared root
abbrev pub IsSharedFault : InvertFault → Option (ℕ × ℕ) → Type 0
IsSharedFault NoMemory shared = Unit {0}
IsSharedFault (Shared rank root) shared = shared ≡ Some (rank, root)
