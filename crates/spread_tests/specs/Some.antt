-- Scatters and shared points that stand for some mesh.
use Rattle.std.specs.Prelude.{ℕ, List}
use Rattle.mesh_defs.specs.Mesh.{Mesh}
use Rattle.rank_defs.specs.Spread.{PlainScatter, PlainShared, IsScatter, IsShared}

abbrev pub IsSomeScatter : PlainScatter → Type 0
IsSomeScatter s = (m : Mesh) × (dofs : List (List ℕ)) × (a : List ℕ) × (n : ℕ) × IsScatter s m dofs a n

abbrev pub IsSomeShared : PlainShared → Type 0
IsSomeShared s = (m : Mesh) × (dofs : List (List ℕ)) × (a : List ℕ) × (n : ℕ) × IsShared s m dofs a n
