-- What ranks have of a mesh once they have met.
use Rattle.std.specs.Prelude.{ℕ, List}
use Rattle.mesh_defs.specs.Mesh.{Mesh}
use Rattle.rank_defs.specs.Spread.{PlainShared, IsShared}

-- it stands for this mesh, under some assignment and counts of words
abbrev pub IsOfMesh : PlainShared → Mesh → Type 0
IsOfMesh s m = (dofs : List (List ℕ)) × (a : List ℕ) × (n : ℕ) × IsShared s m dofs a n
