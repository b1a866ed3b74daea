-- The cells of a part by the sets of their vertices.
use Rattle.std.specs.Prelude.{◌≡◌, ◌⊎◌, ℕ, List, [], map}
use Rattle.mesh_defs.specs.Mesh.{Cell}
use Rattle.rank_chart_laws.specs.mark_laws.Sets.{filled}

-- the set of a cell
abbrev pub set_of : ℕ × Cell → List ℕ
set_of c = filled c.1.vertices

-- these are the sets of the cells, in their order
pub record IsTableOf (cells : List (ℕ × Cell)) (sets : List (List ℕ)) : Type 0 where
  pub found : sets ≡ map set_of cells

-- so they are, or none was found yet
abbrev pub IsTableOrNone : List (ℕ × Cell) → List (List ℕ) → Type 0
IsTableOrNone cells sets = (sets ≡ []) ⊎ IsTableOf cells sets
