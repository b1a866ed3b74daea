-- What a cell contains, and values that are added at places.
use Rattle.std.specs.Prelude.{◌≡◌, ℕ, ◌+◌, ◌*◌, ◌<◌, ◌==◌, Bool, cond, List, ◌∷◌, ◌++◌, length, map, count_by, slice_index}
use Rattle.std.specs.List.{list_any}
use Rattle.mesh_defs.specs.Mesh.{Cell}
use Rattle.mesh_defs.specs.Points.{Sight, vertex_sight, cell_sight, cell_faces, cell_edges}

-- itself, its vertices, its faces where it is a solid, its edges
abbrev pub cell_all : ℕ → Cell → List Sight
cell_all c cell = (cell_sight c cell ∷ map vertex_sight cell.vertices) ++ cell_faces c cell ++ cell_edges c cell

-- one where something passes, none else
abbrev pub once : Bool → ℕ
once b = cond b 1 0

-- as many pass as pass at all: one or none
abbrev pub Once : {X : Type 0} → (X → Bool) → List X → Type 0
Once p xs = count_by p xs ≡ once (list_any p xs)

-- these places, counted from a base
abbrev pub places_from : ℕ → List ℕ → List ℕ
places_from base places = map (λ k. base + k) places

-- a value is added at each of these places
pub record IsAdded (value : ℕ) (places before after : List ℕ) : Type 0 where
  pub many : length after ≡ length before
  pub each : (p : ℕ) → p < length before → slice_index after p ≡ slice_index before p + value * count_by (λ k. k == p) places
