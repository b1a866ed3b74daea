-- What a rank holds of cells and vertices.
use Rattle.std.specs.Prelude.{◌≡◌, ℕ, List, length}
use Rattle.mesh_defs.specs.declared.Poly.{Poly}
use Rattle.mesh_defs.specs.Mesh.{Mesh, Cell}
use Rattle.rank_defs.specs.Ranks.{assigned}
use Rattle.headline_laws.specs.seed_laws.Asked.{rank_vertices}

-- cells with their places in the whole mesh, and their vertices
pub record Held : Type 0 where
  pub cells : List (ℕ × Cell)
  pub vertices : List ℕ

-- the cells that are assigned to a rank, and the vertices that they have
unfoldable pub held_of : Mesh → List ℕ → ℕ → Held
held_of m a r = record { cells = assigned m a r; vertices = rank_vertices m a r }

-- a polytope and corners for each cell
pub record IsFull (numbers : List ℕ) (kinds : List Poly) (lists : List (List ℕ)) : Type 0 where
  pub polys : length kinds ≡ length numbers
  pub corners : length lists ≡ length numbers
