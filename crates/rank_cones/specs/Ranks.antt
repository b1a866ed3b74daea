-- A rank of a mesh, and what is drawn of it.
use Rattle.std.specs.Prelude.{◌≡◌, ℕ, ◌<◌, List, None, Some}
use Rattle.mesh_defs.specs.Mesh.{Mesh, Cell}
use Rattle.mesh_defs.specs.Diagram.{diagram}
use Rattle.mesh_defs.specs.RightMesh.{IsRightMesh}
use Rattle.rank_defs.specs.Ranks.{IsRightAssignment, assigned}
use Rattle.rank_laws.specs.orient_laws.Named.{own_twist}
use Rattle.local_points.specs.Points.{Local, local_points}
use Rattle.rank_cones.specs.held_points.Held.{Held, held_of}
use Rattle.rank_chart_laws.specs.OwnRanks.{own_vertices}
use Rattle.rank_cones.specs.declared.drawn.Drawn.{Drawn}
use Rattle.rank_cones.specs.declared.drawn.Drawn.TheVariants.{Whole, Twisted}

-- rank r of n has these cells and vertices of a right mesh, sees these points of its own, and holds these by key
pub record IsRank (m : Mesh) (n : ℕ) (a : List ℕ) (r : ℕ) (dim : ℕ) (cells : List (ℕ × Cell)) (vertices : List ℕ) (local : Local) (held : Held) : Type 0 where
  pub right : IsRightMesh m
  pub ranks : IsRightAssignment m n a
  pub rank : r < n
  pub dim_is : dim ≡ m.dim
  pub cells_are : cells ≡ assigned m a r
  pub vertices_are : vertices ≡ own_vertices m (assigned m a r)
  pub local_is : local ≡ local_points (assigned m a r)
  pub held_is : held ≡ held_of m (assigned m a r)

-- the diagram of the rank's cells, none of which sees a face under no orientation; or the least key of a face that one sees so
abbrev pub Draws : Mesh → List ℕ → ℕ → Drawn → Type 0
Draws m a r (Whole plex) = (plex ≡ diagram m (assigned m a r)) × (own_twist m a r ≡ None)
Draws m a r (Twisted key) = own_twist m a r ≡ Some key.0
