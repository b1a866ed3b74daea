-- Ranks that know keys and arrangements of what they see, and what they draw.
use Rattle.std.specs.Prelude.{◌≡◌, ℕ, ◌<◌, List, [], length, get_or, Option, Some, None}
use Rattle.mesh_defs.specs.Mesh.{Mesh, Cell}
use Rattle.mesh_defs.specs.Tables.{dim_of}
use Rattle.plex_base.specs.declared.dim.Dim.{Dim}
use Rattle.plex_base.specs.Dim.{dim_number}
use Rattle.dist_state.specs.scatter_state.Parts.{cell_at}
use Rattle.rank_defs.specs.Ranks.{assigned}
use Rattle.rank_defs.specs.Spread.{PlainShared, IsShared}
use Rattle.rank_chart_laws.specs.key_laws.Keys.{own_point_keys}
use Rattle.rank_cones.specs.arrangement_laws.Arrangements.{arrangements_on, own_arrangements}
use Rattle.rank_cones.specs.held_points.Held.{Held, held_of}
use Rattle.rank_cones.specs.declared.drawn.Drawn.{Drawn}
use Rattle.rank_cones.specs.Ranks.{Draws}

-- ---- what ranks know

-- what ranks see stands for this mesh, and they know its keys and its arrangements
pub record AreTold (s : PlainShared) (keys : List (List ℕ)) (arrangements : List (List (List ℕ))) (m : Mesh) (dofs : List (List ℕ)) (a : List ℕ) (n : ℕ) : Type 0 where
  pub shared : IsShared s m dofs a n
  pub keys_are : keys ≡ own_point_keys m a n
  pub arrangements_are : arrangements ≡ own_arrangements m a n

-- of some mesh
pub record AreOfSomeMesh (s : PlainShared) (keys : List (List ℕ)) (arrangements : List (List (List ℕ))) : Type 0 where
  pub m : Mesh
  pub dofs : List (List ℕ)
  pub a : List ℕ
  pub n : ℕ
  pub are : AreTold s keys arrangements m dofs a n

-- rank r of n, which knows all keys and its own arrangements
pub record IsTold (s : PlainShared) (keys : List (List ℕ)) (own : List (List ℕ)) (m : Mesh) (dofs : List (List ℕ)) (a : List ℕ) (n r : ℕ) : Type 0 where
  pub shared : IsShared s m dofs a n
  pub keys_are : keys ≡ own_point_keys m a n
  pub inside : r < n
  pub own_are : own ≡ arrangements_on m a r

-- a rank of some mesh of this dimension
pub record MayDraw (dim : ℕ) (s : PlainShared) (keys : List (List ℕ)) (own : List (List ℕ)) (r : ℕ) : Type 0 where
  pub m : Mesh
  pub dofs : List (List ℕ)
  pub a : List ℕ
  pub n : ℕ
  pub told : IsTold s keys own m dofs a n r
  pub dim_is : dim ≡ m.dim

-- the dimension of the first of some cells, and none where there are no cells
abbrev pub IsDimOf : List (ℕ × Cell) → Option Dim → Type 0
IsDimOf cells None = cells ≡ []
IsDimOf cells (Some dim) = (0 < length cells) × (dim_number dim ≡ dim_of (cell_at cells 0).1.poly)

-- ---- drawings

-- what a rank holds by key, and what it drew
pub record PlainDrawing : Type 0 where
  pub held : Held
  pub drawn : Drawn

-- that of rank r
pub record IsDrawing (m : Mesh) (a : List ℕ) (r : ℕ) (d : PlainDrawing) : Type 0 where
  pub held : d.held ≡ held_of m (assigned m a r)
  pub drawn : Draws m a r d.drawn

-- those of n ranks
pub record AreDrawings (m : Mesh) (a : List ℕ) (n : ℕ) (ds : List PlainDrawing) : Type 0 where
  pub count : length ds ≡ n
  pub each : (r : ℕ) (d : PlainDrawing) → r < n → IsDrawing m a r (get_or ds r d)
