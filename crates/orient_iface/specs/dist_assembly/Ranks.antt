-- Ranks that have drawn what they hold of a mesh, and have no twist.
use Rattle.std.specs.Prelude.{◌≡◌, ℕ, ◌<◌, List, None}
use Rattle.std.specs.List.{AllByRecursion}
use Rattle.mesh_defs.specs.Mesh.{Mesh}
use Rattle.rank_defs.specs.Spread.{PlainShared, IsShared}
use Rattle.rank_chart_laws.specs.moved_laws.Sames.{rank_moves}
use Rattle.rank_chart_laws.specs.key_laws.Keys.{keys_on, own_point_keys}
use Rattle.rank_cones.specs.rank_drawings.Told.{PlainDrawing, IsDrawing, AreDrawings}
use Rattle.orient_iface.specs.dist_assembly.Drawn.{twist_in}

-- what ranks share stands for this mesh, and they have its keys and whole drawings of it
pub record AreDrawn (s : PlainShared) (ds : List PlainDrawing) (keys : List (List ℕ)) (m : Mesh) (dofs : List (List ℕ)) (a : List ℕ) (n : ℕ) : Type 0 where
  pub shared : IsShared s m dofs a n
  pub keys_are : keys ≡ own_point_keys m a n
  pub drawings : AreDrawings m a n ds
  pub whole : AllByRecursion (λ d. twist_in d ≡ None) ds

-- of some mesh
pub record AreSomeDrawn (s : PlainShared) (ds : List PlainDrawing) (keys : List (List ℕ)) : Type 0 where
  pub m : Mesh
  pub dofs : List (List ℕ)
  pub a : List ℕ
  pub n : ℕ
  pub are : AreDrawn s ds keys m dofs a n

-- the same of one rank, whose points go where these moves tell
pub record IsRankDrawn (s : PlainShared) (r : ℕ) (d : PlainDrawing) (keys moves : List ℕ) (m : Mesh) (dofs : List (List ℕ)) (a : List ℕ) (n : ℕ) : Type 0 where
  pub shared : IsShared s m dofs a n
  pub rank : r < n
  pub keys_are : keys ≡ keys_on m a r
  pub moves_are : moves ≡ rank_moves m a r
  pub drawing : IsDrawing m a r d
  pub whole : twist_in d ≡ None

-- of some mesh
pub record MayAssemble (s : PlainShared) (r : ℕ) (d : PlainDrawing) (keys moves : List ℕ) : Type 0 where
  pub m : Mesh
  pub dofs : List (List ℕ)
  pub a : List ℕ
  pub n : ℕ
  pub is : IsRankDrawn s r d keys moves m dofs a n
