-- Ranks that know the keys of what they see.
use Rattle.std.specs.Prelude.{◌≡◌, ℕ, List}
use Rattle.mesh_defs.specs.Mesh.{Mesh}
use Rattle.rank_defs.specs.Spread.{PlainShared, IsShared}
use Rattle.rank_chart_laws.specs.key_laws.Keys.{own_point_keys}

-- what ranks see stands for this mesh, and they know its keys
pub record AreKeyed (s : PlainShared) (keys : List (List ℕ)) (m : Mesh) (dofs : List (List ℕ)) (a : List ℕ) (n : ℕ) : Type 0 where
  pub shared : IsShared s m dofs a n
  pub keys_are : keys ≡ own_point_keys m a n

-- of some mesh
pub record AreSomeKeyed (s : PlainShared) (keys : List (List ℕ)) : Type 0 where
  pub m : Mesh
  pub dofs : List (List ℕ)
  pub a : List ℕ
  pub n : ℕ
  pub are : AreKeyed s keys m dofs a n
