-- What ranks know and drew, of a mesh that what they share stands for.
use Rattle.std.specs.Prelude.{◌≡◌, ℕ, List, None, Some}
use Rattle.mesh_defs.specs.Mesh.{Mesh}
use Rattle.mesh_defs.specs.RightMesh.{IsRightMesh}
use Rattle.mesh_defs.specs.Diagram.{twist_key}
use Rattle.rank_defs.specs.Ranks.{IsRightAssignment}
use Rattle.rank_defs.specs.Spread.{PlainShared, PlainDist, IsDist}
use Rattle.rank_cones.specs.rank_drawings.Told.{PlainDrawing, AreDrawings}
use Rattle.orient_iface.specs.iface_arrangements.Keyed.{AreKeyed}
use Rattle.orient_iface.specs.declared.orienting.OrientFault.{OrientFault}
use Rattle.orient_iface.specs.declared.orienting.OrientFault.TheVariants.{Twist, NoMemory}

-- drawings of a right mesh by ranks of a right assignment
pub record AreOfMesh (ds : List PlainDrawing) (m : Mesh) (a : List ℕ) (n : ℕ) : Type 0 where
  pub mesh : IsRightMesh m
  pub assignment : IsRightAssignment m n a
  pub drawings : AreDrawings m a n ds

-- of some mesh
pub record AreOfSome (ds : List PlainDrawing) : Type 0 where
  pub m : Mesh
  pub a : List ℕ
  pub n : ℕ
  pub are : AreOfMesh ds m a n

-- the distribution of each mesh that is stood for, none of which has a twist
abbrev pub IsDistOfAll : PlainShared → List (List ℕ) → PlainDist → Type 0
IsDistOfAll s keys d = (m : Mesh) (dofs : List (List ℕ)) (a : List ℕ) (n : ℕ) → AreKeyed s keys m dofs a n → IsDist d m dofs a n 0 × (twist_key m ≡ None)

-- a twist is the twist key of each mesh that is stood for
abbrev pub IsTwistOfAll : PlainShared → List (List ℕ) → OrientFault → Type 0
IsTwistOfAll s keys (Twist key) = (m : Mesh) (dofs : List (List ℕ)) (a : List ℕ) (n : ℕ) → AreKeyed s keys m dofs a n → twist_key m ≡ Some key.0
IsTwistOfAll s keys NoMemory = Unit {0}
