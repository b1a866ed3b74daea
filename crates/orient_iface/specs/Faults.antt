-- What is known after a fault: the home round was kept, or nothing was.
use Rattle.std.specs.Prelude.{◌≡◌, ◌⊎◌, ℕ, List, Some}
use Rattle.mesh_defs.specs.Mesh.{Mesh}
use Rattle.mesh_defs.specs.Diagram.{twist_key}
use Rattle.sf_defs.specs.Rounds.{Round}
use Rattle.sf_fabric.specs.Kept.{kept_with}
use Rattle.rank_defs.specs.Home.{IsHomeRound}
use Rattle.rank_defs.specs.Spread.{PlainShared, IsShared}
use Rattle.orient_iface.specs.declared.orienting.OrientFault.{OrientFault}
use Rattle.orient_iface.specs.declared.orienting.OrientFault.TheVariants.{Twist, NoMemory}

-- one round more is kept, the home round of each mesh that is stood for
abbrev pub IsKeptAfter : PlainShared → List Round → List Round → Type 0
IsKeptAfter s before after = (r : Round) × ((m : Mesh) (dofs : List (List ℕ)) (a : List ℕ) (n : ℕ) → IsShared s m dofs a n → IsHomeRound m a n r) × (after ≡ kept_with before r)

-- a twist is the twist key; want of memory may come before the home round
abbrev pub IsFault : PlainShared → List Round → List Round → OrientFault → Type 0
IsFault s before after (Twist key) = ((m : Mesh) (dofs : List (List ℕ)) (a : List ℕ) (n : ℕ) → IsShared s m dofs a n → twist_key m ≡ Some key.0) × IsKeptAfter s before after
IsFault s before after NoMemory = (after ≡ before) ⊎ IsKeptAfter s before after
