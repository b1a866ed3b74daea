-- What spreading the mesh of a task leaves on the fabric.
use Rattle.std.specs.Prelude.{◌≡◌, ◌⊎◌, List, [], ◌∷◌, ◌++◌, Some}
use Rattle.mesh_defs.specs.Diagram.{twist_key}
use Rattle.sf_defs.specs.Rounds.{Round}
use Rattle.input_defs.specs.Refused.{Task}
use Rattle.orient_iface.specs.declared.orienting.OrientFault.{OrientFault}
use Rattle.orient_iface.specs.declared.orienting.OrientFault.TheVariants.{Twist, NoMemory}
use Rattle.plex_job.specs.Once.{IsHome}

-- One more round is kept, the home round of the task. The meaning of the fabric's type comes first.
pub record KeepsHome {F : Type 0} (kept : F → List Round) (t : Task) (fabric fabric_then : F) (home : Round) : Type 0 where
  pub home_is : IsHome t.mesh t.plan home
  pub kept_is : kept fabric_then ≡ kept fabric ++ home ∷ []

-- a mesh with a twist is refused after its home round; memory may run out before it or after it
abbrev pub IsSpreadFault : {F : Type 0} → (F → List Round) → Task → F → F → OrientFault → Type 0
IsSpreadFault kept t fabric fabric_then (Twist key) = (twist_key t.mesh ≡ Some key.0) × ((home : Round) × KeepsHome kept t fabric fabric_then home)
IsSpreadFault kept t fabric fabric_then NoMemory = (kept fabric_then ≡ kept fabric) ⊎ ((home : Round) × KeepsHome kept t fabric fabric_then home)
