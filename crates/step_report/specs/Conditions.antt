-- What a step can be printed of.
use Rattle.std.specs.Prelude.{◌≡◌, ℕ, ◌<◌, ◌≤◌, List, [], length, get_or}
use Rattle.std.specs.List.{AllByRecursion}
use Rattle.mesh_defs.specs.Diagram.{Diagram}
use Rattle.sf_defs.specs.Forest.{Forest, leaves_on}
use Rattle.sf_defs.specs.Rounds.{IsLegal}
use Rattle.rank_defs.specs.Spread.{LocalMesh, PlainDist}
use Rattle.walk_defs.specs.step_defs.Points.{owned_by}
use Rattle.walk_defs.specs.step_defs.Steps.{Printed, numbers_on}

-- where there is no rank
abbrev pub no_diagram : Diagram
no_diagram = record { dim = 0; cells = 0; vertices = 0; faces = 0; edges = 0; points = [] }

abbrev pub no_local : LocalMesh
no_local = record { diagram = no_diagram; keys = []; owners = []; labels = []; fields = []; at = [] }

-- what a rank holds
abbrev pub local_at : PlainDist → ℕ → LocalMesh
local_at d r = get_or d.locals r no_local

-- each rank has a base, each point that it holds a number, and each point that it owns a leaf of the trace; owners are ranks
pub record FitsRanks (d : PlainDist) (bases : List ℕ) (numbers : List (List ℕ)) (trace : Forest) : Type 0 where
  pub has_bases : length bases ≡ length d.locals
  pub has_ranks : length numbers ≡ length d.locals
  pub has_numbers : (r : ℕ) → r < length d.locals → length (numbers_on numbers r) ≡ length (local_at d r).diagram.points
  pub owners : (r : ℕ) → r < length d.locals → AllByRecursion (λ o. o < length d.locals) (local_at d r).owners
  pub knows_ranks : length trace.roots ≡ length d.locals
  pub has_leaves : (r : ℕ) → r < length d.locals → length (owned_by r (local_at d r)) ≤ length (leaves_on trace r)

-- the rounds that are shown are legal
pub record CanPrint (x : Printed) : Type 0 where
  pub ranks : FitsRanks x.dist x.bases x.numbers x.trace
  pub rounds : AllByRecursion IsLegal x.rounds
