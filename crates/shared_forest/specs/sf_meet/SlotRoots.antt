-- The roots that the slots of a rank stand at.
use Rattle.std.specs.Prelude.{◌≡◌, ℕ, ◌+◌, ◌<◌, List, length, get_or}
use Rattle.sf_defs.specs.Forest.{Forest, degree, roots_on}
use Rattle.sf_defs.specs.slots.Slots.{first_slot}
use Rattle.shared_forest.specs.sf_meet.Named.{least_ids}

-- for each slot of the first k roots of a rank, the index of its root
pub record AreSlotRoots (f : Forest) (rank k : ℕ) (roots : List ℕ) : Type 0 where
  pub count : length roots ≡ first_slot f rank k
  pub each : (index n : ℕ) → index < k → n < degree f rank index → get_or roots (first_slot f rank index + n) 0 ≡ index

-- the least ids of the slots of a rank
pub record AreLeast (f : Forest) (rank : ℕ) (firsts seconds ids found : List ℕ) : Type 0 where
  pub roots : List ℕ
  pub stand : AreSlotRoots f rank (roots_on f rank) roots
  pub least : found ≡ least_ids roots firsts seconds ids
