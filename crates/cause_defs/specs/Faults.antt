-- Faults by counts. Each object of the outside counts how often it has failed, and the count never falls, so that
-- a fault is answered only where the object itself has failed.
use Rattle.std.specs.Prelude.{◌≡◌, ℕ, ◌-◌, ◌^◌, ◌<◌, ◌⊎◌, List}
use Rattle.cause_defs.specs.Told.{Told, IsWhereTold}

-- the count rose: it is greater after the call than before it, or stands at the end of its type
abbrev pub Rises : ℕ → ℕ → Type 0
Rises old new = (old < new) ⊎ (new ≡ 2 ^ 64 - 1)

-- Taking the file of this name has failed: the shelf's count rose, and this is the name that failed last, where that is told.
-- The meanings of the shelf's type come first, and then the shelf before and after the call.
pub record FailsTake {S : Type 0} (faults : S → ℕ) (last_failed : S → Told (List ℕ)) (old new : S) (name : List ℕ) : Type 0 where
  pub rose : Rises (faults old) (faults new)
  pub last : IsWhereTold (last_failed new) name
