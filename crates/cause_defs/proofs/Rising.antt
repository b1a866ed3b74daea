-- Counts that rise over several calls.
use Rattle.std.proofs.Common.{ℕ, ◌^◌, ◌<◌, ◌≤◌, inl, inr, arith}
use Rattle.cause_defs.specs.Faults.{Rises}

-- a count that rose has risen still after later calls
pub Rises-later : (old mid new : ℕ) → Rises old mid → mid ≤ new → new < 2 ^ 64 → Rises old new
Rises-later old mid new (inl lt) le fits = inl (omega arith)
Rises-later old mid new (inr top) le fits = inr (omega arith)

-- a count that rose in a later call rose since the earlier ones
pub Rises-earlier : (old mid new : ℕ) → old ≤ mid → Rises mid new → Rises old new
Rises-earlier old mid new le (inl lt) = inl (omega arith)
Rises-earlier old mid new le (inr top) = inr top
