use Rattle.std.proofs.Common.{◌+◌, ◌-◌, ◌≤◌, length}
use Rattle.std.specs.Io.KnownBytes.{Consumes}
use Rattle.shelf_io.proofs.reading.read_up_to.Given as goal

-- what was read is the front of the file, within the limit
abbrev pub invariant-loop-got : goal.invariant-loop-got
invariant-loop-got g l =
    (length l.into.items ≤ l.limit) × Consumes (g.F.Read.remaining l.initial.file) (g.F.Read.remaining l.file) l.into.items

abbrev pub decreases-loop-got : goal.decreases-loop-got
decreases-loop-got g l = l.limit + 1 - length l.into.items
