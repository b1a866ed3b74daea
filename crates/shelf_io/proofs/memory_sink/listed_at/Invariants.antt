use Rattle.std.proofs.Common.{◌≡◌, drop}
use Rattle.shelf_io.specs.Room.{listed_at}
use Rattle.shelf_io.proofs.memory_sink.listed_at.Given as goal

-- what was passed is not listed
abbrev pub invariant-loop-number : goal.invariant-loop-number
invariant-loop-number l = listed_at (drop l.number-index l.fail) l.call ≡ listed_at l.fail l.call
