use Rattle.std.proofs.Common.{take}
use Rattle.rank_laws.specs.cell_laws.Cells.{IsAdded}
use Rattle.interp_share.proofs.part_weights.weights.add_at.Given as goal

-- the value at the places up to here
abbrev pub invariant-loop-place : goal.invariant-loop-place
invariant-loop-place l = IsAdded l.value (take l.place-index l.places) l.initial.weights.items l.weights.items
