use Rattle.std.proofs.Common.{◌≡◌, drop}
use Rattle.std.specs.Prelude.{find}
use Rattle.input_defs.specs.Ahead.{is_ahead}
use Rattle.plan_reader.specs.Reading.{move_views}
use Rattle.plan_reader.proofs.fits.line_ahead.Given as goal

-- no step before this one is ahead, but for the first
abbrev pub invariant-loop-i : goal.invariant-loop-i
invariant-loop-i l = find (is_ahead l.ranks) (drop 1 (move_views l.moves)) ≡ find (is_ahead l.ranks) (drop l.i (move_views l.moves))
