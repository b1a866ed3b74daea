use Rattle.std.proofs.Common.{◌≡◌, drop}
use Rattle.std.specs.List.{flat_map}
use Rattle.input_defs.specs.Causes.{first_cause}
use Rattle.input_defs.specs.Plans.{misfits}
use Rattle.plan_reader.specs.Reading.{move_views}
use Rattle.plan_reader.proofs.fits.first_misfit.Given as goal

-- the moves so far fit
abbrev pub invariant-loop-m : goal.invariant-loop-m
invariant-loop-m l = first_cause (flat_map (misfits l.ranks l.cells) (move_views l.moves)) ≡ first_cause (flat_map (misfits l.ranks l.cells) (move_views (drop l.m-index l.moves)))
