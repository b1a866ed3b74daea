use Rattle.std.proofs.Common.{take}
use Rattle.std.specs.List.{AllByRecursion}
use Rattle.walk_defs.specs.step_defs.Words.{FitsWord}
use Rattle.plex_job.proofs.value_words.passing.values_fit.Given as goal

-- the values up to here
abbrev pub invariant-loop-value : goal.invariant-loop-value
invariant-loop-value l = AllByRecursion FitsWord (take l.value-index l.values)
