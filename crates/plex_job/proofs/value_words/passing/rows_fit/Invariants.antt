use Rattle.std.proofs.Common.{take}
use Rattle.plex_job.specs.value_words.Rows.{FitsRows}
use Rattle.plex_job.proofs.value_words.passing.rows_fit.Given as goal

-- the rows up to here
abbrev pub invariant-loop-i : goal.invariant-loop-i
invariant-loop-i l = FitsRows (take l.i l.rows.rows)
