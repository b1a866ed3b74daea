use Rattle.std.proofs.Common.{take}
use Rattle.std.specs.List.{AllByRecursion}
use Rattle.mesh_defs.specs.Mesh.{Section}
use Rattle.plex_job.specs.value_words.Rows.{FitsRows}
use Rattle.plex_job.proofs.value_words.passing.words_fit.Given as goal

-- the sections up to here
abbrev pub invariant-loop-i : goal.invariant-loop-i
invariant-loop-i l = AllByRecursion (λ (f : Section). FitsRows f.rows) (take l.i l.mesh.fields)
