use Rattle.std.proofs.Common.{take}
use Rattle.dist_seed.specs.section_rows.Last.{HasLastRows}
use Rattle.dist_seed.proofs.section_rows.tables.last_rows.Given as goal

-- the table of the rows up to here
abbrev pub invariant-loop-i : goal.invariant-loop-i
invariant-loop-i l = HasLastRows (take l.i l.rows.rows) l.count l.places.items
