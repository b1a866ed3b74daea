use Rattle.std.proofs.Common.{take}
use Rattle.dist_seed.specs.section_rows.Last.{AreTablesOf}
use Rattle.dist_seed.proofs.section_rows.tables.tables_of.Given as goal

-- the tables of the sections up to here
abbrev pub invariant-loop-i : goal.invariant-loop-i
invariant-loop-i l = AreTablesOf l.mesh (take l.i l.mesh.fields) l.tables.items
