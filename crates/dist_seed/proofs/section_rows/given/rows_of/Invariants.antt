use Rattle.std.proofs.Common.{◌≡◌, map, take}
use Rattle.mesh_defs.specs.Mesh.{Section}
use Rattle.plex_defs.specs.Fields.{row_values}
use Rattle.dist_state.specs.scatter_state.Parts.{given_rows}
use Rattle.dist_seed.specs.section_rows.Last.{numbers_on}
use Rattle.dist_seed.proofs.section_rows.given.rows_of.Given as goal

-- the rows in the sections up to here
abbrev pub invariant-loop-i : goal.invariant-loop-i
invariant-loop-i l = map given_rows l.all.items ≡ map (λ (f : Section). map (row_values f) (numbers_on f.on l.cells l.vertices)) (take l.i l.mesh.fields)
