use Rattle.std.proofs.Common.{◌≡◌, map, take}
use Rattle.dist_state.specs.scatter_state.Parts.{given_rows}
use Rattle.dist_seed.specs.section_rows.Last.{last_values}
use Rattle.dist_seed.proofs.section_rows.given.values_of.Given as goal

-- the rows of the numbers up to here
abbrev pub invariant-loop-n : goal.invariant-loop-n
invariant-loop-n l = given_rows l.lists ≡ map (last_values l.rows.rows) (take l.n-index l.numbers)
