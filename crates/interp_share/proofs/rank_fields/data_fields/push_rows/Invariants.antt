use Rattle.std.proofs.Common.{◌≡◌, ◌++◌, map, take}
use Rattle.dist_state.specs.scatter_state.Parts.{rows_at}
use Rattle.interp_share.specs.rank_fields.Words.{row_words}
use Rattle.interp_share.proofs.rank_fields.data_fields.push_rows.Given as goal

-- the points up to here
abbrev pub invariant-loop-i : goal.invariant-loop-i
invariant-loop-i l = l.field ≡ l.initial.field ++ map row_words (take l.i (rows_at l.part.rows l.f))
