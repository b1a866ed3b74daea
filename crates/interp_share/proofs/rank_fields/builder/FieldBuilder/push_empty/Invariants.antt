use Rattle.std.proofs.Common.{◌≡◌, ◌++◌}
use Rattle.interp_share.specs.rank_fields.Words.{no_words}
use Rattle.interp_share.proofs.rank_fields.builder.FieldBuilder.push_empty.Given as goal

-- the points up to here
abbrev pub invariant-loop-point : goal.invariant-loop-point
invariant-loop-point l = l.self ≡ l.initial.self ++ no_words l._point
