use Rattle.std.proofs.Common.{◌≡◌, ◌++◌, map, take}
use Rattle.interp_share.specs.rank_fields.Words.{multiples}
use Rattle.interp_share.proofs.rank_fields.builder.FieldBuilder.push_multiples.Given as goal

-- the points up to here
abbrev pub invariant-loop-weight : goal.invariant-loop-weight
invariant-loop-weight l = l.self ≡ l.initial.self ++ map (multiples l.count) (take l.weight-index l.weights)
