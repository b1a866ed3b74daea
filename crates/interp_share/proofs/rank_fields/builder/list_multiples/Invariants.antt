use Rattle.std.proofs.Common.{◌≡◌}
use Rattle.interp_share.specs.rank_fields.Words.{multiples}
use Rattle.interp_share.proofs.rank_fields.builder.list_multiples.Given as goal

-- the multiples up to here
abbrev pub invariant-loop-i : goal.invariant-loop-i
invariant-loop-i l = l.words.items ≡ multiples l.i l.weight
