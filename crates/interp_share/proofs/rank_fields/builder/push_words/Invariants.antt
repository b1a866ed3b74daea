use Rattle.std.proofs.Common.{◌≡◌, ◌++◌, map, take}
use Rattle.plex_defs.specs.Fields.{word_of}
use Rattle.interp_share.proofs.rank_fields.builder.push_words.Given as goal

-- the words up to here
abbrev pub invariant-loop-value : goal.invariant-loop-value
invariant-loop-value l = l.words.items ≡ l.initial.words.items ++ map word_of (take l.value-index l.values)
