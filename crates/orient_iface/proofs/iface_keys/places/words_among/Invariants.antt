use Rattle.std.proofs.Common.{◌≡◌, ◌+◌, [], get_or}
use Rattle.rank_chart_laws.specs.meeting_laws.Steps.{chosen}
use Rattle.rank_chart_laws.specs.key_laws.Places.{is_word, set_number}
use Rattle.rank_chart_laws.specs.key_laws.Words.{part}
use Rattle.orient_iface.proofs.iface_keys.places.words_among.Given as goal

abbrev pub invariant-loop-k : goal.invariant-loop-k
invariant-loop-k l = l.words.items ≡ chosen (λ k. is_word l.shared.forest l.rank (l.first + k)) (λ k. (set_number (get_or (part l.shared l.rank).sets (l.first + k) []), l.first + k)) l.k
