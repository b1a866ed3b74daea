-- What one ask does to a word, and what a list of asks does to it one after another.
use Rattle.std.specs.Prelude.{◌≡◌, ℕ, ◌+◌, ◌%◌, ◌^◌, ◌<◌, min, max, bit_and, bit_or, Bool, ◌&&◌, ◌==◌, List, [], ◌∷◌, map, filter}
use Rattle.std.specs.List.{AllByRecursion}
use Rattle.sf_defs.specs.declared.Op.{Op}
use Rattle.sf_defs.specs.declared.Op.TheVariants.{Load, Sum, Min, Max, Or, And, Replace}
use Rattle.sf_defs.specs.declared.Ask.{Ask}

-- the word after the operation with this value; words have 64 bits
unfoldable pub step : Op → ℕ → ℕ → ℕ
step Load value word = word
step Sum value word = (word + value) % 2 ^ 64
step Min value word = min word value
step Max value word = max word value
step Or value word = bit_or word value
step And value word = bit_and word value
step Replace value word = value

-- a rank's ask, its place in the rank's list, and the value that it fetched
pub record Entry : Type 0 where
  pub rank : ℕ
  pub index : ℕ
  pub ask : Ask
  pub got : ℕ

-- the word after an ask
abbrev pub after_ask : Ask → ℕ → ℕ
after_ask ask word = step ask.op ask.value word

-- the word after these asks, one after another
abbrev pub word_after : ℕ → List Ask → ℕ
word_after word [] = word
word_after word (a ∷ asks) = word_after (after_ask a word) asks

-- from `word` on, each entry in turn fetches the word as it stands, and the last one leaves it as `last`
abbrev pub Replays : ℕ → List Entry → ℕ → Type 0
Replays word [] last = word ≡ last
Replays word (e ∷ es) last = (e.got ≡ word) × Replays (after_ask e.ask word) es last

-- the same as a test
abbrev pub does_replay : ℕ → List Entry → ℕ → Bool
does_replay word [] last = word == last
does_replay word (e ∷ es) last = (e.got == word) && does_replay (after_ask e.ask word) es last

-- the entries of one rank
abbrev pub of_rank : ℕ → List Entry → List Entry
of_rank rank es = filter (λ e. e.rank == rank) es

-- the entries on one word
abbrev pub on_word : ℕ → List Entry → List Entry
on_word w es = filter (λ e. e.ask.word == w) es

-- each number is below all that follow
abbrev pub IsRising : List ℕ → Type 0
IsRising [] = Unit {0}
IsRising (n ∷ ns) = AllByRecursion (λ m. n < m) ns × IsRising ns

-- each rank's entries stand in the rank's own order
abbrev pub HasOwnOrder : List Entry → Type 0
HasOwnOrder es = (rank : ℕ) → IsRising (map (λ (e : Entry). e.index) (of_rank rank es))

-- each of these entries once, each rank's in the same order
abbrev pub IsOrderOf : List Entry → List Entry → Type 0
IsOrderOf all es = (rank : ℕ) → of_rank rank es ≡ of_rank rank all
