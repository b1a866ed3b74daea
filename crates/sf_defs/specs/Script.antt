-- Scripted rounds: picks say which rank does its next ask.
use Rattle.std.specs.Prelude.{ℕ, List, [], ◌∷◌, ◌++◌, length, map, flat_map, get_or, set, take, drop}
use Rattle.std.specs.List.{enumerate_from}
use Rattle.plain_lists.specs.Lists.{below}
use Rattle.sf_defs.specs.declared.Tag.{Tag}
use Rattle.sf_defs.specs.declared.Ask.{Ask}
use Rattle.sf_defs.specs.Asks.{Entry, after_ask, of_rank}
use Rattle.sf_defs.specs.Rounds.{Round, printed_turns}

-- a rank's ask, and its place in the rank's list
pub record Event : Type 0 where
  pub rank : ℕ
  pub index : ℕ
  pub ask : Ask

-- each rank's asks, to be done in this order
abbrev pub queues : List (List Ask) → List (List Event)
queues asks = map (λ x. map (λ y. record { rank = x.0; index = y.0; ask = y.1 }) (enumerate_from 0 x.1)) (enumerate_from 0 asks)

-- A pick takes the first of its queue, and nothing where the queue is empty or there is none. After the picks the queues
-- follow one after another.
abbrev pub walk : List ℕ → List (List Event) → List Event
walk [] queues = flat_map (λ q. q) queues
walk (p ∷ picks) queues = take 1 (get_or queues p []) ++ walk picks (set queues p (drop 1 (get_or queues p [])))

-- the words after an event
abbrev pub words_after : List ℕ → Event → List ℕ
words_after words e = set words e.ask.word (after_ask e.ask (get_or words e.ask.word 0))

-- what each event fetches, one after another
abbrev pub fetching : List ℕ → List Event → List Entry
fetching words [] = []
fetching words (e ∷ es) = record { rank = e.rank; index = e.index; ask = e.ask; got = get_or words e.ask.word 0 } ∷ fetching (words_after words e) es

-- the words after all events
abbrev pub words_after_all : List ℕ → List Event → List ℕ
words_after_all words [] = words
words_after_all words (e ∷ es) = words_after_all (words_after words e) es

-- what each rank's asks fetched, of as many ranks
abbrev pub fetched_by_rank : ℕ → List Entry → List (List ℕ)
fetched_by_rank ranks es = map (λ rank. map (λ (e : Entry). e.got) (of_rank rank es)) (below ranks)

-- the round that these events give
abbrev pub round_of : Tag → List ℕ → List (List Ask) → List Event → Round
round_of tag words asks events =
    let got = fetched_by_rank (length asks) (fetching words events) in
    record { tag = tag; before = words; asks = asks; got = got; after = words_after_all words events; order = map (printed_turns words asks got) (below (length words)) }

-- the scripted round of these picks
unfoldable pub scripted : Tag → List ℕ → List (List Ask) → List ℕ → Round
scripted tag words asks picks = round_of tag words asks (walk picks (queues asks))
