-- What a round's words have where steps on them were done one at a time.
use Rattle.std.specs.Prelude.{◌≡◌, ℕ, ◌+◌, ◌<◌, ◌==◌, true, List, [], length, map, filter, get_or}
use Rattle.sf_defs.specs.declared.Ask.{Ask}
use Rattle.sf_defs.specs.Asks.{Entry, Replays, IsOrderOf, on_word}
use Rattle.sf_defs.specs.PrintedOrder.{kind_of, stands_before}
use Rattle.sf_defs.specs.Rounds.{Round, MeetsConditions, entries, printed_turns}
use Rattle.sf_defs.specs.Script.{Event, queues}

-- each word has some order of its entries, each rank's own in its order, that replays from its first value to its last one
abbrev pub HasReplayingOrders : Round → Type 0
HasReplayingOrders r = (w : ℕ) → w < length r.before → (es : List Entry) × IsOrderOf (on_word w (entries r.asks r.got)) es × Replays (get_or r.before w 0) es (get_or r.after w 0)

-- words and asks meet the conditions, each ask has its value, each word its last value, and the orders are the printed ones
pub record IsPrinted (r : Round) : Type 0 where
  pub conditions : MeetsConditions r.before r.asks
  pub fetched : map length r.got ≡ map length r.asks
  pub lasts : length r.after ≡ length r.before
  pub orders : length r.order ≡ length r.before
  pub printed : (w : ℕ) → w < length r.before → get_or r.order w [] ≡ printed_turns r.before r.asks r.got w

-- each ask once, each rank's own in its order
abbrev pub IsScheduleOf : List (List Ask) → List Event → Type 0
IsScheduleOf asks events = (rank : ℕ) → filter (λ (e : Event). e.rank == rank) events ≡ get_or (queues asks) rank []

-- each entry of es stands before the next one, by the printed order of a word that has all these entries
abbrev pub AreNeighboursInOrder : ℕ → List Entry → List Entry → Type 0
AreNeighboursInOrder first all es = (k : ℕ) (d : Entry) → k + 1 < length es → stands_before (kind_of (map (λ (e : Entry). e.ask) all)) first (get_or es k d) (get_or es (k + 1) d) ≡ true
