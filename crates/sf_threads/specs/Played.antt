-- What the table of a round ends with.
use Rattle.std.specs.Prelude.{◌≡◌, ℕ, ◌<◌, ◌^◌, List, length, get_or}
use Rattle.std.specs.List.{AllByRecursion}
use mathlib.Core.Option.{some}
use lib.ListN.{get_elem?}
use Rattle.atomic_table.specs.Table.{State}
use Rattle.sf_defs.specs.declared.Ask.{Ask}
use Rattle.sf_defs.specs.Asks.{Entry, Replays, on_word, IsOrderOf}
use Rattle.sf_defs.specs.Rounds.{entries}
use Rattle.sf_threads.specs.declared.thread_rule.view.Key.{Key}
use Rattle.sf_threads.specs.declared.thread_rule.view.View.{View}
use Rattle.sf_threads.specs.thread_rule.Rule.{view, Kept}
use Rattle.sf_threads.specs.Doing.{AreDoable, all_dones}

-- The rule held at the end, and one seat had all ranks, with all that they were asked and what they fetched.
pub record HasPlayed (key : Key) (asks : List (List Ask)) (got : List (List ℕ)) (after : List ℕ) : Type 0 where
  pub state : State (Unit {0}) View
  pub kept : Kept key state
  pub words : state.words ≡ after
  pub seat : ℕ
  pub has_all : get_elem? state.views seat ≡ some (view 0 key.ranks (all_dones 0 asks got))

-- a round's words and asks that threads can do
pub record IsPlayable (key : Key) (asks : List (List Ask)) : Type 0 where
  pub some_word : 0 < length key.words.items
  pub ranks : key.ranks ≡ length asks
  pub few_ranks : length asks < 2 ^ 32
  pub doable : AllByRecursion (AreDoable (length key.words.items)) asks

-- each word has some order of its entries that replays from its first value to its last one
abbrev pub HaveOrders : List ℕ → List (List Ask) → List (List ℕ) → List ℕ → Type 0
HaveOrders words asks got after =
    (w : ℕ) → w < length words → (es : List Entry) × IsOrderOf (on_word w (entries asks got)) es × Replays (get_or words w 0) es (get_or after w 0)
