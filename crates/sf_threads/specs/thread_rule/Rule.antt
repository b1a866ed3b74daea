-- The rule of a table of words: one list of what was done, which replays, and in which each rank's own stand as its seat
-- knows them.
use Rattle.std.specs.Prelude.{◌≡◌, ℕ, ◌+◌, ◌<◌, ◌≤◌, List, [], ◌∷◌, ◌++◌, map, length, get_or, slice_set}
use Rattle.std.specs.List.{AllByRecursion}
use mathlib.Core.Option.{some}
use lib.ListN.{get_elem?}
use Rattle.atomic_table.specs.Table.{State, Me, Step}
use Rattle.sf_defs.specs.declared.Op.{Op}
use Rattle.sf_defs.specs.Asks.{Entry, after_ask, of_rank}
use Rattle.sf_threads.specs.declared.thread_rule.view.Done.{Done}
use Rattle.sf_threads.specs.declared.thread_rule.view.View.{View}
use Rattle.sf_threads.specs.declared.thread_rule.view.Key.{Key}

-- ---- views

abbrev pub entry_of : Done → Entry
entry_of d = record { rank = d.rank; index = d.index; ask = d.ask; got = d.got }

abbrev pub entries_of : View → List Entry
entries_of v = map entry_of v.done

abbrev pub view : ℕ → ℕ → List Done → View
view first end done = record { first = first; end = end; done = done }

-- the ranks of a view
pub record HasRank (v : View) (rank : ℕ) : Type 0 where
  pub from : v.first ≤ rank
  pub below : rank < v.end

-- all ranks, which have done nothing
abbrev pub everyone : Key → View
everyone k = view 0 k.ranks []

-- no rank
abbrev pub nobody : View
nobody = view 0 0 []

-- the first rank with all that was done, and the others, which have done nothing
abbrev pub first_of : View → View
first_of v = view v.first (v.first + 1) v.done

abbrev pub others_of : View → View
others_of v = view (v.first + 1) v.end []

-- the ranks of two views, one after the other
abbrev pub joined : View → View → View
joined v w = view v.first w.end (v.done ++ w.done)

-- ---- the rule

-- the words after an entry
abbrev pub words_with : List ℕ → Entry → List ℕ
words_with words e = slice_set words e.ask.word (after_ask e.ask (get_or words e.ask.word 0))

-- from these words on, each entry in turn fetched its word as it stood, and the last one leaves the words as `last`
abbrev pub Plays : List ℕ → List Entry → List ℕ → Type 0
Plays words [] last = words ≡ last
Plays words (e ∷ es) last = (e.ask.word < length words) × (e.got ≡ get_or words e.ask.word 0) × Plays (words_with words e) es last

-- what was done by the ranks of a view is what the view has, and nobody else's
pub record Knows (log : List Entry) (ranks : ℕ) (v : View) : Type 0 where
  pub own : (rank : ℕ) → HasRank v rank → of_rank rank log ≡ of_rank rank (entries_of v)
  pub inside : AllByRecursion (λ (d : Done). HasRank v d.rank) v.done
  pub within : v.end ≤ ranks

-- each view knows its ranks, and no rank is in two views; ranks that there are not have done nothing
pub record AreSeats (log : List Entry) (ranks : ℕ) (views : List View) : Type 0 where
  pub know : (seat : ℕ) (v : View) → get_elem? views seat ≡ some v → Knows log ranks v
  pub apart : (seat other : ℕ) (v w : View) (rank : ℕ) → get_elem? views seat ≡ some v → get_elem? views other ≡ some w → HasRank v rank → HasRank w rank → seat ≡ other
  pub no_others : (rank : ℕ) → ranks ≤ rank → of_rank rank log ≡ []

-- some list of all that was done replays to the words as they stand, and seats know it
pub record Kept (k : Key) (s : State (Unit {0}) View) : Type 0 where
  pub log : List Entry
  pub plays : Plays k.words.items log s.words
  pub seats : AreSeats log k.ranks s.views

-- ---- what a step tells

-- the one rank of a view has done one more ask
abbrev pub Does : Op → Step (Unit {0}) → Me (Unit {0}) View → ℕ → Me (Unit {0}) View → Type 0
Does op s v found w =
    w ≡ (view v.0.first v.0.end (v.0.done ++ record { rank = v.0.first; index = length v.0.done; ask = record { word = s.word; op = op; value = s.first }; got = found } ∷ []), v.1)
