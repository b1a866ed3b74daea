-- Where asks stand in printed orders, as numbers that are compared field by field.
use Rattle.std.specs.Prelude.{◌≡◌, ℕ, suc, ◌-◌, ◌^◌, ◌<◌, ◌≤◌, Bool, ◌==◌, nat_lt, if◌then◌else◌, List, [], ◌∷◌, map, length, get_or, zip}
use Rattle.std.specs.List.{AllByRecursion, enumerate_from}
use Rattle.sf_defs.specs.declared.Op.{Op}
use Rattle.sf_defs.specs.declared.Op.TheVariants.{Load, Min, And, Replace}
use Rattle.sf_defs.specs.declared.Ask.{Ask}
use Rattle.sf_defs.specs.declared.Turn.{Turn}
use Rattle.sf_defs.specs.Asks.{Entry}
use Rattle.sf_defs.specs.PrintedOrder.{is_load, kind_of, changes}
use Rattle.sf_defs.specs.Rounds.{all_asks, asks_on, entries}
use Rattle.sf_fabric.specs.declared.orders.place.Place.{Place}

-- it is on word w
abbrev pub is_on : ℕ → Ask → Bool
is_on w a = a.word == w

-- the kind of a word that had this kind before these asks
abbrev pub then_kind : Op → List Ask → Op
then_kind kind asks = if is_load kind then kind_of asks else kind

-- a number that rises along the printed order as what was fetched goes on
abbrev pub fetched_key : Op → ℕ → ℕ → ℕ
fetched_key Min first got = 18446744073709551615 - got
fetched_key And first got = 18446744073709551615 - got
fetched_key Replace first got = if got == first then 0 else 1
fetched_key kind first got = got

-- the place of an entry on a word of this kind with this first value
abbrev pub place_of : Op → ℕ → Entry → Place
place_of kind first e = record { word = e.ask.word; fetched = fetched_key kind first e.got; changes = changes e; rank = e.rank; index = e.index }

-- the place of an entry where words have these kinds and first values
abbrev pub place_in : List Op → List ℕ → Entry → Place
place_in kinds words e = place_of (get_or kinds e.ask.word Load) (get_or words e.ask.word 0) e

-- the entry's name at a place
abbrev pub turn_at : Place → Turn
turn_at p = record { rank = p.rank; index = p.index }

-- the places of all entries, in words of their own kinds
unfoldable pub places_of : List ℕ → List (List Ask) → List (List ℕ) → List Place
places_of words asks got = map (λ e. place_of (kind_of (asks_on e.ask.word asks)) (get_or words e.ask.word 0) e) (entries asks got)

-- a rank's entries from place n on
abbrev pub entries_of : ℕ → ℕ → List Ask → List ℕ → List Entry
entries_of rank n asks got = map (λ x. record { rank = rank; index = x.0; ask = x.1.0; got = x.1.1 }) (enumerate_from n (zip asks got))

-- words do not fall
abbrev pub IsByWord : List Place → Type 0
IsByWord [] = Unit {0}
IsByWord (p ∷ ps) = AllByRecursion (λ (q : Place). p.word ≤ q.word) ps × IsByWord ps

-- how many places are of words below w
abbrev pub below_word : ℕ → List Place → ℕ
below_word w [] = 0
below_word w (p ∷ ps) = if nat_lt p.word w then suc (below_word w ps) else below_word w ps

-- each ask names a word and has a fetched value; few words, ranks and asks of a rank
pub record AreAsked (words : List ℕ) (asks : List (List Ask)) (got : List (List ℕ)) : Type 0 where
  pub few_words : length words < 2 ^ 32
  pub few_ranks : length asks < 2 ^ 32
  pub few_asks : AllByRecursion (λ own. length own < 2 ^ 32) asks
  pub in_range : AllByRecursion (λ (a : Ask). a.word < length words) (all_asks asks)
  pub fetched : map length got ≡ map length asks
