-- Rounds: what ranks ask of shared words, what each ask fetches, and in which order of each word. When a round is legal.
use Rattle.std.specs.Prelude.{◌≡◌, ◌⊎◌, ℕ, ◌+◌, ◌^◌, ◌<◌, ◌≤◌, Bool, true, false, not, ◌&&◌, ◌||◌, ◌==◌, nat_lt, nat_le, if◌then◌else◌, List, [], length, map, filter, flat_map, zip, get_or, sum_by, count_by}
use Rattle.std.specs.List.{list_all, enumerate_from, AllByRecursion}
use Rattle.plain_lists.specs.Lists.{below, same_list}
use Rattle.sf_defs.specs.declared.Op.{Op}
use Rattle.sf_defs.specs.declared.Op.TheVariants.{Load, Sum, Min, Max, Or, And, Replace}
use Rattle.sf_defs.specs.declared.Tag.{Tag}
use Rattle.sf_defs.specs.declared.Ask.{Ask}
use Rattle.sf_defs.specs.declared.Turn.{Turn}
use Rattle.sf_defs.specs.Asks.{Entry, Replays, does_replay, on_word}
use Rattle.sf_defs.specs.PrintedOrder.{is_load, kind_of, printed_order}
use lib.Pointwise.{pointwise}

-- first values, asks of each rank, what each ask fetched, last values, and for each word the order of its asks
pub record Round : Type 0 where
  pub tag : Tag
  pub before : List ℕ
  pub asks : List (List Ask)
  pub got : List (List ℕ)
  pub after : List ℕ
  pub order : List (List Turn)

-- ---- entries

-- one rank's asks with what they fetched
abbrev pub rank_entries : ℕ → List Ask → List ℕ → List Entry
rank_entries rank asks got = map (λ x. record { rank = rank; index = x.0; ask = x.1.0; got = x.1.1 }) (enumerate_from 0 (zip asks got))

-- all asks with what they fetched, by rank and then by index
abbrev pub entries : List (List Ask) → List (List ℕ) → List Entry
entries asks got = flat_map (λ x. rank_entries x.0 x.1.0 x.1.1) (enumerate_from 0 (zip asks got))

-- the name of an entry
abbrev pub turn_of : Entry → Turn
turn_of e = record { rank = e.rank; index = e.index }

-- the entry that a turn names
abbrev pub entry_at : List (List Ask) → List (List ℕ) → Turn → Entry
entry_at asks got t = record {
  rank = t.rank;
  index = t.index;
  ask = get_or (get_or asks t.rank []) t.index (record { word = 0; op = Load; value = 0 });
  got = get_or (get_or got t.rank []) t.index 0;
}

-- the turns on word w in the printed order
abbrev pub printed_turns : List ℕ → List (List Ask) → List (List ℕ) → ℕ → List Turn
printed_turns before asks got w = map turn_of (printed_order (get_or before w 0) (on_word w (entries asks got)))

-- ---- the conditions on words and asks

-- the asks of all ranks
abbrev pub all_asks : List (List Ask) → List Ask
all_asks asks = flat_map (λ own. own) asks

-- the asks on word w
abbrev pub asks_on : ℕ → List (List Ask) → List Ask
asks_on w asks = filter (λ (a : Ask). a.word == w) (all_asks asks)

abbrev pub same_op : Op → Op → Bool
same_op Load Load = true
same_op Sum Sum = true
same_op Min Min = true
same_op Max Max = true
same_op Or Or = true
same_op And And = true
same_op Replace Replace = true
same_op a b = false

-- what an ask adds to its word
abbrev pub added : Ask → ℕ
added a = if same_op a.op Sum then a.value else 0

-- of the asks on one word: one kind besides Load, at most one Replace, and Sums that fit
pub record SuitsWord (first : ℕ) (asks : List Ask) : Type 0 where
  pub one_kind : AllByRecursion (λ a. (a.op ≡ Load) ⊎ (a.op ≡ kind_of asks)) asks
  pub one_replace : count_by (λ a. same_op a.op Replace) asks ≤ 1
  pub sums_fit : first + sum_by added asks < 2 ^ 64

-- what a round may be asked
pub record MeetsConditions (before : List ℕ) (asks : List (List Ask)) : Type 0 where
  pub some_rank : 1 ≤ length asks
  pub few_ranks : length asks ≤ 64
  pub few_words : length before < 2 ^ 32
  pub few_asks : AllByRecursion (λ own. length own < 2 ^ 32) asks
  pub in_range : AllByRecursion (λ a. a.word < length before) (all_asks asks)
  pub plain_loads : AllByRecursion (λ a. a.op ≡ Load → a.value ≡ 0) (all_asks asks)
  pub words_suit : (w : ℕ) → w < length before → SuitsWord (get_or before w 0) (asks_on w asks)

-- ---- legal rounds

-- the places of one rank's turns in an order
abbrev pub places_of : ℕ → List Turn → List ℕ
places_of rank turns = map (λ (t : Turn). t.index) (filter (λ (t : Turn). t.rank == rank) turns)

-- the places of a rank's asks on word w, rising
abbrev pub places_on : ℕ → List Ask → List ℕ
places_on w asks = map (λ x. x.0) (filter (λ (x : ℕ × Ask). x.1.word == w) (enumerate_from 0 asks))

-- the entries on word w, in the round's order
abbrev pub in_order : Round → ℕ → List Entry
in_order r w = map (entry_at r.asks r.got) (get_or r.order w [])

-- Words and asks meet the conditions, and each ask has its value and each word its last value and its order. The order
-- of a word has each ask on it once, each rank's own in its order. Replayed, it gives each fetched value and the last
-- one. It is the printed order.
pub record IsLegal (r : Round) : Type 0 where
  pub conditions : MeetsConditions r.before r.asks
  pub fetched : map length r.got ≡ map length r.asks
  pub lasts : length r.after ≡ length r.before
  pub orders : length r.order ≡ length r.before
  pub each_once : (w rank : ℕ) → w < length r.before → places_of rank (get_or r.order w []) ≡ places_on w (get_or r.asks rank [])
  pub replays : (w : ℕ) → w < length r.before → Replays (get_or r.before w 0) (in_order r w) (get_or r.after w 0)
  pub printed : (w : ℕ) → w < length r.before → get_or r.order w [] ≡ printed_turns r.before r.asks r.got w

-- ---- the same as tests

abbrev pub has_one_kind : List Ask → Bool
has_one_kind asks = list_all (λ (a : Ask). is_load a.op || same_op a.op (kind_of asks)) asks

abbrev pub has_one_replace : List Ask → Bool
has_one_replace asks = nat_le (count_by (λ (a : Ask). same_op a.op Replace) asks) 1

abbrev pub sums_do_fit : ℕ → List Ask → Bool
sums_do_fit first asks = nat_lt (first + sum_by added asks) (2 ^ 64)

abbrev pub has_right_ranks : List (List Ask) → Bool
has_right_ranks asks = nat_le 1 (length asks) && nat_le (length asks) 64

abbrev pub has_few_words : List ℕ → Bool
has_few_words before = nat_lt (length before) (2 ^ 32)

abbrev pub has_few_asks : List (List Ask) → Bool
has_few_asks asks = list_all (λ (own : List Ask). nat_lt (length own) (2 ^ 32)) asks

abbrev pub is_in_range : List ℕ → List (List Ask) → Bool
is_in_range before asks = list_all (λ (a : Ask). nat_lt a.word (length before)) (all_asks asks)

abbrev pub has_plain_loads : List (List Ask) → Bool
has_plain_loads asks = list_all (λ (a : Ask). not (is_load a.op) || (a.value == 0)) (all_asks asks)

-- these asks suit a word with this first value
abbrev pub suits_word : ℕ → List Ask → Bool
suits_word first asks = has_one_kind asks && (has_one_replace asks && sums_do_fit first asks)

-- words and asks meet the conditions
abbrev pub meets_conditions : List ℕ → List (List Ask) → Bool
meets_conditions before asks =
    has_right_ranks asks && (has_few_words before && (has_few_asks asks && (is_in_range before asks && (has_plain_loads asks
    && list_all (λ w. suits_word (get_or before w 0) (asks_on w asks)) (below (length before))))))

-- no turn is of a rank that is not there, and each rank's turns are its asks on word w
abbrev pub has_each_once : Round → ℕ → Bool
has_each_once r w =
    list_all (λ (t : Turn). nat_lt t.rank (length r.asks)) (get_or r.order w [])
    && list_all (λ rank. same_list (places_of rank (get_or r.order w [])) (places_on w (get_or r.asks rank []))) (below (length r.asks))

abbrev pub same_turn : Turn → Turn → Bool
same_turn t u = (t.rank == u.rank) && (t.index == u.index)

abbrev pub is_printed : Round → ℕ → Bool
is_printed r w = pointwise same_turn (get_or r.order w []) (printed_turns r.before r.asks r.got w)

abbrev pub does_replay_on : Round → ℕ → Bool
does_replay_on r w = does_replay (get_or r.before w 0) (in_order r w) (get_or r.after w 0)

-- the round is legal
unfoldable pub is_legal : Round → Bool
is_legal r =
    meets_conditions r.before r.asks
    && (same_list (map length r.got) (map length r.asks) && ((length r.after == length r.before) && ((length r.order == length r.before)
    && list_all (λ w. has_each_once r w && (does_replay_on r w && is_printed r w)) (below (length r.before)))))
