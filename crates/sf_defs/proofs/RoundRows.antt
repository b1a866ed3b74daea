-- Worked rows of rounds: scripted runs, what the test of a legal round answers, and orders in which a plain sort is wrong.
use Rattle.std.proofs.Common.{◌≡◌, ℕ, Bool, true, false, not, ◌&&◌, List, [], ◌∷◌, map, replicate, refl}
use Rattle.sf_defs.specs.declared.Op.{Op}
use Rattle.sf_defs.specs.declared.Op.TheVariants.{Load, Sum, Min, Max, Or, And, Replace}
use Rattle.sf_defs.specs.declared.Tag.TheVariants.{Free, Number}
use Rattle.sf_defs.specs.declared.Ask.{Ask}
use Rattle.sf_defs.specs.declared.Turn.{Turn}
use Rattle.sf_defs.specs.Asks.{step, Entry, word_after, does_replay}
use Rattle.sf_defs.specs.PrintedOrder.{fetched_before, stands_before, printed_order}
use Rattle.sf_defs.specs.Rounds.{Round, is_legal}
use Rattle.sf_defs.specs.Script.{scripted}

-- an ask on the one word
abbrev ask : Op → ℕ → Ask
ask op value = record { word = 0; op = op; value = value }

-- a rank and a place
abbrev turn : ℕ → ℕ → Turn
turn rank index = record { rank = rank; index = index }

-- ---- three runs of one fetch-and-sum: rank 0 asks Sum 5, rank 1 asks Sum 0 twice, and the word is 3 at first

abbrev sums : List (List Ask)
sums = (ask Sum 5 ∷ []) ∷ (ask Sum 0 ∷ ask Sum 0 ∷ []) ∷ []

-- the round of these fetched values and this order
abbrev sum_round : List (List ℕ) → List Turn → Round
sum_round got order = record { tag = Free; before = 3 ∷ []; asks = sums; got = got; after = 8 ∷ []; order = order ∷ [] }

-- rank 1, rank 0, rank 1
pub sum_between : scripted Free (3 ∷ []) sums (1 ∷ 0 ∷ 1 ∷ []) ≡ sum_round ((3 ∷ []) ∷ (3 ∷ 8 ∷ []) ∷ []) (turn 1 0 ∷ turn 0 0 ∷ turn 1 1 ∷ [])
unfolding scripted printed_order stands_before fetched_before step
sum_between = refl

-- rank 0 first
pub sum_first : scripted Free (3 ∷ []) sums (0 ∷ []) ≡ sum_round ((3 ∷ []) ∷ (8 ∷ 8 ∷ []) ∷ []) (turn 0 0 ∷ turn 1 0 ∷ turn 1 1 ∷ [])
unfolding scripted printed_order stands_before fetched_before step
sum_first = refl

-- rank 0 last
pub sum_last : scripted Free (3 ∷ []) sums (1 ∷ 1 ∷ 0 ∷ []) ≡ sum_round ((3 ∷ []) ∷ (3 ∷ 3 ∷ []) ∷ []) (turn 1 0 ∷ turn 1 1 ∷ turn 0 0 ∷ [])
unfolding scripted printed_order stands_before fetched_before step
sum_last = refl

-- picks of ranks without asks left, or of no rank, add nothing
pub idle_picks : scripted Free (3 ∷ []) sums (7 ∷ 1 ∷ 0 ∷ 0 ∷ 2 ∷ 0 ∷ 1 ∷ 1 ∷ []) ≡ scripted Free (3 ∷ []) sums (1 ∷ 0 ∷ 1 ∷ [])
unfolding scripted printed_order stands_before fetched_before step
idle_picks = refl

-- all three are legal
pub sum_runs_legal : map (λ picks. is_legal (scripted Free (3 ∷ []) sums picks)) ((1 ∷ 0 ∷ 1 ∷ []) ∷ (0 ∷ []) ∷ (1 ∷ 1 ∷ 0 ∷ []) ∷ []) ≡ true ∷ true ∷ true ∷ []
unfolding scripted is_legal printed_order stands_before fetched_before step
sum_runs_legal = refl

-- ---- the number round of three ranks that own 7, 0 and 4 points: bases by the ranks in order, and by two scripts

abbrev number_round : List (List ℕ) → List Turn → Round
number_round got order = record { tag = Number; before = 0 ∷ []; asks = (ask Sum 7 ∷ []) ∷ (ask Sum 0 ∷ []) ∷ (ask Sum 4 ∷ []) ∷ []; got = got; after = 11 ∷ []; order = order ∷ [] }

pub number_rounds : map (λ picks. scripted Number (0 ∷ []) ((ask Sum 7 ∷ []) ∷ (ask Sum 0 ∷ []) ∷ (ask Sum 4 ∷ []) ∷ []) picks) ([] ∷ (2 ∷ 0 ∷ 1 ∷ []) ∷ (1 ∷ 2 ∷ 0 ∷ []) ∷ [])
    ≡ number_round ((0 ∷ []) ∷ (7 ∷ []) ∷ (7 ∷ []) ∷ []) (turn 0 0 ∷ turn 1 0 ∷ turn 2 0 ∷ [])
    ∷ number_round ((4 ∷ []) ∷ (11 ∷ []) ∷ (0 ∷ []) ∷ []) (turn 2 0 ∷ turn 0 0 ∷ turn 1 0 ∷ [])
    ∷ number_round ((4 ∷ []) ∷ (0 ∷ []) ∷ (0 ∷ []) ∷ []) (turn 1 0 ∷ turn 2 0 ∷ turn 0 0 ∷ [])
    ∷ []
unfolding scripted printed_order stands_before fetched_before step
number_rounds = refl

-- ---- what the test answers, of one word, 0 at first and 7 at last, where rank 0 asks Sum 7 alone

abbrev one_sum : List ℕ → List Turn → Round
one_sum got order = record { tag = Number; before = 0 ∷ []; asks = (ask Sum 7 ∷ []) ∷ []; got = got ∷ []; after = 7 ∷ []; order = order ∷ [] }

-- right; fetched after the update; a turn twice; a turn missing
pub one_sum_answers : is_legal (one_sum (0 ∷ []) (turn 0 0 ∷ []))
    ∷ is_legal (one_sum (7 ∷ []) (turn 0 0 ∷ []))
    ∷ is_legal (one_sum (0 ∷ []) (turn 0 0 ∷ turn 0 0 ∷ []))
    ∷ is_legal (one_sum (0 ∷ []) [])
    ∷ [] ≡ true ∷ false ∷ false ∷ false ∷ []
unfolding is_legal printed_order stands_before fetched_before step
one_sum_answers = refl

-- ---- an example for each operation in which the order of the ranks is wrong: rank 1 was first

-- rank 0 asks this, rank 1 that, and rank 1 is picked first
abbrev second_first : ℕ × (Ask × Ask) → Round
second_first case = scripted Free (case.0 ∷ []) ((case.1.0 ∷ []) ∷ (case.1.1 ∷ []) ∷ []) (1 ∷ [])

-- the round with its order by ranks
abbrev by_ranks : Round → Round
by_ranks r = record { tag = r.tag; before = r.before; asks = r.asks; got = r.got; after = r.after; order = (turn 0 0 ∷ turn 1 0 ∷ []) ∷ [] }

-- the first value, and what ranks 0 and 1 ask
abbrev cases : List (ℕ × (Ask × Ask))
cases =
    (3, (ask Load 0, ask Sum 4))
    ∷ (3, (ask Sum 4, ask Sum 5))
    ∷ (9, (ask Min 2, ask Min 5))
    ∷ (2, (ask Max 9, ask Max 5))
    ∷ (1, (ask Or 4, ask Or 2))
    ∷ (7, (ask And 3, ask And 5))
    ∷ (3, (ask Load 0, ask Replace 1))
    ∷ []

abbrev fetches : Round → List (List ℕ) × List ℕ
fetches r = (r.got, r.after)

-- what the ranks fetched, and the last value
pub second_first_fetches : map (λ c. fetches (second_first c)) cases
    ≡ (((7 ∷ []) ∷ (3 ∷ []) ∷ []), 7 ∷ [])
    ∷ (((8 ∷ []) ∷ (3 ∷ []) ∷ []), 12 ∷ [])
    ∷ (((5 ∷ []) ∷ (9 ∷ []) ∷ []), 2 ∷ [])
    ∷ (((5 ∷ []) ∷ (2 ∷ []) ∷ []), 9 ∷ [])
    ∷ (((3 ∷ []) ∷ (1 ∷ []) ∷ []), 7 ∷ [])
    ∷ (((5 ∷ []) ∷ (7 ∷ []) ∷ []), 1 ∷ [])
    ∷ (((1 ∷ []) ∷ (3 ∷ []) ∷ []), 1 ∷ [])
    ∷ []
unfolding scripted printed_order stands_before fetched_before step
second_first_fetches = refl

-- the printed order has rank 1 first
pub second_first_orders : map (λ c. (second_first c).order) cases ≡ map (λ c. (turn 1 0 ∷ turn 0 0 ∷ []) ∷ []) cases
unfolding scripted printed_order stands_before fetched_before step
second_first_orders = refl

-- with it each round is legal, and with the order by ranks none is
pub rank_order_refused : map (λ c. is_legal (second_first c) && not (is_legal (by_ranks (second_first c)))) cases ≡ replicate 7 true
unfolding scripted is_legal printed_order stands_before fetched_before step
rank_order_refused = refl

abbrev shown : Round → List (List ℕ) × List (List Turn)
shown r = (r.got, r.order)

-- an ask that changes nothing stands before the one that changes the word, though its rank is higher, and one that came
-- after the last change stands last
pub unchanged_first : map shown (scripted Free (4 ∷ []) ((ask Max 6 ∷ ask Max 1 ∷ []) ∷ (ask Load 0 ∷ []) ∷ (ask Max 4 ∷ ask Max 5 ∷ []) ∷ []) (2 ∷ 0 ∷ 2 ∷ []) ∷ scripted Free (4 ∷ []) ((ask Max 6 ∷ ask Max 1 ∷ []) ∷ (ask Load 0 ∷ []) ∷ (ask Max 4 ∷ ask Max 5 ∷ []) ∷ []) (2 ∷ 1 ∷ 0 ∷ []) ∷ [])
    ≡ ((4 ∷ 6 ∷ []) ∷ (6 ∷ []) ∷ (4 ∷ 6 ∷ []) ∷ [], (turn 2 0 ∷ turn 0 0 ∷ turn 0 1 ∷ turn 1 0 ∷ turn 2 1 ∷ []) ∷ [])
    ∷ ((4 ∷ 6 ∷ []) ∷ (4 ∷ []) ∷ (4 ∷ 6 ∷ []) ∷ [], (turn 1 0 ∷ turn 2 0 ∷ turn 0 0 ∷ turn 0 1 ∷ turn 2 1 ∷ []) ∷ [])
    ∷ []
unfolding scripted printed_order stands_before fetched_before step
unchanged_first = refl

-- ---- each condition refuses by itself: rank 0 asks Sum 7 of one word

-- a round with these words and asks, its values and orders by the script without picks
abbrev plain : List ℕ → List (List Ask) → Bool
plain words asks = is_legal (scripted Free words asks [])

abbrev on : ℕ → Op → ℕ → Ask
on w op value = record { word = w; op = op; value = value }

-- the first is legal; then no list of asks; a word out of range; a Load with a value; two kinds; two Replaces; a Sum too large
pub conditions_refuse : plain (0 ∷ []) ((ask Sum 7 ∷ []) ∷ [])
    ∷ plain (0 ∷ []) []
    ∷ plain (0 ∷ []) ((on 1 Sum 7 ∷ []) ∷ [])
    ∷ plain (0 ∷ []) ((ask Load 1 ∷ []) ∷ [])
    ∷ plain (0 ∷ []) ((ask Min 7 ∷ []) ∷ (ask Max 0 ∷ []) ∷ [])
    ∷ plain (0 ∷ []) ((ask Replace 7 ∷ []) ∷ (ask Replace 8 ∷ []) ∷ [])
    ∷ plain (1 ∷ []) ((ask Sum 9223372036854775808 ∷ []) ∷ (ask Sum 9223372036854775807 ∷ []) ∷ [])
    ∷ [] ≡ true ∷ false ∷ false ∷ false ∷ false ∷ false ∷ false ∷ []
unfolding scripted is_legal printed_order stands_before fetched_before step
conditions_refuse = refl

-- 64 ranks are asked, 65 are not; one word less than 2^64 fits
pub conditions_allow : plain (0 ∷ []) (replicate 64 (ask Load 0 ∷ []))
    ∷ plain (0 ∷ []) (replicate 65 (ask Load 0 ∷ []))
    ∷ plain (0 ∷ []) ((ask Sum 9223372036854775808 ∷ []) ∷ (ask Sum 9223372036854775807 ∷ []) ∷ [])
    ∷ [] ≡ true ∷ false ∷ true ∷ []
unfolding scripted is_legal printed_order stands_before fetched_before step
conditions_allow = refl

-- two asks of one rank on one word stand in their own order
pub own_order_refused : is_legal (record { tag = Free; before = 0 ∷ []; asks = (ask Load 0 ∷ ask Load 0 ∷ []) ∷ []; got = (0 ∷ 0 ∷ []) ∷ []; after = 0 ∷ []; order = (turn 0 1 ∷ turn 0 0 ∷ []) ∷ [] })
    ∷ is_legal (record { tag = Free; before = 0 ∷ []; asks = (ask Load 0 ∷ ask Load 0 ∷ []) ∷ []; got = (0 ∷ 0 ∷ []) ∷ []; after = 0 ∷ []; order = (turn 0 0 ∷ turn 0 1 ∷ []) ∷ [] })
    ∷ is_legal (record { tag = Free; before = 0 ∷ []; asks = (ask Load 0 ∷ ask Load 0 ∷ []) ∷ []; got = (0 ∷ 0 ∷ []) ∷ []; after = 0 ∷ []; order = (turn 0 0 ∷ turn 1 0 ∷ turn 0 1 ∷ []) ∷ [] })
    ∷ is_legal (record { tag = Free; before = 0 ∷ []; asks = (ask Load 0 ∷ ask Load 0 ∷ []) ∷ []; got = (0 ∷ []) ∷ []; after = 0 ∷ []; order = (turn 0 0 ∷ turn 0 1 ∷ []) ∷ [] })
    ∷ [] ≡ false ∷ true ∷ false ∷ false ∷ []
unfolding is_legal printed_order stands_before fetched_before step
own_order_refused = refl

-- ---- each condition is needed: an order that replays, and a printed order that does not

abbrev entry : ℕ → Op → ℕ → ℕ → Entry
entry rank op value got = record { rank = rank; index = 0; ask = ask op value; got = got }

-- the entries as they were done replay to this last value, and the printed order of the same entries by rank does not
abbrev is_misprinted : ℕ → List Entry → List Entry → ℕ → Bool
is_misprinted first done by_rank last = does_replay first done last && not (does_replay first (printed_order first by_rank) last)

-- a Sum that does not fit; two kinds; two Replaces
pub conditions_needed : is_misprinted 1 (entry 0 Sum 18446744073709551615 1 ∷ entry 1 Sum 5 0 ∷ []) (entry 0 Sum 18446744073709551615 1 ∷ entry 1 Sum 5 0 ∷ []) 5
    ∷ is_misprinted 4 (entry 1 Min 2 4 ∷ entry 0 Max 9 2 ∷ []) (entry 0 Max 9 2 ∷ entry 1 Min 2 4 ∷ []) 9
    ∷ is_misprinted 3 (entry 0 Replace 7 3 ∷ entry 1 Load 0 7 ∷ entry 2 Replace 9 7 ∷ entry 3 Load 0 9 ∷ []) (entry 0 Replace 7 3 ∷ entry 1 Load 0 7 ∷ entry 2 Replace 9 7 ∷ entry 3 Load 0 9 ∷ []) 9
    ∷ [] ≡ true ∷ true ∷ true ∷ []
unfolding printed_order stands_before fetched_before step
conditions_needed = refl

-- a word that is replaced by its own value: nothing changes, so the order is by ranks
pub replaced_by_itself : shown (scripted Free (3 ∷ []) ((ask Load 0 ∷ ask Load 0 ∷ []) ∷ (ask Replace 3 ∷ []) ∷ (ask Load 0 ∷ []) ∷ []) (2 ∷ 1 ∷ [])) ≡ ((3 ∷ 3 ∷ []) ∷ (3 ∷ []) ∷ (3 ∷ []) ∷ [], (turn 0 0 ∷ turn 0 1 ∷ turn 1 0 ∷ turn 2 0 ∷ []) ∷ [])
unfolding scripted printed_order stands_before fetched_before step
replaced_by_itself = refl

-- two words: each has its own order, and an ask on the one says nothing of the other
pub two_words : shown (scripted Free (5 ∷ 8 ∷ []) ((on 0 Min 4 ∷ on 1 Min 9 ∷ []) ∷ (on 1 Min 7 ∷ on 0 Min 3 ∷ []) ∷ []) (1 ∷ 0 ∷ 1 ∷ []))
    ≡ ((5 ∷ 7 ∷ []) ∷ (8 ∷ 4 ∷ []) ∷ [], (turn 0 0 ∷ turn 1 1 ∷ []) ∷ (turn 1 0 ∷ turn 0 1 ∷ []) ∷ [])
unfolding scripted printed_order stands_before fetched_before step
two_words = refl

-- ---- what asks leave of a word, one after another

words_after : map (word_after 12) ([] ∷ (ask Sum 5 ∷ ask Load 0 ∷ ask Sum 3 ∷ []) ∷ (ask Min 14 ∷ ask Min 9 ∷ ask Min 10 ∷ []) ∷ (ask Or 3 ∷ ask And 9 ∷ []) ∷ (ask Max 20 ∷ ask Replace 1 ∷ []) ∷ []) ≡ 12 ∷ 20 ∷ 9 ∷ 9 ∷ 1 ∷ []
unfolding step
words_after = refl
