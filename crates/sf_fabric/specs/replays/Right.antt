-- When a round is right: its lengths, its asks one by one, and its orders word by word.
use Rattle.std.specs.Prelude.{◌≡◌, ℕ, zero, suc, ◌+◌, ◌^◌, ◌<◌, ◌≤◌, Bool, true, not, ◌&&◌, ◌||◌, ◌==◌, nat_lt, List, [], length, map, get_or}
use Rattle.std.specs.List.{list_all, AllByRecursion}
use Rattle.sf_defs.specs.declared.Ask.{Ask}
use Rattle.sf_defs.specs.PrintedOrder.{is_load}
use Rattle.sf_defs.specs.Rounds.{Round}
use Rattle.sf_fabric.specs.replays.Walks.{is_right_order}

-- f 0 + .. + f (n - 1)
abbrev pub total : (ℕ → ℕ) → ℕ → ℕ
total f zero = 0
total f (suc n) = total f n + f n

-- as many ranks, words, asks and lists as there may be
pub record HasRightLengths (r : Round) : Type 0 where
  pub some_rank : 1 ≤ length r.asks
  pub few_ranks : length r.asks ≤ 64
  pub few_words : length r.before < 2 ^ 32
  pub got : length r.got ≡ length r.asks
  pub after : length r.after ≡ length r.before
  pub order : length r.order ≡ length r.before
  pub few_asks : (rank : ℕ) → rank < length r.asks → length (get_or r.asks rank []) < 2 ^ 32
  pub fetched : (rank : ℕ) → rank < length r.asks → length (get_or r.got rank []) ≡ length (get_or r.asks rank [])

-- each of these asks names one of so many words, and no Load has a value
abbrev pub are_right : List Ask → ℕ → Bool
are_right asks words = list_all (λ (a : Ask). nat_lt a.word words && (not (is_load a.op) || (a.value == 0))) asks

-- so do the asks of every rank
pub record HasRightAsks (r : Round) : Type 0 where
  pub each : (rank : ℕ) → rank < length r.asks → are_right (get_or r.asks rank []) (length r.before) ≡ true

-- how many asks there are
unfoldable pub ask_count : Round → ℕ
ask_count r = total (λ rank. length (get_or r.asks rank [])) (length r.asks)

-- each word's order is right, they have as many turns as there are asks, and words have 64 bits
pub record HasRightOrders (r : Round) : Type 0 where
  pub each : (w : ℕ) → w < length r.before → is_right_order r w ≡ true
  pub small : (w : ℕ) → w < length r.before → get_or r.before w 0 < 2 ^ 64
  pub turns : total (λ w. length (get_or r.order w [])) (length r.before) ≡ ask_count r
