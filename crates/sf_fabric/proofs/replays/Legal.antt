-- A round with right lengths, asks and orders is legal, and a legal round has them.
use Rattle.std.proofs.Common.{◌≡◌, ◌⊎◌, ℕ, zero, suc, ◌+◌, ◌^◌, ◌<◌, ◌≤◌, Bool, true, false, cond, not, ◌&&◌, ◌||◌, ◌==◌, nat_lt, List, [], ◌∷◌, map, length, get_or, count_by, sum_by, replicate, Option, Some, None, refl, sym, ap, subst, ◌∙◌, inl, inr, ⊎_elim, arith}
use Rattle.std.specs.List.{AllByRecursion, list_all}
use Rattle.std.proofs.lemmas.Bool.{false≢true, cases_lt, eqb-true, eq-eqb, ltb-true, lt-ltb}
use Rattle.std.proofs.lemmas.List.{length-map, length-replicate, get_or-replicate, get_or_past}
use Rattle.std.proofs.lemmas.List.Sums.{sum_by-cons}
use Rattle.std.proofs.lemmas.Simd.{map-map}
use Rattle.plain_lists.proofs.Each.{all_weaker, all_both, all_at, all_map, all_mapped, all_flat_map, all_in_flat_map, each_passes, all_from, all_filter}
use Rattle.sf_defs.specs.declared.Op.{Op}
use Rattle.sf_defs.specs.declared.Op.TheVariants.{Load, Replace}
use Rattle.sf_defs.specs.declared.Ask.{Ask}
use Rattle.sf_defs.specs.declared.Turn.{Turn}
use Rattle.sf_defs.specs.Asks.{Entry, Replays, on_word, IsOrderOf, IsRising}
use Rattle.sf_defs.specs.PrintedOrder.{is_load, kind_of, stands_before, printed_order}
use Rattle.sf_defs.specs.Rounds.{Round, SuitsWord, MeetsConditions, IsLegal, added, same_op, all_asks, asks_on, entries, entry_at, turn_of, printed_turns, in_order, places_of, places_on}
use Rattle.round_laws.proofs.Tests.{decides-same_op}
use Rattle.round_laws.proofs.Word.{asks_of, same_kind, load-is}
use Rattle.round_laws.proofs.Entries.{asks_on-entries, same_lengths, entries-at}
use Rattle.round_laws.proofs.Legal.{legal-is-order}
use Rattle.round_laws.proofs.Sorting.{all_sorted_by}
use Rattle.round_laws.proofs.Permuted.{IsInOrder, ordered-printed}
use Rattle.sf_fabric.specs.replays.Walks.{ask_of, names, goes_on, start, is_right_order}
use Rattle.sf_fabric.specs.replays.Right.{HasRightLengths, HasRightAsks, HasRightOrders, are_right, total, ask_count}
use Rattle.sf_fabric.proofs.replays.Places.{places-rise, places-pass}
use Rattle.sf_fabric.proofs.replays.OwnTurns.{OwnFrom, own-rises, rises-own}
use Rattle.sf_fabric.proofs.replays.WalkFacts.{InOrder, Walked, is_of, replaces, walked, walks}
use Rattle.sf_fabric.proofs.replays.NamedTurns.{none, is_on, IsPlace, named-parts, named-places}
use Rattle.sf_fabric.proofs.replays.Counting.{each_once-counted, counted-each_once}
use Rattle.sf_fabric.proofs.replays.Orders.{order-each_once, suits-shuffled, printed-in_order, in_order-comes, comes-neighbours}

-- ---- lists

-- what holds at each place holds of each
from_places : {X : Type 0} (P : X → Type 0) (d : X) (xs : List X) → ((k : ℕ) → k < length xs → P (get_or xs k d)) → AllByRecursion P xs
from_places P d [] h = tt
from_places P d (x ∷ xs) h = (h 0 (omega arith), from_places P d xs (λ k lt. h (suc k) (omega arith)))

-- equal lengths place by place
lengths_same : {X Y : Type 0} (xs : List (List X)) (ys : List (List Y)) → length xs ≡ length ys → ((k : ℕ) → k < length ys → length (get_or xs k []) ≡ length (get_or ys k [])) → map length xs ≡ map length ys
lengths_same [] [] e h = refl
lengths_same [] (y ∷ ys) e h = absurd (omega arith)
lengths_same (x ∷ xs) [] e h = absurd (omega arith)
lengths_same (x ∷ xs) (y ∷ ys) e h = (λ i. h 0 (omega arith) i ∷ lengths_same xs ys (omega arith) (λ k lt. h (suc k) (omega arith)) i)

zeros : (n k : ℕ) → get_or {A = ℕ} (replicate n 0) k 0 ≡ 0
zeros n k = ⊎_elim (λ lt. get_or-replicate n k 0 0 lt) (λ ge. get_or_past (replicate n 0) k 0 (let size : length {A = ℕ} (replicate n 0) ≡ n = length-replicate n 0 in omega arith)) (cases_lt k n)

-- ---- kinds

is-of_kind : (kind : Op) (e : Entry) → is_of kind e ≡ true → (e.ask.op ≡ Load) ⊎ (e.ask.op ≡ kind)
is-of_kind kind e h = go (is_load e.ask.op) refl h
  where
    go : (b : Bool) → is_load e.ask.op ≡ b → (b || same_op e.ask.op kind) ≡ true → (e.ask.op ≡ Load) ⊎ (e.ask.op ≡ kind)
    go true k m = inl (load-is e.ask.op k)
    go false k m = inr ((decides-same_op e.ask.op kind).0 m)

of_kind-is : (kind : Op) (e : Entry) → (e.ask.op ≡ Load) ⊎ (e.ask.op ≡ kind) → is_of kind e ≡ true
of_kind-is kind e h = ⊎_elim (λ load. ap (λ o. is_load o || same_op e.ask.op kind) load) (λ same. go (is_load e.ask.op) ((decides-same_op e.ask.op kind).1 same)) h
  where
    go : (b : Bool) → same_op e.ask.op kind ≡ true → (b || same_op e.ask.op kind) ≡ true
    go true k = refl
    go false k = k

counted_asks : (es : List Entry) → count_by (λ (a : Ask). same_op a.op Replace) (asks_of es) ≡ count_by replaces es
counted_asks [] = refl
counted_asks (e ∷ es) =
    sum_by-cons (λ (a : Ask). cond (same_op a.op Replace) 1 0) e.ask (asks_of es) ∙ ap (λ n. cond (replaces e) 1 0 + n) (counted_asks es)
    ∙ sym (sum_by-cons (λ (x : Entry). cond (replaces x) 1 0) e es)

added_asks : (es : List Entry) → sum_by added (asks_of es) ≡ sum_by (λ (e : Entry). added e.ask) es
added_asks [] = refl
added_asks (e ∷ es) = sum_by-cons added e.ask (asks_of es) ∙ ap (λ n. added e.ask + n) (added_asks es) ∙ sym (sum_by-cons (λ (x : Entry). added x.ask) e es)

-- ---- asks

right : ℕ → Ask → Bool
right words a = nat_lt a.word words && (not (is_load a.op) || (a.value == 0))

split_and : (b c : Bool) → (b && c) ≡ true → (b ≡ true) × (c ≡ true)
split_and true c h = (refl, h)
split_and false c h = absurd (false≢true h)

plain-load : (a : Ask) → (not (is_load a.op) || (a.value == 0)) ≡ true → a.op ≡ Load → a.value ≡ 0
plain-load a h load = let k : (a.value == 0) ≡ true = ap (λ o. not (is_load o) || (a.value == 0)) (sym load) ∙ h in eqb-true a.value 0 k

load-plain : (a : Ask) → (a.op ≡ Load → a.value ≡ 0) → (not (is_load a.op) || (a.value == 0)) ≡ true
load-plain a h = go (is_load a.op) refl
  where
    go : (b : Bool) → is_load a.op ≡ b → (not b || (a.value == 0)) ≡ true
    go true k = eq-eqb a.value 0 (h (load-is a.op k))
    go false k = refl

all_pass : {X : Type 0} (p : X → Bool) (xs : List X) → AllByRecursion (λ x. p x ≡ true) xs → list_all p xs ≡ true
all_pass p [] h = refl
all_pass p (x ∷ xs) h = ap (λ b. b && list_all p xs) h.0 ∙ all_pass p xs h.1

asks-right : (r : Round) → HasRightAsks r → (rank : ℕ) → rank < length r.asks → AllByRecursion (λ a. (a.word < length r.before) × (a.op ≡ Load → a.value ≡ 0)) (get_or r.asks rank [])
unfolding right
asks-right r h rank lt = all_weaker (λ a. right (length r.before) a ≡ true) (λ a. (a.word < length r.before) × (a.op ≡ Load → a.value ≡ 0))
    (λ a k. let parts = split_and (nat_lt a.word (length r.before)) _ k in (ltb-true a.word (length r.before) parts.0, plain-load a parts.1))
    (get_or r.asks rank []) (each_passes (right (length r.before)) (get_or r.asks rank []) (h.each rank lt))

-- ---- entries and turns

-- the turns of named entries
turns_again : (asks : List (List Ask)) (got : List (List ℕ)) (ts : List Turn) → map turn_of (map (entry_at asks got) ts) ≡ ts
turns_again asks got [] = refl
turns_again asks got (t ∷ ts) = ap (λ l. t ∷ l) (turns_again asks got ts)

named_again : (asks : List (List Ask)) (got : List (List ℕ)) (es : List Entry) → AllByRecursion (λ (e : Entry). entry_at asks got (turn_of e) ≡ e) es → map (entry_at asks got) (map turn_of es) ≡ es
named_again asks got [] h = refl
named_again asks got (e ∷ es) h = (λ i. h.0 i ∷ named_again asks got es h.1 i)

printed-again : (first w : ℕ) (asks : List (List Ask)) (got : List (List ℕ)) → map (entry_at asks got) (map turn_of (printed_order first (on_word w (entries asks got)))) ≡ printed_order first (on_word w (entries asks got))
unfolding printed_order
printed-again first w asks got = named_again asks got (printed_order first (on_word w (entries asks got)))
    (all_sorted_by (λ (e : Entry). entry_at asks got (turn_of e) ≡ e) (stands_before (kind_of (asks_of (on_word w (entries asks got)))) first) (on_word w (entries asks got))
    (all_filter (λ (e : Entry). entry_at asks got (turn_of e) ≡ e) (λ (e : Entry). e.ask.word == w) (entries asks got) (entries-at asks got)))

kind-same : (r : Round) (w : ℕ) → kind_of (asks_of (in_order r w)) ≡ kind_of (map (ask_of r.asks) (get_or r.order w []))
kind-same r w = ap kind_of (map-map (λ (e : Entry). e.ask) (entry_at r.asks r.got) (get_or r.order w []))

few_ranks : (r : Round) (w : ℕ) → length r.asks ≤ 64 → AllByRecursion (λ t. names r.asks w t ≡ true) (get_or r.order w []) → AllByRecursion (λ (t : Turn). t.rank < length {A = ℕ} (replicate 64 0)) (get_or r.order w [])
few_ranks r w few named = all_weaker (λ t. names r.asks w t ≡ true) (λ (t : Turn). t.rank < length {A = ℕ} (replicate 64 0)) (λ t h. let there = (named-parts r.asks w t h).0 in let size : length {A = ℕ} (replicate 64 0) ≡ 64 = length-replicate {A = ℕ} 64 0 in omega arith) (get_or r.order w []) named

-- ---- right rounds are legal

module _ (r : Round) (lengths : HasRightLengths r) (asks : HasRightAsks r) (orders : HasRightOrders r) where
  fetched : map length r.got ≡ map length r.asks
  fetched = lengths_same r.got r.asks lengths.got lengths.fetched

  in_range : (rank : ℕ) → rank < length r.asks → AllByRecursion (λ (a : Ask). a.word < length r.before) (get_or r.asks rank [])
  in_range rank lt = all_weaker (λ a. (a.word < length r.before) × (a.op ≡ Load → a.value ≡ 0)) (λ (a : Ask). a.word < length r.before) (λ a h. h.0) (get_or r.asks rank []) (asks-right r asks rank lt)

  found : (w : ℕ) → w < length r.before → Walked r.asks r.got w (get_or r.after w 0) (start (kind_of (map (ask_of r.asks) (get_or r.order w []))) (get_or r.before w 0)) (get_or r.order w [])
  unfolding is_right_order start
  found w lt = walked r.asks r.got w (get_or r.after w 0) (get_or r.order w []) (start (kind_of (map (ask_of r.asks) (get_or r.order w []))) (get_or r.before w 0)) (orders.small w lt) (orders.each w lt)

  rises : (w : ℕ) → w < length r.before → (rank : ℕ) → IsRising (places_of rank (get_or r.order w []))
  unfolding start
  rises w lt rank = (own-rises (replicate 64 0) (get_or r.order w []) (few_ranks r w lengths.few_ranks (found w lt).named) (found w lt).own rank).0

  each : (w rank : ℕ) → w < length r.before → places_of rank (get_or r.order w []) ≡ places_on w (get_or r.asks rank [])
  unfolding ask_count
  each = each_once-counted r.asks r.order (length r.before) in_range (λ w lt. ((found w lt).named, rises w lt)) orders.turns

  module _ (w : ℕ) (lt : w < length r.before) where
    order_is : IsOrderOf (on_word w (entries r.asks r.got)) (in_order r w)
    order_is = order-each_once r.asks r.got w (get_or r.order w []) fetched (λ rank. each w rank lt)

    suits_order : SuitsWord (get_or r.before w 0) (asks_of (in_order r w))
    unfolding start
    suits_order = record {
      one_kind = all_map (λ (a : Ask). (a.op ≡ Load) ⊎ (a.op ≡ kind_of (asks_of (in_order r w)))) (λ (e : Entry). e.ask) (in_order r w)
          (all_weaker (λ e. is_of (kind_of (map (ask_of r.asks) (get_or r.order w []))) e ≡ true) (λ (e : Entry). (e.ask.op ≡ Load) ⊎ (e.ask.op ≡ kind_of (asks_of (in_order r w))))
          (λ e h. subst (λ k. (e.ask.op ≡ Load) ⊎ (e.ask.op ≡ k)) (sym (kind-same r w)) (is-of_kind (kind_of (map (ask_of r.asks) (get_or r.order w []))) e h)) (in_order r w) (found w lt).one_kind);
      one_replace = let few = (found w lt).one_replace in let same = counted_asks (in_order r w) in omega arith;
      sums_fit = let fits = (found w lt).fits in let same = added_asks (in_order r w) in omega arith;
    }

    suits_own : SuitsWord (get_or r.before w 0) (asks_of (on_word w (entries r.asks r.got)))
    suits_own = suits-shuffled (get_or r.before w 0) (in_order r w) (on_word w (entries r.asks r.got)) (λ rank. sym (order_is rank)) suits_order

    kind_own : kind_of (map (ask_of r.asks) (get_or r.order w [])) ≡ kind_of (asks_of (on_word w (entries r.asks r.got)))
    kind_own = sym (kind-same r w) ∙ same_kind (get_or r.before w 0) (on_word w (entries r.asks r.got)) (in_order r w) suits_own order_is

    printed_is : get_or r.order w [] ≡ printed_turns r.before r.asks r.got w
    unfolding start
    printed_is = sym (turns_again r.asks r.got (get_or r.order w [])) ∙ ap (map turn_of) (ordered-printed (get_or r.before w 0) r.asks r.got w (in_order r w) order_is (λ k d within.
        subst (λ kind. stands_before kind (get_or r.before w 0) (get_or (in_order r w) k d) (get_or (in_order r w) (k + 1) d) ≡ true) kind_own
        (comes-neighbours (kind_of (map (ask_of r.asks) (get_or r.order w []))) (get_or r.before w 0) None (in_order r w) (found w lt).printed k d within)))

    replays_is : Replays (get_or r.before w 0) (in_order r w) (get_or r.after w 0)
    unfolding start
    replays_is = (found w lt).replays

  pub right-legal : IsLegal r
  right-legal = record {
    conditions = record {
      some_rank = lengths.some_rank;
      few_ranks = lengths.few_ranks;
      few_words = lengths.few_words;
      few_asks = from_places (λ own. length own < 2 ^ 32) [] r.asks lengths.few_asks;
      in_range = all_flat_map (λ (a : Ask). a.word < length r.before) (λ own. own) r.asks (from_places (λ own. AllByRecursion (λ (a : Ask). a.word < length r.before) own) [] r.asks in_range);
      plain_loads = all_flat_map (λ (a : Ask). a.op ≡ Load → a.value ≡ 0) (λ own. own) r.asks (from_places (λ own. AllByRecursion (λ (a : Ask). a.op ≡ Load → a.value ≡ 0) own) [] r.asks (λ rank lt. all_weaker (λ a. (a.word < length r.before) × (a.op ≡ Load → a.value ≡ 0)) (λ (a : Ask). a.op ≡ Load → a.value ≡ 0) (λ a h. h.1) (get_or r.asks rank []) (asks-right r asks rank lt)));
      words_suit = λ w lt. subst (SuitsWord (get_or r.before w 0)) (asks_on-entries w r.asks r.got fetched) (suits_own w lt);
    };
    fetched = fetched;
    lasts = lengths.after;
    orders = lengths.order;
    each_once = each;
    replays = replays_is;
    printed = printed_is;
  }

-- ---- legal rounds are right

module _ (r : Round) (legal : IsLegal r) where
  pub legal-lengths : HasRightLengths r
  legal-lengths = record {
    some_rank = legal.conditions.some_rank;
    few_ranks = legal.conditions.few_ranks;
    few_words = legal.conditions.few_words;
    got = sym (length-map r.got length) ∙ ap length legal.fetched ∙ length-map r.asks length;
    after = legal.lasts;
    order = legal.orders;
    few_asks = λ rank lt. all_at (λ own. length own < 2 ^ 32) r.asks rank [] legal.conditions.few_asks lt;
    fetched = λ rank lt. same_lengths rank r.asks r.got legal.fetched;
  }

  pub legal-asks : HasRightAsks r
  unfolding right
  legal-asks = record {
    each = λ rank lt. all_pass (right (length r.before)) (get_or r.asks rank [])
        (all_both (λ (a : Ask). a.word < length r.before) (λ (a : Ask). a.op ≡ Load → a.value ≡ 0) (λ a. right (length r.before) a ≡ true)
        (λ a within plain. ap (λ b. b && (not (is_load a.op) || (a.value == 0))) (lt-ltb a.word (length r.before) within) ∙ load-plain a plain) (get_or r.asks rank [])
        (all_at (λ own. AllByRecursion (λ (a : Ask). a.word < length r.before) own) r.asks rank [] (all_in_flat_map (λ (a : Ask). a.word < length r.before) (λ own. own) r.asks legal.conditions.in_range) lt)
        (all_at (λ own. AllByRecursion (λ (a : Ask). a.op ≡ Load → a.value ≡ 0) own) r.asks rank [] (all_in_flat_map (λ (a : Ask). a.op ≡ Load → a.value ≡ 0) (λ own. own) r.asks legal.conditions.plain_loads) lt));
  }

  legal-named : (w : ℕ) → w < length r.before → AllByRecursion (λ t. names r.asks w t ≡ true) (get_or r.order w [])
  legal-named w lt = named-places r.asks w (get_or r.order w []) (λ rank. subst (AllByRecursion (IsPlace r.asks w rank)) (sym (legal.each_once w rank lt)) (places-pass (is_on w) none 0 (get_or r.asks rank [])))

  legal-own : (w : ℕ) → w < length r.before → OwnFrom (replicate 64 0) (get_or r.order w [])
  legal-own w lt = rises-own (replicate 64 0) (get_or r.order w []) (few_ranks r w legal.conditions.few_ranks (legal-named w lt)) (λ rank. (
    subst IsRising (sym (legal.each_once w rank lt)) (places-rise (is_on w) none 0 (get_or r.asks rank [])),
    all_from (λ k. get_or {A = ℕ} (replicate 64 0) rank 0 ≤ k) (λ k. subst (λ z. z ≤ k) (sym (zeros 64 rank)) (omega arith)) (places_of rank (get_or r.order w [])),
  ))

  module _ (w : ℕ) (lt : w < length r.before) where
    legal-suits_own : SuitsWord (get_or r.before w 0) (asks_of (on_word w (entries r.asks r.got)))
    legal-suits_own = subst (SuitsWord (get_or r.before w 0)) (sym (asks_on-entries w r.asks r.got legal.fetched)) (legal.conditions.words_suit w lt)

    legal-suits : SuitsWord (get_or r.before w 0) (asks_of (in_order r w))
    legal-suits = suits-shuffled (get_or r.before w 0) (on_word w (entries r.asks r.got)) (in_order r w) (legal-is-order r legal w lt) legal-suits_own

    legal-kind : kind_of (asks_of (on_word w (entries r.asks r.got))) ≡ kind_of (map (ask_of r.asks) (get_or r.order w []))
    legal-kind = sym (same_kind (get_or r.before w 0) (on_word w (entries r.asks r.got)) (in_order r w) legal-suits_own (legal-is-order r legal w lt)) ∙ kind-same r w

    legal-comes : InOrder (kind_of (map (ask_of r.asks) (get_or r.order w []))) (get_or r.before w 0) None (in_order r w)
    legal-comes = in_order-comes (kind_of (map (ask_of r.asks) (get_or r.order w []))) (get_or r.before w 0) (in_order r w)
        (subst (IsInOrder (stands_before (kind_of (map (ask_of r.asks) (get_or r.order w []))) (get_or r.before w 0))) (sym (ap (map (entry_at r.asks r.got)) (legal.printed w lt) ∙ printed-again (get_or r.before w 0) w r.asks r.got))
        (subst (λ kind. IsInOrder (stands_before kind (get_or r.before w 0)) (printed_order (get_or r.before w 0) (on_word w (entries r.asks r.got)))) legal-kind (printed-in_order (get_or r.before w 0) (on_word w (entries r.asks r.got)))))

    legal-walked : Walked r.asks r.got w (get_or r.after w 0) (start (kind_of (map (ask_of r.asks) (get_or r.order w []))) (get_or r.before w 0)) (get_or r.order w [])
    unfolding start
    legal-walked = record {
      named = legal-named w lt;
      own = legal-own w lt;
      replays = legal.replays w lt;
      one_kind = all_weaker (λ (e : Entry). (e.ask.op ≡ Load) ⊎ (e.ask.op ≡ kind_of (asks_of (in_order r w)))) (λ e. is_of (kind_of (map (ask_of r.asks) (get_or r.order w []))) e ≡ true)
          (λ e h. of_kind-is (kind_of (map (ask_of r.asks) (get_or r.order w []))) e (subst (λ k. (e.ask.op ≡ Load) ⊎ (e.ask.op ≡ k)) (kind-same r w) h)) (in_order r w)
          (all_mapped (λ (a : Ask). (a.op ≡ Load) ⊎ (a.op ≡ kind_of (asks_of (in_order r w)))) (λ (e : Entry). e.ask) (in_order r w) legal-suits.one_kind);
      one_replace = let few = legal-suits.one_replace in let same = counted_asks (in_order r w) in omega arith;
      fits = let fits = legal-suits.sums_fit in let same = added_asks (in_order r w) in omega arith;
      printed = legal-comes;
    }

    legal-right : is_right_order r w ≡ true
    unfolding is_right_order
    legal-right = walks r.asks r.got w (get_or r.after w 0) (get_or r.order w []) (start (kind_of (map (ask_of r.asks) (get_or r.order w []))) (get_or r.before w 0)) legal-walked

  pub legal-orders : HasRightOrders r
  unfolding ask_count
  legal-orders = record {
    each = legal-right;
    small = λ w lt. let fits = (legal.conditions.words_suit w lt).sums_fit in omega arith;
    turns = counted-each_once r.asks r.order (length r.before)
        (λ rank lt. all_at (λ own. AllByRecursion (λ (a : Ask). a.word < length r.before) own) r.asks rank [] (all_in_flat_map (λ (a : Ask). a.word < length r.before) (λ own. own) r.asks legal.conditions.in_range) lt)
        legal-named legal.each_once;
  }
