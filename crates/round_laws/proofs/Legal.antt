-- A round whose words have orders that replay is legal with the printed orders.
use Rattle.std.proofs.Common.{◌≡◌, ℕ, ◌<◌, true, ◌==◌, List, [], ◌∷◌, map, length, get_or, refl, sym, ap, subst, ◌∙◌}
use Rattle.std.specs.List.{AllByRecursion}
use Rattle.std.proofs.lemmas.Bool.{eqb-true}
use Rattle.plain_lists.proofs.Each.{all_filter, all_weaker}
use Rattle.plain_lists.proofs.Filters.{filter_passing}
use Rattle.std.proofs.lemmas.Simd.{map-map}
use Rattle.sf_defs.specs.declared.Ask.{Ask}
use Rattle.sf_defs.specs.declared.Turn.{Turn}
use Rattle.sf_defs.specs.Asks.{Entry, Replays, of_rank, on_word, IsOrderOf}
use Rattle.sf_defs.specs.PrintedOrder.{kind_of, stands_before, printed_order}
use Rattle.sf_defs.specs.Rounds.{Round, SuitsWord, MeetsConditions, IsLegal, entries, entry_at, turn_of, printed_turns, in_order, places_of, places_on}
use Rattle.round_laws.specs.ReplayingOrders.{HasReplayingOrders, IsPrinted}
use Rattle.round_laws.proofs.Shuffles.{rank_of_all}
use Rattle.round_laws.proofs.Sorting.{all_sorted_by}
use Rattle.round_laws.proofs.Word.{asks_of, printed-replays, printed-is_order}
use Rattle.round_laws.proofs.Entries.{entries-at, entries-own_order, asks_on-entries, places_of-turns, places_on-entries}

-- entries that their turns name are the entries at their turns
named_again : (asks : List (List Ask)) (got : List (List ℕ)) (es : List Entry) → AllByRecursion (λ (e : Entry). entry_at asks got (turn_of e) ≡ e) es → map (entry_at asks got) (map turn_of es) ≡ es
named_again asks got [] h = refl
named_again asks got (e ∷ es) h = (λ i. h.0 i ∷ named_again asks got es h.1 i)

-- what all entries have, they have in the printed order
all_printed : (P : Entry → Type 0) (first : ℕ) (es : List Entry) → AllByRecursion P es → AllByRecursion P (printed_order first es)
unfolding printed_order
all_printed P first es h = all_sorted_by P (stands_before (kind_of (asks_of es)) first) es h

-- the entries at the printed turns are the entries in the printed order
printed-entries : (before : List ℕ) (asks : List (List Ask)) (got : List (List ℕ)) (w : ℕ) → map (entry_at asks got) (printed_turns before asks got w) ≡ printed_order (get_or before w 0) (on_word w (entries asks got))
printed-entries before asks got w =
    named_again asks got (printed_order (get_or before w 0) (on_word w (entries asks got)))
    (all_printed (λ (e : Entry). entry_at asks got (turn_of e) ≡ e) (get_or before w 0) (on_word w (entries asks got)) (all_filter (λ (e : Entry). entry_at asks got (turn_of e) ≡ e) (λ (e : Entry). e.ask.word == w) (entries asks got) (entries-at asks got)))

module _ (r : Round) (conditions : MeetsConditions r.before r.asks) (fetched : map length r.got ≡ map length r.asks) (orders : HasReplayingOrders r) (w : ℕ) (within : w < length r.before) where
  suits : SuitsWord (get_or r.before w 0) (asks_of (on_word w (entries r.asks r.got)))
  suits = subst (SuitsWord (get_or r.before w 0)) (sym (asks_on-entries w r.asks r.got fetched)) (conditions.words_suit w within)

  printed_is_order : IsOrderOf (on_word w (entries r.asks r.got)) (printed_order (get_or r.before w 0) (on_word w (entries r.asks r.got)))
  printed_is_order = let some = orders w within in printed-is_order (get_or r.before w 0) (on_word w (entries r.asks r.got)) some.0 suits some.1 (get_or r.after w 0) some.2 (entries-own_order w r.asks r.got)

  printed_replays : Replays (get_or r.before w 0) (printed_order (get_or r.before w 0) (on_word w (entries r.asks r.got))) (get_or r.after w 0)
  printed_replays = let some = orders w within in printed-replays (get_or r.before w 0) (on_word w (entries r.asks r.got)) some.0 suits some.1 (get_or r.after w 0) some.2

  each_once : (turns : List Turn) → turns ≡ printed_turns r.before r.asks r.got w → (rank : ℕ) → places_of rank turns ≡ places_on w (get_or r.asks rank [])
  each_once turns is rank =
      ap (places_of rank) is ∙ places_of-turns rank (printed_order (get_or r.before w 0) (on_word w (entries r.asks r.got)))
      ∙ ap (map (λ (e : Entry). e.index)) (printed_is_order rank) ∙ places_on-entries rank w r.asks r.got fetched

-- the round with the printed orders is legal
pub legal-from-orders : (r : Round) → IsPrinted r → HasReplayingOrders r → IsLegal r
legal-from-orders r is orders = record {
  conditions = is.conditions;
  fetched = is.fetched;
  lasts = is.lasts;
  orders = is.orders;
  each_once = λ w rank within. each_once r is.conditions is.fetched orders w within (get_or r.order w []) (is.printed w within) rank;
  replays = λ w within. subst (λ es. Replays (get_or r.before w 0) es (get_or r.after w 0)) (sym (ap (map (entry_at r.asks r.got)) (is.printed w within) ∙ printed-entries r.before r.asks r.got w)) (printed_replays r is.conditions is.fetched orders w within);
  printed = is.printed;
}

-- ---- what a legal round says

-- entries of one rank that their turns name are determined by their places
by_places : (rank : ℕ) (asks : List (List Ask)) (got : List (List ℕ)) (es : List Entry) → AllByRecursion (λ (e : Entry). entry_at asks got (turn_of e) ≡ e) es → AllByRecursion (λ (e : Entry). e.rank ≡ rank) es
    → map (λ i. entry_at asks got (record { rank = rank; index = i })) (map (λ (e : Entry). e.index) es) ≡ es
by_places rank asks got [] h k = refl
by_places rank asks got (e ∷ es) h k = (λ i. (ap (λ m. entry_at asks got (record { rank = m; index = e.index })) (sym k.0) ∙ h.0) i ∷ by_places rank asks got es h.1 k.1 i)

-- in a legal round the order of a word is an order of its entries
pub legal-is-order : (r : Round) → IsLegal r → (w : ℕ) → w < length r.before → IsOrderOf (on_word w (entries r.asks r.got)) (in_order r w)
legal-is-order r legal w within rank =
    let named = all_filter (λ (e : Entry). entry_at r.asks r.got (turn_of e) ≡ e) (λ (e : Entry). e.ask.word == w) (entries r.asks r.got) (entries-at r.asks r.got) in
    let printed : in_order r w ≡ printed_order (get_or r.before w 0) (on_word w (entries r.asks r.got)) = ap (map (entry_at r.asks r.got)) (legal.printed w within) ∙ printed-entries r.before r.asks r.got w in
    let names : AllByRecursion (λ (e : Entry). entry_at r.asks r.got (turn_of e) ≡ e) (in_order r w) = subst (AllByRecursion (λ (e : Entry). entry_at r.asks r.got (turn_of e) ≡ e)) (sym printed) (all_printed (λ (e : Entry). entry_at r.asks r.got (turn_of e) ≡ e) (get_or r.before w 0) (on_word w (entries r.asks r.got)) named) in
    let turns : map turn_of (in_order r w) ≡ get_or r.order w [] = map-map turn_of (entry_at r.asks r.got) (get_or r.order w []) ∙ same_map (get_or r.order w []) in
    let places : map (λ (e : Entry). e.index) (of_rank rank (in_order r w)) ≡ map (λ (e : Entry). e.index) (of_rank rank (on_word w (entries r.asks r.got))) =
    sym (places_of-turns rank (in_order r w)) ∙ ap (places_of rank) turns ∙ legal.each_once w rank within ∙ sym (places_on-entries rank w r.asks r.got legal.fetched) in
    sym (by_places rank r.asks r.got (of_rank rank (in_order r w)) (rank_of_all _ rank (in_order r w) names) (of_this (in_order r w)))
    ∙ ap (map (λ i. entry_at r.asks r.got (record { rank = rank; index = i }))) places
    ∙ by_places rank r.asks r.got (of_rank rank (on_word w (entries r.asks r.got))) (rank_of_all _ rank (on_word w (entries r.asks r.got)) named) (of_this (on_word w (entries r.asks r.got)))
  where
    same_map : (ts : List Turn) → map (λ (t : Turn). turn_of (entry_at r.asks r.got t)) ts ≡ ts
    same_map [] = refl
    same_map (t ∷ ts) = ap (λ l. t ∷ l) (same_map ts)

    of_this : (es : List Entry) → AllByRecursion (λ (e : Entry). e.rank ≡ rank) (of_rank rank es)
    of_this es = all_weaker (λ (e : Entry). (e.rank == rank) ≡ true) (λ (e : Entry). e.rank ≡ rank) (λ e h. eqb-true e.rank rank h) (of_rank rank es) (filter_passing (λ (e : Entry). e.rank == rank) es)

-- a legal round is printed, and its words have orders that replay
pub legal-printed : (r : Round) → IsLegal r → IsPrinted r
legal-printed r legal = record { conditions = legal.conditions; fetched = legal.fetched; lasts = legal.lasts; orders = legal.orders; printed = legal.printed }

pub legal-orders : (r : Round) → IsLegal r → HasReplayingOrders r
legal-orders r legal w within = (in_order r w, legal-is-order r legal w within, legal.replays w within)
