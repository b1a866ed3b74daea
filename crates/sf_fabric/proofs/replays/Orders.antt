-- An order that has each ask once is an order of the word's entries; what a sort of them says of neighbours, and back.
use Rattle.std.proofs.Common.{◌≡◌, ◌⊎◌, ℕ, zero, suc, ◌+◌, ◌^◌, ◌<◌, ◌≤◌, Bool, true, false, cond, ◌==◌, ◌||◌, List, [], ◌∷◌, map, length, get_or, count_by, sum_by, Option, Some, None, refl, sym, ap, subst, ◌∙◌, inl, inr, ⊎_elim, arith}
use Rattle.std.specs.List.{AllByRecursion}
use Rattle.std.proofs.lemmas.Bool.{false≢true, eqb-true}
use Rattle.std.proofs.lemmas.Simd.{map-map}
use Rattle.plain_lists.proofs.Each.{all_weaker, all_filter, all_map, all_mapped, all_from}
use Rattle.plain_lists.proofs.Filters.{filter_passing}
use Rattle.sf_defs.specs.declared.Op.{Op}
use Rattle.sf_defs.specs.declared.Op.TheVariants.{Load, Replace}
use Rattle.sf_defs.specs.declared.Ask.{Ask}
use Rattle.sf_defs.specs.declared.Turn.{Turn}
use Rattle.sf_defs.specs.Asks.{Entry, of_rank, on_word, IsOrderOf}
use Rattle.sf_defs.specs.PrintedOrder.{is_load, kind_of, stands_before, placed, sorted_by, printed_order}
use Rattle.sf_defs.specs.Rounds.{SuitsWord, added, same_op, entries, entry_at, turn_of, places_of, places_on}
use Rattle.round_laws.proofs.Comparison.{IsTotal, total_printed}
use Rattle.round_laws.proofs.Shuffles.{rank_of_all, all_shuffled, sum_by-shuffled}
use Rattle.round_laws.proofs.Sorting.{all_placed}
use Rattle.round_laws.proofs.Permuted.{IsInOrder}
use Rattle.round_laws.proofs.Entries.{entries-at, places_of-turns, places_on-entries}
use Rattle.round_laws.proofs.Word.{asks_of, same_kind}
use Rattle.sf_fabric.proofs.replays.WalkFacts.{InOrder}

-- ---- orders of entries

-- entries of one rank that their turns name are determined by their places
by_places : (rank : ℕ) (asks : List (List Ask)) (got : List (List ℕ)) (es : List Entry) → AllByRecursion (λ (e : Entry). entry_at asks got (turn_of e) ≡ e) es → AllByRecursion (λ (e : Entry). e.rank ≡ rank) es
    → map (λ i. entry_at asks got (record { rank = rank; index = i })) (map (λ (e : Entry). e.index) es) ≡ es
by_places rank asks got [] h k = refl
by_places rank asks got (e ∷ es) h k = (λ i. (ap (λ m. entry_at asks got (record { rank = m; index = e.index })) (sym k.0) ∙ h.0) i ∷ by_places rank asks got es h.1 k.1 i)

-- turns whose places are those of the asks on a word name an order of its entries
pub order-each_once : (asks : List (List Ask)) (got : List (List ℕ)) (w : ℕ) (ts : List Turn) → map length got ≡ map length asks → ((rank : ℕ) → places_of rank ts ≡ places_on w (get_or asks rank [])) → IsOrderOf (on_word w (entries asks got)) (map (entry_at asks got) ts)
order-each_once asks got w ts fetched each rank =
    let named = all_filter (λ (e : Entry). entry_at asks got (turn_of e) ≡ e) (λ (e : Entry). e.ask.word == w) (entries asks got) (entries-at asks got) in
    let names : AllByRecursion (λ (e : Entry). entry_at asks got (turn_of e) ≡ e) (map (entry_at asks got) ts) = all_map (λ (e : Entry). entry_at asks got (turn_of e) ≡ e) (entry_at asks got) ts (all_from (λ t. entry_at asks got (turn_of (entry_at asks got t)) ≡ entry_at asks got t) (λ t. refl) ts) in
    let turns : map turn_of (map (entry_at asks got) ts) ≡ ts = map-map turn_of (entry_at asks got) ts ∙ same_map ts in
    let places : map (λ (e : Entry). e.index) (of_rank rank (map (entry_at asks got) ts)) ≡ map (λ (e : Entry). e.index) (of_rank rank (on_word w (entries asks got))) =
    sym (places_of-turns rank (map (entry_at asks got) ts)) ∙ ap (places_of rank) turns ∙ each rank ∙ sym (places_on-entries rank w asks got fetched) in
    sym (by_places rank asks got (of_rank rank (map (entry_at asks got) ts)) (rank_of_all _ rank (map (entry_at asks got) ts) names) (of_this (map (entry_at asks got) ts)))
    ∙ ap (map (λ i. entry_at asks got (record { rank = rank; index = i }))) places
    ∙ by_places rank asks got (of_rank rank (on_word w (entries asks got))) (rank_of_all _ rank (on_word w (entries asks got)) named) (of_this (on_word w (entries asks got)))
  where
    same_map : (us : List Turn) → map (λ (t : Turn). turn_of (entry_at asks got t)) us ≡ us
    same_map [] = refl
    same_map (t ∷ us) = ap (λ l. t ∷ l) (same_map us)

    of_this : (es : List Entry) → AllByRecursion (λ (e : Entry). e.rank ≡ rank) (of_rank rank es)
    of_this es = all_weaker (λ (e : Entry). (e.rank == rank) ≡ true) (λ (e : Entry). e.rank ≡ rank) (λ e h. eqb-true e.rank rank h) (of_rank rank es) (filter_passing (λ (e : Entry). e.rank == rank) es)

-- what entries suit, they suit in another order
pub suits-shuffled : (first : ℕ) (all es : List Entry) → IsOrderOf all es → SuitsWord first (asks_of all) → SuitsWord first (asks_of es)
suits-shuffled first all es order suits = record {
  one_kind = all_map (λ (a : Ask). (a.op ≡ Load) ⊎ (a.op ≡ kind_of (asks_of es))) (λ (e : Entry). e.ask) es
      (subst (λ kind. AllByRecursion (λ (e : Entry). (e.ask.op ≡ Load) ⊎ (e.ask.op ≡ kind)) es) (sym (same_kind first all es suits order))
      (all_shuffled (λ (e : Entry). (e.ask.op ≡ Load) ⊎ (e.ask.op ≡ kind_of (asks_of all))) all es order (all_mapped (λ (a : Ask). (a.op ≡ Load) ⊎ (a.op ≡ kind_of (asks_of all))) (λ (e : Entry). e.ask) all suits.one_kind)));
  one_replace = subst (λ n. n ≤ 1) (sum_by-shuffled (λ (a : Ask). cond (same_op a.op Replace) 1 0) all es order) suits.one_replace;
  sums_fit = subst (λ n. first + n < 2 ^ 64) (sum_by-shuffled added all es order) suits.sums_fit;
}

-- ---- sorted entries

module _ (before : Entry → Entry → Bool) (order : IsTotal before) where
  placed-in_order : (e : Entry) (es : List Entry) → IsInOrder before es → IsInOrder before (placed before e es)
  placed-in_order e [] h = (tt, tt)
  placed-in_order e (x ∷ xs) h = go (before e x) refl (placed-in_order e xs h.1)
    where
      go : (b : Bool) → before e x ≡ b → IsInOrder before (placed before e xs) → IsInOrder before (cond b (e ∷ x ∷ xs) (x ∷ placed before e xs))
      go true k r = ((k, all_weaker (λ y. before x y ≡ true) (λ y. before e y ≡ true) (λ y l. order.trans e x y k l) xs h.0), h)
      go false k r = (all_placed (λ y. before x y ≡ true) before e xs (order.total e x k) h.0, r)

  sorted-in_order : (es : List Entry) → IsInOrder before (sorted_by before es)
  sorted-in_order [] = tt
  sorted-in_order (e ∷ es) = placed-in_order e (sorted_by before es) (sorted-in_order es)

-- the printed order is in order
pub printed-in_order : (first : ℕ) (es : List Entry) → IsInOrder (stands_before (kind_of (asks_of es)) first) (printed_order first es)
unfolding printed_order
printed-in_order first es = sorted-in_order (stands_before (kind_of (asks_of es)) first) (total_printed (kind_of (asks_of es)) first) es

module _ (kind : Op) (first : ℕ) where
  -- entries in order may come one after another
  comes_after : (d : Entry) (es : List Entry) → AllByRecursion (λ x. stands_before kind first d x ≡ true) es → IsInOrder (stands_before kind first) es → InOrder kind first (Some d) es
  comes_after d [] h k = tt
  comes_after d (e ∷ es) h k = (h.0, comes_after e es k.0 k.1)

  pub in_order-comes : (es : List Entry) → IsInOrder (stands_before kind first) es → InOrder kind first None es
  in_order-comes [] h = tt
  in_order-comes (e ∷ es) h = (refl, comes_after e es h.0 h.1)

  -- entries that may come one after another are neighbours in order
  pub comes-neighbours : (last : Option Entry) (es : List Entry) → InOrder kind first last es → (k : ℕ) (d : Entry) → k + 1 < length es → stands_before kind first (get_or es k d) (get_or es (k + 1) d) ≡ true
  comes-neighbours last [] h k d lt = absurd (omega arith)
  comes-neighbours last (e ∷ []) h k d lt = absurd (omega arith)
  comes-neighbours last (e ∷ x ∷ xs) h zero d lt = h.1.0
  comes-neighbours last (e ∷ x ∷ xs) h (suc k) d lt =
      let at : suc (k + 1) ≡ suc k + 1 = omega arith in
      subst (λ j. stands_before kind first (get_or (x ∷ xs) k d) (get_or (e ∷ x ∷ xs) j d) ≡ true) at (comes-neighbours (Some e) (x ∷ xs) h.1 k d (omega arith))
