-- The names at sorted places, cut at the words, are the printed orders.
use Rattle.std.proofs.Common.{◌≡◌, ℕ, ◌+◌, ◌-◌, ◌<◌, ◌≤◌, Bool, true, false, cond, ◌==◌, List, [], ◌∷◌, map, length, get_or, take, drop, count_by, sum_by, min, IsPermutation, refl, sym, ap, ◌∙◌, arith, is_lt}
use Rattle.std.specs.Prelude.{filter, slice_range}
use Rattle.std.specs.List.{AllByRecursion}
use Rattle.std.proofs.lemmas.Bool.{eqb-true}
use Rattle.std.proofs.lemmas.List.{length-map, length-take, length-drop, get_or-take, get_or-drop, get_or-map, take-map, drop-map}
use Rattle.std.proofs.lemmas.List.Sums.{sum_by-cons}
use Rattle.std.proofs.lemmas.List.Elements.{All-from_recursion, recursion_from_All}
use Rattle.std.proofs.lemmas.List.Sorted.{sum_by-IsPermutation, All-permutation}
use Rattle.std.proofs.lemmas.Simd.{map-map}
use Rattle.plain_lists.specs.Lists.{below}
use Rattle.plain_lists.proofs.Below.{below-all}
use Rattle.plain_lists.proofs.Each.{all_at, all_weaker, all_map, all_from, all_filter}
use Rattle.plain_lists.proofs.Filters.{filter_passing, map_same}
use Rattle.sf_defs.specs.declared.Ask.{Ask}
use Rattle.sf_defs.specs.declared.Turn.{Turn}
use Rattle.sf_defs.specs.Asks.{Entry, on_word}
use Rattle.sf_defs.specs.PrintedOrder.{kind_of, stands_before}
use Rattle.sf_defs.specs.Rounds.{asks_on, entries, entry_at, turn_of, printed_turns}
use Rattle.round_laws.proofs.Entries.{entries-at, asks_on-entries}
use Rattle.round_laws.proofs.Word.{asks_of}
use Rattle.sf_fabric.specs.Cut.{cut, part}
use Rattle.sf_fabric.specs.declared.orders.place.Place.{Place}
use Rattle.sf_fabric.specs.orders.Places.{place_of, places_of, turn_at, below_word}
use Rattle.sf_fabric.proofs.orders.ByWord.{cut-on}
use Rattle.sf_fabric.proofs.orders.Counted.{counted-printed}
use Rattle.sf_fabric.proofs.orders.Sorted.{place_cmp, AreSorted, stands_in-order, sorted-by_word}

-- ---- counts

count-map : {X Y : Type 0} (p : Y → Bool) (f : X → Y) (xs : List X) → count_by p (map f xs) ≡ count_by (λ x. p (f x)) xs
count-map p f [] = refl
count-map p f (x ∷ xs) = sum_by-cons (λ y. cond (p y) 1 0) (f x) (map f xs) ∙ ap (λ n. cond (p (f x)) 1 0 + n) (count-map p f xs) ∙ sym (sum_by-cons (λ y. cond (p (f y)) 1 0) x xs)

-- 1 where both
abbrev both : Bool → Bool → ℕ
both a b = cond a (cond b 1 0) 0

count-filter : {X : Type 0} (p q : X → Bool) (xs : List X) → count_by p (filter q xs) ≡ sum_by (λ x. both (q x) (p x)) xs
count-filter p q [] = refl
count-filter {X = X} p q (x ∷ xs) = go (q x) (count-filter p q xs) ∙ sym (sum_by-cons (λ y. both (q y) (p y)) x xs)
  where
    go : (b : Bool) → count_by p (filter q xs) ≡ sum_by (λ y. both (q y) (p y)) xs → count_by p (cond b (x ∷ filter q xs) (filter q xs)) ≡ both b (p x) + sum_by (λ y. both (q y) (p y)) xs
    go true r = sum_by-cons (λ y. cond (p y) 1 0) x (filter q xs) ∙ ap (λ n. cond (p x) 1 0 + n) r
    go false r = r ∙ omega arith

sum-map : {X Y : Type 0} (g : Y → ℕ) (h : X → Y) (xs : List X) → sum_by g (map h xs) ≡ sum_by (λ x. g (h x)) xs
sum-map g h [] = refl
sum-map g h (x ∷ xs) = sum_by-cons g (h x) (map h xs) ∙ ap (λ n. g (h x) + n) (sum-map g h xs) ∙ sym (sum_by-cons (λ y. g (h y)) x xs)

sum-same : {X : Type 0} (f g : X → ℕ) (xs : List X) → AllByRecursion (λ x. f x ≡ g x) xs → sum_by f xs ≡ sum_by g xs
sum-same f g [] h = refl
sum-same f g (x ∷ xs) h = sum_by-cons f x xs ∙ (λ i. h.0 i + sum-same f g xs h.1 i) ∙ sym (sum_by-cons g x xs)

-- ---- one word

module _ (words : List ℕ) (asks : List (List Ask)) (got : List (List ℕ)) (ps : List Place)
    (fetched : map length got ≡ map length asks) (small : (rank k : ℕ) → get_or (get_or got rank []) k 0 ≤ 18446744073709551615)
    (moved : IsPermutation (places_of words asks got) ps) (sorted : AreSorted ps) where
  own_place : Entry → Place
  own_place e = place_of (kind_of (asks_on e.ask.word asks)) (get_or words e.ask.word 0) e

  entry : Place → Entry
  entry p = entry_at asks got (turn_at p)

  -- each place is that of the entry that it names
  placed : AllByRecursion (λ p. p ≡ own_place (entry p)) (places_of words asks got)
  unfolding places_of own_place entry
  placed = all_map (λ p. p ≡ own_place (entry p)) own_place (entries asks got)
      (all_weaker (λ e. entry_at asks got (turn_of e) ≡ e) (λ e. own_place e ≡ own_place (entry (own_place e))) (λ e h. ap own_place (sym h)) (entries asks got) (entries-at asks got))

  known : AllByRecursion (λ p. p ≡ own_place (entry p)) ps
  known = recursion_from_All (λ p. p ≡ own_place (entry p)) ps (All-permutation (λ p. p ≡ own_place (entry p)) (places_of words asks got) ps moved (All-from_recursion (λ p. p ≡ own_place (entry p)) (places_of words asks got) placed))

  module _ (w : ℕ) where
    on_w : List Place
    on_w = filter (λ (q : Place). q.word == w) ps

    -- each entry as often as on the word
    counts : (p : Entry → Bool) → count_by p (map entry on_w) ≡ count_by p (on_word w (entries asks got))
    unfolding places_of own_place entry on_w
    counts p =
        count-map p entry on_w ∙ count-filter (λ q. p (entry q)) (λ (q : Place). q.word == w) ps
        ∙ sum_by-IsPermutation (λ (q : Place). both (q.word == w) (p (entry q))) (places_of words asks got) ps moved
        ∙ sum-map (λ (q : Place). both (q.word == w) (p (entry q))) own_place (entries asks got)
        ∙ sum-same (λ e. both (e.ask.word == w) (p (entry (own_place e)))) (λ e. both (e.ask.word == w) (p e)) (entries asks got)
        (all_weaker (λ e. entry_at asks got (turn_of e) ≡ e) (λ e. both (e.ask.word == w) (p (entry (own_place e))) ≡ both (e.ask.word == w) (p e)) (λ e h. ap (λ x. both (e.ask.word == w) (p x)) h) (entries asks got) (entries-at asks got))
        ∙ sym (count-filter p (λ (e : Entry). e.ask.word == w) (entries asks got))

    segment : take (below_word (w + 1) ps - below_word w ps) (drop (below_word w ps) ps) ≡ on_w
    unfolding on_w
    segment = cut-on w ps (sorted-by_word ps sorted)

    at_segment : (k : ℕ) (d : Place) → k < length on_w → (get_or on_w k d ≡ get_or ps (below_word w ps + k) d) × (below_word w ps + k < length ps)
    at_segment k d lt =
        let size : length on_w ≡ min (below_word (w + 1) ps - below_word w ps) (length ps - below_word w ps) = sym (ap length segment) ∙ length-take (below_word (w + 1) ps - below_word w ps) (drop (below_word w ps) ps) ∙ ap (min (below_word (w + 1) ps - below_word w ps)) (length-drop (below_word w ps) ps) in
        (sym (ap (λ l. get_or l k d) segment) ∙ get_or-take (below_word (w + 1) ps - below_word w ps) (drop (below_word w ps) ps) k d (omega arith) ∙ get_or-drop (below_word w ps) ps k d, omega arith)

    -- a place on the word is that of an entry on the word
    on_word-place : (k : ℕ) (d : Place) → k < length on_w → (get_or on_w k d ≡ place_of (kind_of (asks_on w asks)) (get_or words w 0) (entry (get_or on_w k d))) × ((entry (get_or on_w k d)).ask.word ≡ w)
    unfolding on_w own_place entry
    on_word-place k d lt =
        let is = all_at (λ p. p ≡ own_place (entry p)) on_w k d (all_filter (λ p. p ≡ own_place (entry p)) (λ (q : Place). q.word == w) ps known) lt in
        let word : (get_or on_w k d).word ≡ w = eqb-true (get_or on_w k d).word w (all_at (λ (q : Place). (q.word == w) ≡ true) on_w k d (filter_passing (λ (q : Place). q.word == w) ps) lt) in
        let own : (entry (get_or on_w k d)).ask.word ≡ w = sym (ap (λ (q : Place). q.word) is) ∙ word in
        (is ∙ ap (λ v. place_of (kind_of (asks_on v asks)) (get_or words v 0) (entry (get_or on_w k d))) own, own)

    got-small : (p : Place) → (entry p).got ≤ 18446744073709551615
    unfolding entry
    got-small p = small p.rank p.index

    neighbours : (k : ℕ) (d : Place) → k + 1 < length on_w → stands_before (kind_of (asks_on w asks)) (get_or words w 0) (entry (get_or on_w k d)) (entry (get_or on_w (k + 1) d)) ≡ true
    neighbours k d lt =
        let here = at_segment k d (omega arith) in
        let next = at_segment (k + 1) d lt in
        let place = on_word-place k d (omega arith) in
        let after = on_word-place (k + 1) d lt in
        let at : below_word w ps + (k + 1) ≡ below_word w ps + k + 1 = omega arith in
        let late : is_lt (place_cmp (get_or on_w (k + 1) d) (get_or on_w k d)) ≡ false =
        (λ i. is_lt (place_cmp ((next.0 ∙ ap (λ j. get_or ps j d) at) i) (here.0 i))) ∙ sorted (below_word w ps + k) d (omega arith) (let bound = next.1 in omega arith) in
        stands_in-order (kind_of (asks_on w asks)) (get_or words w 0) (entry (get_or on_w k d)) (entry (get_or on_w (k + 1) d)) (got-small (get_or on_w k d)) (got-small (get_or on_w (k + 1) d)) (place.1 ∙ sym after.1)
        (sym (λ i. is_lt (place_cmp (after.0 i) (place.0 i))) ∙ late)

    -- the names on the word are its printed order
    turns_on-word : map turn_at on_w ≡ printed_turns words asks got w
    unfolding entry
    turns_on-word = sym (map-map turn_of entry on_w) ∙ ap (map turn_of) (counted-printed (get_or words w 0) asks got w (map entry on_w)
        (all_map (λ e. entry_at asks got (turn_of e) ≡ e) entry on_w (all_from (λ p. entry_at asks got (turn_of (entry p)) ≡ entry p) (λ p. refl) on_w))
        counts in_order)
      where
        in_order : (k : ℕ) (d : Entry) → k + 1 < length (map entry on_w) → stands_before (kind_of (asks_of (on_word w (entries asks got)))) (get_or words w 0) (get_or (map entry on_w) k d) (get_or (map entry on_w) (k + 1) d) ≡ true
        in_order k d lt =
            let size = length-map on_w entry in
            let none : Place = record { word = 0; fetched = 0; changes = false; rank = 0; index = 0 } in
            (λ i. stands_before (kind_of (asks_on-entries w asks got fetched i)) (get_or words w 0) (get_or-map entry on_w k none d (omega arith) i) (get_or-map entry on_w (k + 1) none d (omega arith) i))
            ∙ neighbours k none (omega arith)

  -- all words
  pub cut-printed : (turns : List Turn) (firsts : List ℕ) → turns ≡ map turn_at ps → length firsts ≡ length words + 1 → ((w : ℕ) → w ≤ length words → get_or firsts w 0 ≡ below_word w ps) → cut turns firsts ≡ map (printed_turns words asks got) (below (length words))
  unfolding cut on_w
  cut-printed turns firsts names count places =
      let words_count : length firsts - 1 ≡ length words = omega arith in
      ap (λ n. map (part turns firsts) (below n)) words_count
      ∙ map_same (part turns firsts) (printed_turns words asks got) (below (length words)) (all_weaker (λ w. w < length words) (λ w. part turns firsts w ≡ printed_turns words asks got w) (λ w lt.
      (λ i. slice_range (names i) (places w (omega arith) i) (places (w + 1) (omega arith) i))
      ∙ ap (take (below_word (w + 1) ps - below_word w ps)) (drop-map turn_at (below_word w ps) ps)
      ∙ take-map turn_at (below_word (w + 1) ps - below_word w ps) (drop (below_word w ps) ps)
      ∙ ap (map turn_at) (segment w)
      ∙ turns_on-word w) (below (length words)) (below-all (length words)))
