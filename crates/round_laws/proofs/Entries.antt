-- The entries of a round: those of each rank, and those on each word.
use Rattle.std.proofs.Common.{◌≡◌, ◌≢◌, ℕ, zero, suc, ◌+◌, ◌<◌, ◌≤◌, Bool, true, false, cond, ◌==◌, List, [], ◌∷◌, ◌++◌, map, length, get_or, refl, sym, ap, subst, ◌∙◌, arith}
use Rattle.std.specs.Prelude.{filter, flat_map, zip}
use Rattle.std.specs.List.{AllByRecursion, enumerate_from}
use Rattle.std.proofs.lemmas.Bool.{eq-eqb, ne_eqb}
use Rattle.std.proofs.lemmas.List.{append-nil, map-append}
use Rattle.std.proofs.lemmas.List.Elements.{filter-append}
use Rattle.plain_lists.proofs.Each.{all_weaker, all_both}
use Rattle.plain_lists.proofs.Filters.{filter-swap, filter-mapped, filter_whole, filter_none}
use Rattle.std.proofs.lemmas.Simd.{map-map}
use Rattle.sf_defs.specs.declared.Op.TheVariants.{Load}
use Rattle.sf_defs.specs.declared.Ask.{Ask}
use Rattle.sf_defs.specs.declared.Turn.{Turn}
use Rattle.sf_defs.specs.Asks.{Entry, of_rank, on_word, IsRising, HasOwnOrder}
use Rattle.sf_defs.specs.Rounds.{rank_entries, entries, turn_of, entry_at, all_asks, asks_on, places_of, places_on}
use Rattle.round_laws.proofs.Shuffles.{all_by_rank}
use Rattle.round_laws.proofs.Word.{asks_of}

-- ---- filters

-- what rises still rises after a filter
pub rising-filter : {X : Type 0} (f : X → ℕ) (p : X → Bool) (xs : List X) → IsRising (map f xs) → IsRising (map f (filter p xs))
rising-filter f p [] h = tt
rising-filter {X = X} f p (x ∷ xs) h = go (p x) (kept xs h.0) (rising-filter f p xs h.1)
  where
    kept : (ys : List X) → AllByRecursion (λ m. f x < m) (map f ys) → AllByRecursion (λ m. f x < m) (map f (filter p ys))
    kept [] k = tt
    kept (y ∷ ys) k = which (p y) (kept ys k.1)
      where
        which : (b : Bool) → AllByRecursion (λ m. f x < m) (map f (filter p ys)) → AllByRecursion (λ m. f x < m) (map f (cond b (y ∷ filter p ys) (filter p ys)))
        which true r = (k.0, r)
        which false r = r

    go : (b : Bool) → AllByRecursion (λ m. f x < m) (map f (filter p xs)) → IsRising (map f (filter p xs)) → IsRising (map f (cond b (x ∷ filter p xs) (filter p xs)))
    go true k r = (k, r)
    go false k r = r

-- ---- one rank

-- a rank's asks from place n on
abbrev pub numbered : ℕ → ℕ → List Ask → List ℕ → List Entry
numbered rank n asks got = map (λ x. record { rank = rank; index = x.0; ask = x.1.0; got = x.1.1 }) (enumerate_from n (zip asks got))

pub numbered-rank : (rank n : ℕ) (asks : List Ask) (got : List ℕ) → AllByRecursion (λ (e : Entry). e.rank ≡ rank) (numbered rank n asks got)
numbered-rank rank n [] got = tt
numbered-rank rank n (a ∷ asks) [] = tt
numbered-rank rank n (a ∷ asks) (g ∷ got) = (refl, numbered-rank rank (n + 1) asks got)

numbered-low : (rank n m : ℕ) (asks : List Ask) (got : List ℕ) → n ≤ m → AllByRecursion (λ k. n ≤ k) (map (λ (e : Entry). e.index) (numbered rank m asks got))
numbered-low rank n m [] got h = tt
numbered-low rank n m (a ∷ asks) [] h = tt
numbered-low rank n m (a ∷ asks) (g ∷ got) h = (h, numbered-low rank n (m + 1) asks got (omega arith))

pub numbered-rising : (rank n : ℕ) (asks : List Ask) (got : List ℕ) → IsRising (map (λ (e : Entry). e.index) (numbered rank n asks got))
numbered-rising rank n [] got = tt
numbered-rising rank n (a ∷ asks) [] = tt
numbered-rising rank n (a ∷ asks) (g ∷ got) = (
  all_weaker (λ k. n + 1 ≤ k) (λ k. n < k) (λ k h. omega arith) (map (λ (e : Entry). e.index) (numbered rank (n + 1) asks got)) (numbered-low rank (n + 1) (n + 1) asks got (omega arith)),
  numbered-rising rank (n + 1) asks got,
)

pub numbered-asks : (rank n : ℕ) (asks : List Ask) (got : List ℕ) → length got ≡ length asks → asks_of (numbered rank n asks got) ≡ asks
numbered-asks rank n [] got h = refl
numbered-asks rank n (a ∷ asks) [] h = absurd (omega arith)
numbered-asks rank n (a ∷ asks) (g ∷ got) h = ap (λ l. a ∷ l) (numbered-asks rank (n + 1) asks got (omega arith))

-- the places of a rank's asks on a word
pub numbered-places : (w rank n : ℕ) (asks : List Ask) (got : List ℕ) → length got ≡ length asks
    → map (λ (e : Entry). e.index) (on_word w (numbered rank n asks got)) ≡ map (λ x. x.0) (filter (λ (x : ℕ × Ask). x.1.word == w) (enumerate_from n asks))
numbered-places w rank n [] got h = refl
numbered-places w rank n (a ∷ asks) [] h = absurd (omega arith)
numbered-places w rank n (a ∷ asks) (g ∷ got) h = go (a.word == w) (numbered-places w rank (n + 1) asks got (omega arith))
  where
    rest : List Entry
    rest = on_word w (numbered rank (n + 1) asks got)

    more : List (ℕ × Ask)
    more = filter (λ (x : ℕ × Ask). x.1.word == w) (enumerate_from (n + 1) asks)

    go : (b : Bool) → map (λ (e : Entry). e.index) rest ≡ map (λ x. x.0) more
        → map (λ (e : Entry). e.index) (cond b (record { rank = rank; index = n; ask = a; got = g } ∷ rest) rest) ≡ map (λ x. x.0) (cond b ((n, a) ∷ more) more)
    go true r = ap (λ l. n ∷ l) r
    go false r = r

-- an entry is what stands at its place
numbered-at : (rank n : ℕ) (asks : List Ask) (got : List ℕ) (a0 : Ask) (all : List Ask) (values : List ℕ)
    → ((k : ℕ) → get_or asks k a0 ≡ get_or all (n + k) a0) → ((k : ℕ) → get_or got k 0 ≡ get_or values (n + k) 0)
    → AllByRecursion (λ (e : Entry). (e.ask ≡ get_or all e.index a0) × (e.got ≡ get_or values e.index 0)) (numbered rank n asks got)
numbered-at rank n [] got a0 all values h k = tt
numbered-at rank n (a ∷ asks) [] a0 all values h k = tt
numbered-at rank n (a ∷ asks) (g ∷ got) a0 all values h k = (
  (h 0 ∙ ap (λ m. get_or all m a0) (omega arith), k 0 ∙ ap (λ m. get_or values m 0) (omega arith)),
  numbered-at rank (n + 1) asks got a0 all values (λ m. h (suc m) ∙ ap (λ j. get_or all j a0) (omega arith)) (λ m. k (suc m) ∙ ap (λ j. get_or values j 0) (omega arith)),
)

-- ---- all ranks

-- the entries of ranks from n on
abbrev pub entries_from : ℕ → List (List Ask) → List (List ℕ) → List Entry
entries_from n asks got = flat_map (λ x. rank_entries x.0 x.1.0 x.1.1) (enumerate_from n (zip asks got))

rank_entries-own : (rank : ℕ) (asks : List Ask) (got : List ℕ) → of_rank rank (rank_entries rank asks got) ≡ rank_entries rank asks got
rank_entries-own rank asks got = filter_whole (λ (e : Entry). e.rank == rank) (rank_entries rank asks got) (all_weaker (λ (e : Entry). e.rank ≡ rank) (λ (e : Entry). (e.rank == rank) ≡ true) (λ e h. eq-eqb e.rank rank h) (rank_entries rank asks got) (numbered-rank rank 0 asks got))

rank_entries-other : (rank other : ℕ) (asks : List Ask) (got : List ℕ) → other ≢ rank → of_rank rank (rank_entries other asks got) ≡ []
rank_entries-other rank other asks got apart = filter_none (λ (e : Entry). e.rank == rank) (rank_entries other asks got) (all_weaker (λ (e : Entry). e.rank ≡ other) (λ (e : Entry). (e.rank == rank) ≡ false) (λ e h. ne_eqb e.rank rank (λ k. apart (sym h ∙ k))) (rank_entries other asks got) (numbered-rank other 0 asks got))

-- lower ranks have none
of_rank-below : (rank n : ℕ) (asks : List (List Ask)) (got : List (List ℕ)) → rank < n → of_rank rank (entries_from n asks got) ≡ []
of_rank-below rank n [] got h = refl
of_rank-below rank n (a ∷ asks) [] h = refl
of_rank-below rank n (a ∷ asks) (g ∷ got) h =
    filter-append (λ (e : Entry). e.rank == rank) (rank_entries n a g) (entries_from (n + 1) asks got)
    ∙ ap (λ l. l ++ of_rank rank (entries_from (n + 1) asks got)) (rank_entries-other rank n a g (λ k. omega arith))
    ∙ of_rank-below rank (n + 1) asks got (omega arith)

zip-nil : {X Y : Type 0} (xs : List X) → zip {K = X} {X = Y} xs [] ≡ []
zip-nil [] = refl
zip-nil (x ∷ xs) = refl

of_rank-at : (rank n k : ℕ) (asks : List (List Ask)) (got : List (List ℕ)) → rank ≡ n + k → of_rank rank (entries_from n asks got) ≡ rank_entries rank (get_or asks k []) (get_or got k [])
of_rank-at rank n k [] got h = refl
of_rank-at rank n k (a ∷ asks) [] h = ap (λ l. map (λ x. record { rank = rank; index = x.0; ask = x.1.0; got = x.1.1 }) (enumerate_from 0 l)) (sym (zip-nil (get_or (a ∷ asks) k [])))
of_rank-at rank n zero (a ∷ asks) (g ∷ got) h =
    let same : n ≡ rank = omega arith in
    filter-append (λ (e : Entry). e.rank == rank) (rank_entries n a g) (entries_from (n + 1) asks got)
    ∙ ap (λ l. of_rank rank (rank_entries n a g) ++ l) (of_rank-below rank (n + 1) asks got (omega arith))
    ∙ append-nil (of_rank rank (rank_entries n a g))
    ∙ ap (λ m. of_rank rank (rank_entries m a g)) same ∙ rank_entries-own rank a g
of_rank-at rank n (suc k) (a ∷ asks) (g ∷ got) h =
    filter-append (λ (e : Entry). e.rank == rank) (rank_entries n a g) (entries_from (n + 1) asks got)
    ∙ ap (λ l. l ++ of_rank rank (entries_from (n + 1) asks got)) (rank_entries-other rank n a g (λ e. omega arith))
    ∙ of_rank-at rank (n + 1) k asks got (omega arith)

-- a rank's entries are its asks with what they fetched
pub of_rank-entries : (rank : ℕ) (asks : List (List Ask)) (got : List (List ℕ)) → of_rank rank (entries asks got) ≡ rank_entries rank (get_or asks rank []) (get_or got rank [])
of_rank-entries rank asks got = of_rank-at rank 0 rank asks got (omega arith)

-- the same on one word
pub of_rank-on_word : (rank w : ℕ) (asks : List (List Ask)) (got : List (List ℕ)) → of_rank rank (on_word w (entries asks got)) ≡ on_word w (rank_entries rank (get_or asks rank []) (get_or got rank []))
of_rank-on_word rank w asks got = filter-swap (λ (e : Entry). e.rank == rank) (λ (e : Entry). e.ask.word == w) (entries asks got) ∙ ap (on_word w) (of_rank-entries rank asks got)

-- on a word each rank's entries stand in their own order
pub entries-own_order : (w : ℕ) (asks : List (List Ask)) (got : List (List ℕ)) → HasOwnOrder (on_word w (entries asks got))
entries-own_order w asks got rank =
    subst (λ l. IsRising (map (λ (e : Entry). e.index) l)) (sym (of_rank-on_word rank w asks got))
    (rising-filter (λ (e : Entry). e.index) (λ (e : Entry). e.ask.word == w) (rank_entries rank (get_or asks rank []) (get_or got rank [])) (numbered-rising rank 0 (get_or asks rank []) (get_or got rank [])))

-- each entry is what its turn names
pub entries-at : (asks : List (List Ask)) (got : List (List ℕ)) → AllByRecursion (λ (e : Entry). entry_at asks got (turn_of e) ≡ e) (entries asks got)
entries-at asks got = all_by_rank (λ (e : Entry). entry_at asks got (turn_of e) ≡ e) (entries asks got) (λ rank.
    subst (AllByRecursion (λ (e : Entry). entry_at asks got (turn_of e) ≡ e)) (sym (of_rank-entries rank asks got))
    (all_both (λ (e : Entry). e.rank ≡ rank) (λ (e : Entry). (e.ask ≡ get_or (get_or asks rank []) e.index (record { word = 0; op = Load; value = 0 })) × (e.got ≡ get_or (get_or got rank []) e.index 0)) (λ (e : Entry). entry_at asks got (turn_of e) ≡ e)
    (λ e same at. (λ i. record {
      rank = e.rank;
      index = e.index;
      ask = (ap (λ r. get_or (get_or asks r []) e.index (record { word = 0; op = Load; value = 0 })) same ∙ sym at.0) i;
      got = (ap (λ r. get_or (get_or got r []) e.index 0) same ∙ sym at.1) i;
    }))
    (rank_entries rank (get_or asks rank []) (get_or got rank [])) (numbered-rank rank 0 (get_or asks rank []) (get_or got rank []))
    (numbered-at rank 0 (get_or asks rank []) (get_or got rank []) (record { word = 0; op = Load; value = 0 }) (get_or asks rank []) (get_or got rank []) (λ k. ap (λ m. get_or (get_or asks rank []) m (record { word = 0; op = Load; value = 0 })) (omega arith)) (λ k. ap (λ m. get_or (get_or got rank []) m 0) (omega arith)))))

-- ---- the asks again

-- the asks of all ranks
entries-asks : (n : ℕ) (asks : List (List Ask)) (got : List (List ℕ)) → map length got ≡ map length asks → asks_of (entries_from n asks got) ≡ all_asks asks
entries-asks n [] got h = refl
entries-asks n (a ∷ asks) [] h = absurd (cc h)
entries-asks n (a ∷ asks) (g ∷ got) h =
    let same : length g ≡ length a = cc h in
    let rest : map length got ≡ map length asks = cc h in
    map-append (λ (e : Entry). e.ask) (rank_entries n a g) (entries_from (n + 1) asks got)
    ∙ (λ i. numbered-asks n 0 a g same i ++ entries-asks (n + 1) asks got rest i)

-- the asks on a word
pub asks_on-entries : (w : ℕ) (asks : List (List Ask)) (got : List (List ℕ)) → map length got ≡ map length asks → asks_of (on_word w (entries asks got)) ≡ asks_on w asks
asks_on-entries w asks got h = filter-mapped (λ (e : Entry). e.ask) (λ (a : Ask). a.word == w) (entries asks got) ∙ ap (filter (λ (a : Ask). a.word == w)) (entries-asks 0 asks got h)

-- lists of equal lengths have equal lengths at each rank
pub same_lengths : (rank : ℕ) (asks : List (List Ask)) (got : List (List ℕ)) → map length got ≡ map length asks → length (get_or got rank []) ≡ length (get_or asks rank [])
same_lengths rank [] [] h = refl
same_lengths rank [] (g ∷ got) h = absurd (cc h)
same_lengths rank (a ∷ asks) [] h = absurd (cc h)
same_lengths zero (a ∷ asks) (g ∷ got) h = cc h
same_lengths (suc rank) (a ∷ asks) (g ∷ got) h = let rest : map length got ≡ map length asks = cc h in same_lengths rank asks got rest

-- ---- turns

-- the places of a rank's turns
pub places_of-turns : (rank : ℕ) (es : List Entry) → places_of rank (map turn_of es) ≡ map (λ (e : Entry). e.index) (of_rank rank es)
places_of-turns rank es = ap (map (λ (t : Turn). t.index)) (sym (filter-mapped turn_of (λ (t : Turn). t.rank == rank) es)) ∙ map-map (λ (t : Turn). t.index) turn_of (of_rank rank es)

-- the places of a rank's entries on a word are those of its asks there
pub places_on-entries : (rank w : ℕ) (asks : List (List Ask)) (got : List (List ℕ)) → map length got ≡ map length asks → map (λ (e : Entry). e.index) (of_rank rank (on_word w (entries asks got))) ≡ places_on w (get_or asks rank [])
places_on-entries rank w asks got h = ap (map (λ (e : Entry). e.index)) (of_rank-on_word rank w asks got) ∙ numbered-places w rank 0 (get_or asks rank []) (get_or got rank []) (same_lengths rank asks got h)
