-- Entries and kinds as they are gone through, rank by rank.
use Rattle.std.proofs.Common.{◌≡◌, ℕ, zero, suc, ◌+◌, ◌<◌, ◌≤◌, List, [], ◌∷◌, ◌++◌, map, length, get_or, drop, refl, sym, ap, subst, ◌∙◌, arith, add-one, drop-cons, append_assoc}
use Rattle.std.specs.Prelude.{filter}
use Rattle.std.specs.List.{AllByRecursion}
use Rattle.std.proofs.lemmas.List.{map-append, append-nil, length-map}
use Rattle.std.proofs.lemmas.List.Elements.{filter-append}
use Rattle.plain_lists.proofs.Each.{all_at, all_in_flat_map, all_from, all_map, all_mapped}
use Rattle.plain_lists.proofs.Filters.{map_same}
use Rattle.sf_defs.specs.declared.Op.{Op}
use Rattle.sf_defs.specs.declared.Op.TheVariants.{Load, Sum, Min, Max, Or, And, Replace}
use Rattle.sf_defs.specs.declared.Ask.{Ask}
use Rattle.sf_defs.specs.Asks.{Entry}
use Rattle.sf_defs.specs.PrintedOrder.{kind_of}
use Rattle.sf_defs.specs.Rounds.{all_asks, asks_on, entries}
use Rattle.round_laws.proofs.Entries.{entries_from, numbered-asks}
use Rattle.sf_fabric.specs.declared.orders.place.Place.{Place}
use Rattle.sf_fabric.specs.orders.Places.{is_on, then_kind, place_of, place_in, places_of, entries_of}

-- ---- lists of ranks

-- as many lists of values as of asks
pub as_many : (asks : List (List Ask)) (got : List (List ℕ)) → map length got ≡ map length asks → length got ≡ length asks
as_many asks got fetched = sym (length-map got length) ∙ (ap length fetched ∙ length-map asks length)

-- what all asks have, each rank's have
pub rank_asks : (P : Ask → Type 0) (asks : List (List Ask)) (rank : ℕ) → AllByRecursion P (all_asks asks) → rank < length asks → AllByRecursion P (get_or asks rank [])
rank_asks P asks rank h lt = all_at (λ own. AllByRecursion P own) asks rank [] (all_in_flat_map P (λ own. own) asks h) lt

-- ---- entries

-- the entries of a rank and those of the ranks after it
entries-rank : (n : ℕ) (asks : List (List Ask)) (got : List (List ℕ)) → n < length asks → n < length got → entries_from n (drop n asks) (drop n got) ≡ entries_of n 0 (get_or asks n []) (get_or got n []) ++ entries_from (n + 1) (drop (n + 1) asks) (drop (n + 1) got)
entries-rank n asks got h k =
    (λ i. entries_from n (drop-cons asks n [] h i) (drop-cons got n [] k i))
    ∙ ap (λ m. entries_of n 0 (get_or asks n []) (get_or got n []) ++ entries_from (n + 1) (drop m asks) (drop m got)) (sym (add-one n))

pub entered-more : (f : Entry → Place) (before after : List Place) (n : ℕ) (asks : List (List Ask)) (got : List (List ℕ)) (whole : List Place) → n < length asks → n < length got
    → before ++ map f (entries_from n (drop n asks) (drop n got)) ≡ whole → after ≡ before ++ map f (entries_of n 0 (get_or asks n []) (get_or got n []))
    → after ++ map f (entries_from (n + 1) (drop (n + 1) asks) (drop (n + 1) got)) ≡ whole
entered-more f before after n asks got whole h k all is =
    ap (λ l. l ++ map f (entries_from (n + 1) (drop (n + 1) asks) (drop (n + 1) got))) is
    ∙ append_assoc before (map f (entries_of n 0 (get_or asks n []) (get_or got n []))) (map f (entries_from (n + 1) (drop (n + 1) asks) (drop (n + 1) got)))
    ∙ ap (λ l. before ++ l) (sym (map-append f (entries_of n 0 (get_or asks n []) (get_or got n [])) (entries_from (n + 1) (drop (n + 1) asks) (drop (n + 1) got))) ∙ ap (map f) (sym (entries-rank n asks got h k)))
    ∙ all

-- past the last rank nothing is left
pub entered-all : (f : Entry → Place) (all : List Place) (n : ℕ) (asks : List (List Ask)) (got : List (List ℕ)) → length asks ≤ n → all ++ map f (entries_from n (drop n asks) (drop n got)) ≡ map f (entries asks got) → all ≡ map f (entries asks got)
entered-all f all n asks got past h =
    let none : drop n asks ≡ [] = drop-all n asks past in
    sym (ap (λ l. all ++ map f (entries_from n l (drop n got))) none ∙ append-nil all) ∙ h
  where
    drop-all : (m : ℕ) (xs : List (List Ask)) → length xs ≤ m → drop m xs ≡ []
    drop-all zero [] k = refl
    drop-all (suc m) [] k = refl
    drop-all zero (x ∷ xs) k = absurd (omega arith)
    drop-all (suc m) (x ∷ xs) k = drop-all m xs (omega arith)

-- with the words' own kinds
pub places-kinds : (kinds : List Op) (words : List ℕ) (asks : List (List Ask)) (got : List (List ℕ)) → ((w : ℕ) → get_or kinds w Load ≡ kind_of (asks_on w asks)) → map (place_in kinds words) (entries asks got) ≡ places_of words asks got
unfolding places_of
places-kinds kinds words asks got h =
    map_same (place_in kinds words) (λ e. place_of (kind_of (asks_on e.ask.word asks)) (get_or words e.ask.word 0) e) (entries asks got)
    (all_from (λ e. place_in kinds words e ≡ place_of (kind_of (asks_on e.ask.word asks)) (get_or words e.ask.word 0) e) (λ e. ap (λ kind. place_of kind (get_or words e.ask.word 0) e) (h e.ask.word)) (entries asks got))

-- the asks of entries are the asks
entries-asks : (n : ℕ) (asks : List (List Ask)) (got : List (List ℕ)) → map length got ≡ map length asks → map (λ (e : Entry). e.ask) (entries_from n asks got) ≡ all_asks asks
entries-asks n [] got h = refl
entries-asks n (a ∷ asks) [] h = absurd (cc h)
entries-asks n (a ∷ asks) (g ∷ got) h =
    let same : length g ≡ length a = cc h in
    let rest : map length got ≡ map length asks = cc h in
    map-append (λ (e : Entry). e.ask) (entries_of n 0 a g) (entries_from (n + 1) asks got)
    ∙ (λ i. numbered-asks n 0 a g same i ++ entries-asks (n + 1) asks got rest i)

-- what all asks have, their places have
pub places-all : (P : ℕ → Type 0) (words : List ℕ) (asks : List (List Ask)) (got : List (List ℕ)) → map length got ≡ map length asks → AllByRecursion (λ (a : Ask). P a.word) (all_asks asks) → AllByRecursion (λ (p : Place). P p.word) (places_of words asks got)
unfolding places_of
places-all P words asks got fetched h =
    all_map (λ (p : Place). P p.word) (λ e. place_of (kind_of (asks_on e.ask.word asks)) (get_or words e.ask.word 0) e) (entries asks got)
    (all_mapped (λ (a : Ask). P a.word) (λ (e : Entry). e.ask) (entries asks got) (subst (AllByRecursion (λ (a : Ask). P a.word)) (sym (entries-asks 0 asks got fetched)) h))

-- ---- kinds

pub then_kind-nil : (kind : Op) → then_kind kind [] ≡ kind
then_kind-nil Load = refl
then_kind-nil Sum = refl
then_kind-nil Min = refl
then_kind-nil Max = refl
then_kind-nil Or = refl
then_kind-nil And = refl
then_kind-nil Replace = refl

pub asks_on-rank : (w n : ℕ) (asks : List (List Ask)) → n < length asks → asks_on w (drop n asks) ≡ filter (is_on w) (get_or asks n []) ++ asks_on w (drop (n + 1) asks)
asks_on-rank w n asks h =
    ap (asks_on w) (drop-cons asks n [] h) ∙ filter-append (is_on w) (get_or asks n []) (all_asks (drop (suc n) asks))
    ∙ ap (λ m. filter (is_on w) (get_or asks n []) ++ asks_on w (drop m asks)) (sym (add-one n))
