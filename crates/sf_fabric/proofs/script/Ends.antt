-- Where walks end: each step keeps it, and from the start on it is what the script gives.
use Rattle.std.proofs.Common.{◌≡◌, ◌≢◌, ℕ, zero, suc, ◌+◌, ◌<◌, ◌≤◌, ◌==◌, nat_lt, List, [], ◌∷◌, ◌++◌, map, length, get_or, set, take, drop, refl, sym, ap, ◌∙◌, ⊎_elim, arith, drop-cons}
use Rattle.std.specs.Prelude.{flat_map}
use Rattle.std.specs.List.{enumerate_from}
use Rattle.std.proofs.lemmas.Bool.{lt-ltb, le-ltb, cases_lt, cond-true, cond-false, eq-eqb, ne_eqb}
use Rattle.std.proofs.lemmas.List.{length-map, length-set, length-append, get_or-set_same, get_or-set_other, get_or_past, set-get_or, append-nil, same_lists}
use Rattle.std.proofs.lemmas.List.FromFn.{length-enumerate_from}
use Rattle.plain_lists.specs.Lists.{below}
use Rattle.plain_lists.proofs.Below.{length-below, get_or-map-below}
use Rattle.sf_defs.specs.declared.Op.TheVariants.{Load}
use Rattle.sf_defs.specs.declared.Ask.{Ask}
use Rattle.sf_defs.specs.Asks.{Entry, of_rank}
use Rattle.sf_defs.specs.Script.{Event, queues, walk, words_after, fetching, words_after_all, fetched_by_rank}
use Rattle.round_laws.proofs.Shuffles.{same_rank}
use Rattle.sf_fabric.specs.script.Walks.{Standing, done, done_next, done_all, left, ending, start}

-- no ask, and no event
abbrev pub none : Ask
none = record { word = 0; op = Load; value = 0 }

nothing : Event
nothing = record { rank = 0; index = 0; ask = none }

drop-all : {X : Type 0} (n : ℕ) (xs : List X) → length xs ≤ n → drop n xs ≡ []
drop-all zero [] k = refl
drop-all (suc n) [] k = refl
drop-all zero (x ∷ xs) k = absurd (omega arith)
drop-all (suc n) (x ∷ xs) k = drop-all n xs (omega arith)

-- ---- queues

-- a rank's asks from place n on, as events
abbrev queue : ℕ → ℕ → List Ask → List Event
queue rank n asks = map (λ y. record { rank = rank; index = y.0; ask = y.1 }) (enumerate_from n asks)

queue-at : (rank n k : ℕ) (asks : List (List Ask)) → rank ≡ n + k → get_or (map (λ x. queue x.0 0 x.1) (enumerate_from n asks)) k [] ≡ queue rank 0 (get_or asks k [])
queue-at rank n k [] h = refl
queue-at rank n zero (a ∷ asks) h = let same : n ≡ rank = omega arith in ap (λ m. queue m 0 a) same
queue-at rank n (suc k) (a ∷ asks) h = queue-at rank (n + 1) k asks (omega arith)

own_queue : (rank : ℕ) (asks : List (List Ask)) → get_or (queues asks) rank [] ≡ queue rank 0 (get_or asks rank [])
own_queue rank asks = queue-at rank 0 rank asks (omega arith)

queue-event : (rank n g : ℕ) (asks : List Ask) (d : Event) → g < length asks → get_or (queue rank n asks) g d ≡ record { rank = rank; index = n + g; ask = get_or asks g none }
queue-event rank n g [] d h = absurd (omega arith)
queue-event rank n zero (a ∷ asks) d h = let at : n ≡ n + 0 = omega arith in ap (λ m. record { rank = rank; index = m; ask = a }) at
queue-event rank n (suc g) (a ∷ asks) d h = let at : n + 1 + g ≡ n + suc g = omega arith in queue-event rank (n + 1) g asks d (omega arith) ∙ ap (λ m. record { rank = rank; index = m; ask = get_or asks g none }) at

length-queue : (rank n : ℕ) (asks : List Ask) → length (queue rank n asks) ≡ length asks
length-queue rank n asks = length-map (enumerate_from n asks) _ ∙ length-enumerate_from n asks

-- ---- what is left

module _ (asks : List (List Ask)) (got : List (List ℕ)) where
  -- of each rank what its queue has past as many as have fetched
  left-at : (rank : ℕ) → get_or (left asks got) rank [] ≡ drop (length (get_or got rank [])) (queue rank 0 (get_or asks rank []))
  unfolding left
  left-at rank = ⊎_elim
      (λ lt. get_or-map-below (λ r. drop (length (get_or got r [])) (get_or (queues asks) r [])) (length asks) rank [] lt ∙ ap (drop (length (get_or got rank []))) (own_queue rank asks))
      (λ ge.
      get_or_past (left asks got) rank [] (let size = length-map (below (length asks)) (λ r. drop (length (get_or got r [])) (get_or (queues asks) r [])) in let all = length-below (length asks) in omega arith)
      ∙ sym (ap (λ l. drop (length (get_or got rank [])) (queue rank 0 l)) (get_or_past asks rank [] ge) ∙ drop-nothing (length (get_or got rank []))))
      (cases_lt rank (length asks))
    where
      drop-nothing : (n : ℕ) → drop {A = Event} n [] ≡ []
      drop-nothing zero = refl
      drop-nothing (suc n) = refl

  length-left : length (left asks got) ≡ length asks
  unfolding left
  length-left = length-map (below (length asks)) (λ r. drop (length (get_or got r [])) (get_or (queues asks) r [])) ∙ length-below (length asks)

  -- nothing, where all have fetched
  left-none : (rank : ℕ) → length (get_or asks rank []) ≤ length (get_or got rank []) → get_or (left asks got) rank [] ≡ []
  left-none rank h = left-at rank ∙ drop-all (length (get_or got rank [])) (queue rank 0 (get_or asks rank [])) (let size = length-queue rank 0 (get_or asks rank []) in omega arith)

  -- otherwise the next ask and what is left after it
  left-some : (rank : ℕ) → length (get_or got rank []) < length (get_or asks rank [])
      → get_or (left asks got) rank [] ≡ record { rank = rank; index = length (get_or got rank []); ask = get_or (get_or asks rank []) (length (get_or got rank [])) none } ∷ drop (length (get_or got rank []) + 1) (queue rank 0 (get_or asks rank []))
  left-some rank h =
      let size = length-queue rank 0 (get_or asks rank []) in
      let from_zero : 0 + length (get_or got rank []) ≡ length (get_or got rank []) = omega arith in
      let next : suc (length (get_or got rank [])) ≡ length (get_or got rank []) + 1 = omega arith in
      left-at rank ∙ drop-cons (queue rank 0 (get_or asks rank [])) (length (get_or got rank [])) nothing (omega arith)
      ∙ (λ i. (queue-event rank 0 (length (get_or got rank [])) (get_or asks rank []) nothing h ∙ ap (λ m. record { rank = rank; index = m; ask = get_or (get_or asks rank []) (length (get_or got rank [])) none }) from_zero) i ∷ drop (next i) (queue rank 0 (get_or asks rank [])))

defaults : (l : List (List Event)) (r : ℕ) (d : List Event) → r < length l → get_or l r d ≡ get_or l r []
defaults [] r d lt = absurd (omega arith)
defaults (x ∷ xs) zero d lt = refl
defaults (x ∷ xs) (suc r) d lt = defaults xs r d (omega arith)

-- one value more for a rank
abbrev pushed : List (List ℕ) → ℕ → ℕ → List (List ℕ)
pushed got rank v = set got rank (get_or got rank [] ++ v ∷ [])

-- what is left of a rank's queue after its next ask
abbrev rest_of : List (List Ask) → List (List ℕ) → ℕ → List Event
rest_of asks got rank = drop (length (get_or got rank []) + 1) (queue rank 0 (get_or asks rank []))

left-pushed : (asks : List (List Ask)) (got : List (List ℕ)) (rank v : ℕ) → rank < length got → rank < length asks → (r : ℕ) → get_or (left asks (pushed got rank v)) r [] ≡ get_or (set (left asks got) rank (rest_of asks got rank)) r []
left-pushed asks got rank v h k r =
    let longer : length (get_or (pushed got rank v) rank []) ≡ length (get_or got rank []) + 1 = ap length (get_or-set_same got rank (get_or got rank [] ++ v ∷ []) [] h) ∙ length-append (get_or got rank []) (v ∷ []) in
    left-at asks (pushed got rank v) r ∙ ⊎_elim
    (λ same.
    ap (λ m. drop (length (get_or (pushed got rank v) m [])) (queue m 0 (get_or asks m []))) (sym same)
    ∙ ap (λ n. drop n (queue rank 0 (get_or asks rank []))) longer
    ∙ sym (ap (λ m. get_or (set (left asks got) rank (rest_of asks got rank)) m []) (sym same) ∙ get_or-set_same (left asks got) rank (rest_of asks got rank) [] (let size = length-left asks got in omega arith)))
    (λ other.
    ap (λ (l : List ℕ). drop (length l) (queue r 0 (get_or asks r []))) (get_or-set_other got rank r (get_or got rank [] ++ v ∷ []) [] (λ e. other (sym e)))
    ∙ sym (left-at asks got r) ∙ sym (get_or-set_other (left asks got) rank r (rest_of asks got rank) [] (λ e. other (sym e))))
    (same_rank rank r)

-- after the next ask of a rank
left-done : (asks : List (List Ask)) (got : List (List ℕ)) (rank v : ℕ) → rank < length got → rank < length asks → left asks (pushed got rank v) ≡ set (left asks got) rank (rest_of asks got rank)
left-done asks got rank v h k =
    let sizes : length (left asks (pushed got rank v)) ≡ length (left asks got) = length-left asks (pushed got rank v) ∙ sym (length-left asks got) in
    let size = length-set (left asks got) rank (rest_of asks got rank) in
    same_lists (left asks (pushed got rank v)) (set (left asks got) rank (rest_of asks got rank)) (sizes ∙ sym size)
    (λ r d lt. defaults (left asks (pushed got rank v)) r d lt ∙ left-pushed asks got rank v h k r ∙ sym (defaults (set (left asks got) rank (rest_of asks got rank)) r d (omega arith)))

-- ---- steps

-- the next ask, where there is one
pub next-some : (asks : List (List Ask)) (s : Standing) (rank : ℕ) → length (get_or s.got rank []) < length (get_or asks rank []) → done_next asks s rank ≡ done s rank (get_or (get_or asks rank []) (length (get_or s.got rank [])) none)
unfolding done_next
next-some asks s rank h = cond-true (nat_lt (length (get_or s.got rank [])) (length (get_or asks rank []))) _ _ (lt-ltb (length (get_or s.got rank [])) (length (get_or asks rank [])) h)

pub next-none : (asks : List (List Ask)) (s : Standing) (rank : ℕ) → length (get_or asks rank []) ≤ length (get_or s.got rank []) → done_next asks s rank ≡ s
unfolding done_next
next-none asks s rank h = cond-false (nat_lt (length (get_or s.got rank [])) (length (get_or asks rank []))) _ _ (le-ltb (length (get_or s.got rank [])) (length (get_or asks rank [])) h)

rank_there : (asks : List (List Ask)) (rank n : ℕ) → n < length (get_or asks rank []) → rank < length asks
rank_there asks rank n h = ⊎_elim (λ lt. lt) (λ ge. absurd (let gone = ap (length {A = Ask}) (get_or_past asks rank [] ge) in omega arith)) (cases_lt rank (length asks))

-- a pick does the next ask of its rank
pub ending-pick : (asks : List (List Ask)) (s : Standing) (p : ℕ) (picks : List ℕ) → length s.got ≡ length asks → ending asks (done_next asks s p) picks ≡ ending asks s (p ∷ picks)
unfolding ending
ending-pick asks s p picks ranks = ⊎_elim
    (λ some.
    let there = rank_there asks p (length (get_or s.got p [])) some in
    let queue_is = left-some asks s.got p some in
    ap (λ t. done_all t (walk picks (left asks t.got))) (next-some asks s p some)
    ∙ ap (λ qs. done_all (done s p (get_or (get_or asks p []) (length (get_or s.got p [])) none)) (walk picks qs)) (left-done asks s.got p (get_or s.words (get_or (get_or asks p []) (length (get_or s.got p [])) none).word 0) (omega arith) there)
    ∙ sym (ap (λ q. done_all s (take 1 q ++ walk picks (set (left asks s.got) p (drop 1 q)))) queue_is))
    (λ none_left.
    let queue_is = left-none asks s.got p none_left in
    ap (λ t. done_all t (walk picks (left asks t.got))) (next-none asks s p none_left)
    ∙ sym (ap (λ q. done_all s (take 1 q ++ walk picks (set (left asks s.got) p (drop 1 q)))) queue_is
    ∙ ap (λ qs. done_all s (walk picks qs)) (ap (set (left asks s.got) p) (sym queue_is) ∙ set-get_or (left asks s.got) p [])))
    (cases_lt (length (get_or s.got p [])) (length (get_or asks p [])))

-- where the queues before are empty, what is left begins with the rank's first
first_left : (p : ℕ) (qs : List (List Event)) → ((k : ℕ) → k < p → get_or qs k [] ≡ []) → flat_map (λ q. q) qs ≡ take 1 (get_or qs p []) ++ flat_map (λ q. q) (set qs p (drop 1 (get_or qs p [])))
first_left p [] h = refl
first_left zero (q ∷ qs) h = go q
  where
    go : (l : List Event) → l ++ flat_map (λ x. x) qs ≡ take 1 l ++ (drop 1 l ++ flat_map (λ x. x) qs)
    go [] = refl
    go (e ∷ es) = refl
first_left (suc p) (q ∷ qs) h =
    let none_here : q ≡ [] = h 0 (omega arith) in
    ap (λ l. l ++ flat_map (λ x. x) qs) none_here ∙ first_left p qs (λ k lt. h (suc k) (omega arith))
    ∙ ap (λ l. take 1 (get_or qs p []) ++ (l ++ flat_map (λ x. x) (set qs p (drop 1 (get_or qs p []))))) (sym none_here)

-- at the end the least rank with asks left does its next one
pub ending-least : (asks : List (List Ask)) (s : Standing) (p : ℕ) → length s.got ≡ length asks → ((k : ℕ) → k < p → length (get_or asks k []) ≤ length (get_or s.got k [])) → ending asks (done_next asks s p) [] ≡ ending asks s []
unfolding ending
ending-least asks s p ranks before = ending-pick asks s p [] ranks ∙ ap (done_all s) (sym (first_left p (left asks s.got) (λ k lt. left-none asks s.got k (before k lt))))

all_empty : (qs : List (List Event)) → ((k : ℕ) → get_or qs k [] ≡ []) → flat_map (λ q. q) qs ≡ []
all_empty [] h = refl
all_empty (q ∷ qs) h = ap (λ l. l ++ flat_map (λ x. x) qs) (h 0) ∙ all_empty qs (λ k. h (suc k))

-- where nothing is left it is the end
pub ending-end : (asks : List (List Ask)) (s : Standing) → ((k : ℕ) → k < length asks → length (get_or asks k []) ≤ length (get_or s.got k [])) → ending asks s [] ≡ s
unfolding ending
ending-end asks s h = ap (done_all s) (all_empty (left asks s.got) (λ k. ⊎_elim (λ lt. left-none asks s.got k (h k lt)) (λ ge. get_or_past (left asks s.got) k [] (let size = length-left asks s.got in omega arith)) (cases_lt k (length asks))))

-- what a step keeps
pub next-ranks : (asks : List (List Ask)) (s : Standing) (p : ℕ) → length (done_next asks s p).got ≡ length s.got
next-ranks asks s p = ⊎_elim
    (λ some. ap (λ (t : Standing). length t.got) (next-some asks s p some) ∙ length-set s.got p _)
    (λ none_left. ap (λ (t : Standing). length t.got) (next-none asks s p none_left))
    (cases_lt (length (get_or s.got p [])) (length (get_or asks p [])))

pub next-words : (asks : List (List Ask)) (s : Standing) (p : ℕ) → length (done_next asks s p).words ≡ length s.words
next-words asks s p = ⊎_elim
    (λ some. ap (λ (t : Standing). length t.words) (next-some asks s p some) ∙ length-set s.words _ _)
    (λ none_left. ap (λ (t : Standing). length t.words) (next-none asks s p none_left))
    (cases_lt (length (get_or s.got p [])) (length (get_or asks p [])))

-- the other ranks keep theirs
pub next-others : (asks : List (List Ask)) (s : Standing) (p k : ℕ) → k ≢ p → get_or (done_next asks s p).got k [] ≡ get_or s.got k []
next-others asks s p k other = ⊎_elim
    (λ some. ap (λ (t : Standing). get_or t.got k []) (next-some asks s p some) ∙ get_or-set_other s.got p k _ [] other)
    (λ none_left. ap (λ (t : Standing). get_or t.got k []) (next-none asks s p none_left))
    (cases_lt (length (get_or s.got p [])) (length (get_or asks p [])))

-- and the rank has one more
pub next-own : (asks : List (List Ask)) (s : Standing) (p : ℕ) → p < length s.got → length (get_or s.got p []) < length (get_or asks p []) → length (get_or (done_next asks s p).got p []) ≡ length (get_or s.got p []) + 1
next-own asks s p there some = ap (λ (t : Standing). length (get_or t.got p [])) (next-some asks s p some) ∙ ap length (get_or-set_same s.got p _ [] there) ∙ length-append (get_or s.got p []) _

-- ---- from the start

done_all-words : (s : Standing) (es : List Event) → (done_all s es).words ≡ words_after_all s.words es
done_all-words s [] = refl
done_all-words s (e ∷ es) = done_all-words (done s e.rank e.ask) es

done_all-ranks : (s : Standing) (es : List Event) → length (done_all s es).got ≡ length s.got
done_all-ranks s [] = refl
done_all-ranks s (e ∷ es) = done_all-ranks (done s e.rank e.ask) es ∙ length-set s.got e.rank _

-- what each rank fetched
fetched_of : ℕ → List ℕ → List Event → List ℕ
fetched_of rank words es = map (λ (e : Entry). e.got) (of_rank rank (fetching words es))

done_all-got : (rank : ℕ) (s : Standing) (es : List Event) → rank < length s.got → get_or (done_all s es).got rank [] ≡ get_or s.got rank [] ++ fetched_of rank s.words es
unfolding fetched_of
done_all-got rank s [] h = sym (append-nil (get_or s.got rank []))
done_all-got rank s (e ∷ es) h =
    let rest = done_all-got rank (done s e.rank e.ask) es (let size : length (done s e.rank e.ask).got ≡ length s.got = length-set s.got e.rank (get_or s.got e.rank [] ++ get_or s.words e.ask.word 0 ∷ []) in omega arith) in
    rest ∙ ⊎_elim
    (λ same.
    ap (λ l. l ++ fetched_of rank (words_after s.words e) es) (ap (λ r. get_or (done s e.rank e.ask).got r []) (sym same) ∙ get_or-set_same s.got e.rank (get_or s.got e.rank [] ++ get_or s.words e.ask.word 0 ∷ []) [] (let at : e.rank ≡ rank = same in omega arith) ∙ ap (λ r. get_or s.got r [] ++ get_or s.words e.ask.word 0 ∷ []) same)
    ∙ append_one (get_or s.got rank []) (get_or s.words e.ask.word 0) (fetched_of rank (words_after s.words e) es)
    ∙ ap (λ l. get_or s.got rank [] ++ l) (sym (ap (map (λ (x : Entry). x.got)) (cond-true (e.rank == rank) _ _ (eq-eqb e.rank rank same)))))
    (λ other.
    ap (λ l. l ++ fetched_of rank (words_after s.words e) es) (get_or-set_other s.got e.rank rank (get_or s.got e.rank [] ++ get_or s.words e.ask.word 0 ∷ []) [] (λ k. other (sym k)))
    ∙ ap (λ l. get_or s.got rank [] ++ l) (sym (ap (map (λ (x : Entry). x.got)) (cond-false (e.rank == rank) _ _ (ne_eqb e.rank rank other)))))
    (same_rank e.rank rank)
  where
    append_one : (xs : List ℕ) (v : ℕ) (ys : List ℕ) → (xs ++ v ∷ []) ++ ys ≡ xs ++ v ∷ ys
    append_one [] v ys = refl
    append_one (x ∷ xs) v ys = ap (λ l. x ∷ l) (append_one xs v ys)

-- no values
abbrev pub empty : List ℕ
empty = []

empty-at : (asks : List (List Ask)) (rank : ℕ) → get_or (map (λ (own : List Ask). empty) asks) rank [] ≡ []
empty-at [] rank = refl
empty-at (a ∷ asks) zero = refl
empty-at (a ∷ asks) (suc rank) = empty-at asks rank

left-start : (asks : List (List Ask)) (words : List ℕ) → left asks (start asks words).got ≡ queues asks
left-start asks words =
    same_lists (left asks (start asks words).got) (queues asks) (length-left asks (start asks words).got ∙ sym (length-map (enumerate_from 0 asks) _ ∙ length-enumerate_from 0 asks))
    (λ r d lt. defaults (left asks (start asks words).got) r d lt ∙ left-at asks (start asks words).got r
    ∙ ap (λ (l : List ℕ). drop (length l) (queue r 0 (get_or asks r []))) (empty-at asks r) ∙ drop_none (queue r 0 (get_or asks r [])) ∙ sym (own_queue r asks)
    ∙ sym (defaults (queues asks) r d (let size = length-left asks (start asks words).got in let all = length-map (enumerate_from 0 asks) (λ x. queue x.0 0 x.1) in let count = length-enumerate_from 0 asks in omega arith)))
  where
    drop_none : (l : List Event) → drop 0 l ≡ l
    drop_none l = refl

module _ (asks : List (List Ask)) (words : List ℕ) (picks : List ℕ) where
  -- the script's words
  pub ending-words : (ending asks (start asks words) picks).words ≡ words_after_all words (walk picks (queues asks))
  unfolding ending
  ending-words = done_all-words (start asks words) (walk picks (left asks (start asks words).got)) ∙ ap (λ qs. words_after_all words (walk picks qs)) (left-start asks words)

  -- and what its asks fetched
  pub ending-got : (ending asks (start asks words) picks).got ≡ fetched_by_rank (length asks) (fetching words (walk picks (queues asks)))
  unfolding ending fetched_of
  ending-got =
      ap (λ qs. (done_all (start asks words) (walk picks qs)).got) (left-start asks words)
      ∙ same_lists (done_all (start asks words) (walk picks (queues asks))).got (fetched_by_rank (length asks) (fetching words (walk picks (queues asks))))
      (count ∙ sym (length-map (below (length asks)) (λ rank. map (λ (e : Entry). e.got) (of_rank rank (fetching words (walk picks (queues asks))))) ∙ length-below (length asks)))
      (λ r d lt. default_of (done_all (start asks words) (walk picks (queues asks))).got r d lt
      ∙ done_all-got r (start asks words) (walk picks (queues asks)) (let all = count in let size = length-map asks (λ (own : List Ask). empty) in omega arith)
      ∙ ap (λ l. l ++ fetched_of r words (walk picks (queues asks))) (empty-at asks r)
      ∙ sym (get_or-map-below (λ rank. map (λ (e : Entry). e.got) (of_rank rank (fetching words (walk picks (queues asks))))) (length asks) r d (let all = count in omega arith)))
    where
      count : length (done_all (start asks words) (walk picks (queues asks))).got ≡ length asks
      count = done_all-ranks (start asks words) (walk picks (queues asks)) ∙ length-map asks (λ (own : List Ask). empty)

      default_of : (l : List (List ℕ)) (r : ℕ) (d : List ℕ) → r < length l → get_or l r d ≡ get_or l r []
      default_of [] r d lt = absurd (omega arith)
      default_of (x ∷ xs) zero d lt = refl
      default_of (x ∷ xs) (suc r) d lt = default_of xs r d (omega arith)
