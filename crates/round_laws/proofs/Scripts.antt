-- Rounds that do their asks one at a time, each rank's own in its order, are legal; scripted rounds are such.
use Rattle.std.proofs.Common.{◌≡◌, ◌≢◌, ℕ, zero, suc, ◌+◌, ◌<◌, Bool, true, false, cond, ◌==◌, List, [], ◌∷◌, ◌++◌, map, length, get_or, set, take, drop, refl, sym, ap, subst, ◌∙◌, ⊎_elim, arith}
use Rattle.std.specs.Prelude.{filter, flat_map}
use Rattle.std.specs.List.{AllByRecursion, enumerate_from}
use Rattle.std.proofs.lemmas.Bool.{eqb-true, eq-eqb, ne_eqb, cases_lt, both_ways}
use Rattle.std.proofs.lemmas.List.{length-map, length-set, get_or-set_same, get_or-set_other, get_or_past, append-nil, take-append-drop}
use Rattle.std.proofs.lemmas.List.Elements.{filter-append}
use Rattle.std.proofs.lemmas.List.FromFn.{length-enumerate_from}
use Rattle.plain_lists.specs.Lists.{below}
use Rattle.plain_lists.proofs.Each.{all_weaker}
use Rattle.plain_lists.proofs.Below.{length-below, get_or-map-below, map-below-length}
use Rattle.plain_lists.proofs.Filters.{filter-swap, filter-mapped, filter_whole, filter_none}
use Rattle.std.proofs.lemmas.Simd.{map-map}
use Rattle.sf_defs.specs.declared.Tag.{Tag}
use Rattle.sf_defs.specs.declared.Ask.{Ask}
use Rattle.sf_defs.specs.Asks.{Entry, after_ask, Replays, of_rank, on_word, IsOrderOf}
use Rattle.sf_defs.specs.Rounds.{MeetsConditions, IsLegal, entries, rank_entries, printed_turns}
use Rattle.sf_defs.specs.Script.{Event, queues, walk, words_after, fetching, words_after_all, fetched_by_rank, round_of, scripted}
use Rattle.round_laws.specs.ReplayingOrders.{HasReplayingOrders, IsScheduleOf}
use Rattle.round_laws.proofs.Shuffles.{same_rank}
use Rattle.round_laws.proofs.Entries.{numbered, of_rank-entries}
use Rattle.round_laws.proofs.Legal.{legal-from-orders}

-- the events of one rank
abbrev events_of : ℕ → List Event → List Event
events_of rank es = filter (λ (e : Event). e.rank == rank) es

-- a rank's asks from place n on, as events
abbrev queue : ℕ → ℕ → List Ask → List Event
queue rank n asks = map (λ y. record { rank = rank; index = y.0; ask = y.1 }) (enumerate_from n asks)

-- ---- walking the picks

-- a rank's queue
queue-at : (rank n k : ℕ) (asks : List (List Ask)) → rank ≡ n + k → get_or (map (λ x. queue x.0 0 x.1) (enumerate_from n asks)) k [] ≡ queue rank 0 (get_or asks k [])
queue-at rank n k [] h = refl
queue-at rank n zero (a ∷ asks) h = let same : n ≡ rank = omega arith in ap (λ m. queue m 0 a) same
queue-at rank n (suc k) (a ∷ asks) h = queue-at rank (n + 1) k asks (omega arith)

queue-rank : (rank n : ℕ) (asks : List Ask) → AllByRecursion (λ (e : Event). e.rank ≡ rank) (queue rank n asks)
queue-rank rank n [] = tt
queue-rank rank n (a ∷ asks) = (refl, queue-rank rank (n + 1) asks)

events-own : (rank : ℕ) (es : List Event) → AllByRecursion (λ (e : Event). e.rank ≡ rank) es → events_of rank es ≡ es
events-own rank es h = filter_whole (λ (e : Event). e.rank == rank) es (all_weaker (λ (e : Event). e.rank ≡ rank) (λ (e : Event). (e.rank == rank) ≡ true) (λ e k. eq-eqb e.rank rank k) es h)

events-other : (rank other : ℕ) (es : List Event) → other ≢ rank → AllByRecursion (λ (e : Event). e.rank ≡ other) es → events_of rank es ≡ []
events-other rank other es apart h = filter_none (λ (e : Event). e.rank == rank) es (all_weaker (λ (e : Event). e.rank ≡ other) (λ (e : Event). (e.rank == rank) ≡ false) (λ e k. ne_eqb e.rank rank (λ m. apart (sym k ∙ m))) es h)

-- queue k has events of rank n + k alone
abbrev AreQueues : ℕ → List (List Event) → Type 0
AreQueues n qs = (k : ℕ) → AllByRecursion (λ (e : Event). e.rank ≡ n + k) (get_or qs k [])

next-queues : (n : ℕ) (q : List Event) (qs : List (List Event)) → AreQueues n (q ∷ qs) → AreQueues (n + 1) qs
next-queues n q qs own k = subst (λ m. AllByRecursion (λ (e : Event). e.rank ≡ m) (get_or qs k [])) (omega arith) (own (suc k))

joined-below : (rank n : ℕ) (qs : List (List Event)) → AreQueues n qs → rank < n → events_of rank (flat_map (λ q. q) qs) ≡ []
joined-below rank n [] own h = refl
joined-below rank n (q ∷ qs) own h =
    filter-append (λ (e : Event). e.rank == rank) q (flat_map (λ q. q) qs)
    ∙ ap (λ l. l ++ events_of rank (flat_map (λ q. q) qs)) (events-other rank (n + 0) q (λ k. omega arith) (own 0))
    ∙ joined-below rank (n + 1) qs (next-queues n q qs own) (omega arith)

joined-at : (rank n k : ℕ) (qs : List (List Event)) → AreQueues n qs → rank ≡ n + k → events_of rank (flat_map (λ q. q) qs) ≡ get_or qs k []
joined-at rank n k [] own h = refl
joined-at rank n zero (q ∷ qs) own h =
    let same : n + 0 ≡ rank = omega arith in
    filter-append (λ (e : Event). e.rank == rank) q (flat_map (λ q. q) qs)
    ∙ ap (λ l. events_of rank q ++ l) (joined-below rank (n + 1) qs (next-queues n q qs own) (omega arith))
    ∙ append-nil (events_of rank q)
    ∙ events-own rank q (subst (λ m. AllByRecursion (λ (e : Event). e.rank ≡ m) q) same (own 0))
joined-at rank n (suc k) (q ∷ qs) own h =
    filter-append (λ (e : Event). e.rank == rank) q (flat_map (λ q. q) qs)
    ∙ ap (λ l. l ++ events_of rank (flat_map (λ q. q) qs)) (events-other rank (n + 0) q (λ e. omega arith) (own 0))
    ∙ joined-at rank (n + 1) k qs (next-queues n q qs own) (omega arith)

-- a queue after its pick
rest-of_pick : (p : ℕ) (qs : List (List Event)) → get_or (set qs p (drop 1 (get_or qs p []))) p [] ≡ drop 1 (get_or qs p [])
rest-of_pick p [] = refl
rest-of_pick zero (q ∷ qs) = refl
rest-of_pick (suc p) (q ∷ qs) = rest-of_pick p qs

all-drop_one : (P : Event → Type 0) (es : List Event) → AllByRecursion P es → AllByRecursion P (drop 1 es)
all-drop_one P [] h = tt
all-drop_one P (e ∷ es) h = h.1

all-take_one : (P : Event → Type 0) (es : List Event) → AllByRecursion P es → AllByRecursion P (take 1 es)
all-take_one P [] h = tt
all-take_one P (e ∷ es) h = (h.0, tt)

-- a walk has each queue's events in the queue's order
walk-queues : (picks : List ℕ) (qs : List (List Event)) (rank : ℕ) → AreQueues 0 qs → events_of rank (walk picks qs) ≡ get_or qs rank []
walk-queues [] qs rank own = joined-at rank 0 rank qs own (omega arith)
walk-queues (p ∷ picks) qs rank own =
    filter-append (λ (e : Event). e.rank == rank) (take 1 (get_or qs p [])) (walk picks (set qs p (drop 1 (get_or qs p []))))
    ∙ ap (λ l. events_of rank (take 1 (get_or qs p [])) ++ l) (walk-queues picks (set qs p (drop 1 (get_or qs p []))) rank still)
    ∙ ⊎_elim
    (λ same.
    let first : events_of rank (take 1 (get_or qs p [])) ≡ take 1 (get_or qs p []) = events-own rank (take 1 (get_or qs p [])) (subst (λ m. AllByRecursion (λ (e : Event). e.rank ≡ m) (take 1 (get_or qs p []))) same (all-take_one _ (get_or qs p []) here)) in
    ap (λ l. l ++ get_or (set qs p (drop 1 (get_or qs p []))) rank []) first
    ∙ ap (λ m. take 1 (get_or qs p []) ++ get_or (set qs p (drop 1 (get_or qs p []))) m []) (sym same)
    ∙ ap (λ l. take 1 (get_or qs p []) ++ l) (rest-of_pick p qs)
    ∙ take-append-drop 1 (get_or qs p [])
    ∙ ap (λ m. get_or qs m []) same)
    (λ other.
    ap (λ l. l ++ get_or (set qs p (drop 1 (get_or qs p []))) rank []) (events-other rank p (take 1 (get_or qs p [])) other (all-take_one _ (get_or qs p []) here))
    ∙ get_or-set_other qs p rank (drop 1 (get_or qs p [])) [] (λ k. other (sym k)))
    (same_rank p rank)
  where
    here : AllByRecursion (λ (e : Event). e.rank ≡ p) (get_or qs p [])
    here = subst (λ m. AllByRecursion (λ (e : Event). e.rank ≡ m) (get_or qs p [])) (omega arith) (own p)

    still : AreQueues 0 (set qs p (drop 1 (get_or qs p [])))
    still k = ⊎_elim
        (λ same. subst (λ m. AllByRecursion (λ (e : Event). e.rank ≡ 0 + m) (get_or (set qs p (drop 1 (get_or qs p []))) m [])) same (subst (AllByRecursion (λ (e : Event). e.rank ≡ 0 + p)) (sym (rest-of_pick p qs)) (all-drop_one _ (get_or qs p []) (own p))))
        (λ other. subst (AllByRecursion (λ (e : Event). e.rank ≡ 0 + k)) (sym (get_or-set_other qs p k (drop 1 (get_or qs p [])) [] (λ e. other (sym e)))) (own k))
        (same_rank p k)

-- the walk of any picks does each ask once, each rank's own in its order
pub walk-schedule : (picks : List ℕ) (asks : List (List Ask)) → IsScheduleOf asks (walk picks (queues asks))
walk-schedule picks asks rank = walk-queues picks (queues asks) rank (λ k. subst (AllByRecursion (λ (e : Event). e.rank ≡ 0 + k)) (sym (queue-at (0 + k) 0 k asks refl)) (queue-rank (0 + k) 0 (get_or asks k [])))

-- ---- what events fetch

abbrev event_of : Entry → Event
event_of e = record { rank = e.rank; index = e.index; ask = e.ask }

fetching-events : (words : List ℕ) (es : List Event) → map event_of (fetching words es) ≡ es
fetching-events words [] = refl
fetching-events words (e ∷ es) = ap (λ l. e ∷ l) (fetching-events (words_after words e) es)

-- entries of a rank's events are its asks with what they fetched
refetched : (rank n : ℕ) (asks : List Ask) (es : List Entry) → map event_of es ≡ queue rank n asks → numbered rank n asks (map (λ (e : Entry). e.got) es) ≡ es
refetched rank n [] [] h = refl
refetched rank n [] (e ∷ es) h = absurd (cc h)
refetched rank n (a ∷ asks) [] h = absurd (cc h)
refetched rank n (a ∷ asks) (e ∷ es) h =
    let head : record { rank = rank; index = n; ask = a } ≡ event_of e = cc h in
    let rest : map event_of es ≡ queue rank (n + 1) asks = cc h in
    (λ i. record { rank = (head i).rank; index = (head i).index; ask = (head i).ask; got = e.got } ∷ refetched rank (n + 1) asks es rest i)

-- done one after another, the entries on a word replay
fetching-replays : (events : List Event) (words : List ℕ) (w : ℕ) → w < length words → Replays (get_or words w 0) (on_word w (fetching words events)) (get_or (words_after_all words events) w 0)
fetching-replays [] words w h = refl
fetching-replays (e ∷ es) words w h = go (e.ask.word == w) refl (fetching-replays es (words_after words e) w (subst (λ n. w < n) (sym (length-set words e.ask.word _)) h))
  where
    rest : List Entry
    rest = on_word w (fetching (words_after words e) es)

    last : ℕ
    last = get_or (words_after_all (words_after words e) es) w 0

    go : (b : Bool) → (e.ask.word == w) ≡ b → Replays (get_or (words_after words e) w 0) rest last
        → Replays (get_or words w 0) (cond b (record { rank = e.rank; index = e.index; ask = e.ask; got = get_or words e.ask.word 0 } ∷ rest) rest) last
    go true k r =
        let same : e.ask.word ≡ w = eqb-true e.ask.word w k in
        let within : e.ask.word < length words = omega (arith, same) in (
          ap (λ m. get_or words m 0) same,
          subst (λ n. Replays n rest last) (ap (λ m. get_or (words_after words e) m 0) (sym same) ∙ get_or-set_same words e.ask.word (after_ask e.ask (get_or words e.ask.word 0)) 0 within ∙ ap (λ m. after_ask e.ask (get_or words m 0)) same) r,
        )
    go false k r = subst (λ n. Replays n rest last) (get_or-set_other words e.ask.word w _ 0 (λ m. both_ways (e.ask.word == w) k (eq-eqb e.ask.word w (sym m)))) r

length-words_after_all : (words : List ℕ) (es : List Event) → length (words_after_all words es) ≡ length words
length-words_after_all words [] = refl
length-words_after_all words (e ∷ es) = length-words_after_all (words_after words e) es ∙ length-set words e.ask.word _

-- ---- their rounds

module _ (words : List ℕ) (asks : List (List Ask)) (events : List Event) (schedule : IsScheduleOf asks events) where
  -- a rank's entries, as events
  own_events : (rank : ℕ) → map event_of (of_rank rank (fetching words events)) ≡ queue rank 0 (get_or asks rank [])
  own_events rank = filter-mapped event_of (λ (e : Event). e.rank == rank) (fetching words events) ∙ ap (events_of rank) (fetching-events words events) ∙ schedule rank ∙ queue-at rank 0 rank asks (omega arith)

  -- what each rank fetched, in its asks' order
  own_entries : (rank : ℕ) → rank_entries rank (get_or asks rank []) (map (λ (e : Entry). e.got) (of_rank rank (fetching words events))) ≡ of_rank rank (fetching words events)
  own_entries rank = refetched rank 0 (get_or asks rank []) (of_rank rank (fetching words events)) (own_events rank)

  own_length : (rank : ℕ) → length (map (λ (e : Entry). e.got) (of_rank rank (fetching words events))) ≡ length (get_or asks rank [])
  own_length rank =
      length-map (of_rank rank (fetching words events)) (λ (e : Entry). e.got) ∙ sym (length-map (of_rank rank (fetching words events)) event_of) ∙ ap length (own_events rank)
      ∙ length-map (enumerate_from 0 (get_or asks rank [])) _ ∙ length-enumerate_from 0 (get_or asks rank [])

  -- as many fetched values as asks
  fetched_lengths : map length (fetched_by_rank (length asks) (fetching words events)) ≡ map length asks
  fetched_lengths = map-map length (λ rank. map (λ (e : Entry). e.got) (of_rank rank (fetching words events))) (below (length asks)) ∙ map-below-length _ length asks [] (λ k h. own_length k)

  -- the events are an order of the round's entries
  events_order : IsOrderOf (entries asks (fetched_by_rank (length asks) (fetching words events))) (fetching words events)
  events_order rank = sym (of_rank-entries rank asks (fetched_by_rank (length asks) (fetching words events)) ∙ ⊎_elim
      (λ lt. ap (rank_entries rank (get_or asks rank [])) (get_or-map-below (λ r. map (λ (e : Entry). e.got) (of_rank r (fetching words events))) (length asks) rank [] lt) ∙ own_entries rank)
      (λ ge. ap (λ l. rank_entries rank l (get_or (fetched_by_rank (length asks) (fetching words events)) rank [])) (get_or_past asks rank [] ge) ∙ ap (λ l. rank_entries rank l (map (λ (e : Entry). e.got) (of_rank rank (fetching words events)))) (sym (get_or_past asks rank [] ge)) ∙ own_entries rank)
      (cases_lt rank (length asks)))

  -- and so on each word
  replaying : (tag : Tag) → HasReplayingOrders (round_of tag words asks events)
  replaying tag w h = (
    on_word w (fetching words events),
    λ rank. filter-swap (λ (e : Entry). e.rank == rank) (λ (e : Entry). e.ask.word == w) (fetching words events) ∙ ap (on_word w) (events_order rank) ∙ filter-swap (λ (e : Entry). e.ask.word == w) (λ (e : Entry). e.rank == rank) (entries asks (fetched_by_rank (length asks) (fetching words events))),
    fetching-replays events words w h,
  )

  -- a round whose asks are done one after another is legal
  pub scheduled-legal : (tag : Tag) → MeetsConditions words asks → IsLegal (round_of tag words asks events)
  scheduled-legal tag conditions = legal-from-orders (round_of tag words asks events) (record {
    conditions = conditions;
    fetched = fetched_lengths;
    lasts = length-words_after_all words events;
    orders = length-map (below (length words)) _ ∙ length-below (length words);
    printed = λ w h. get_or-map-below (printed_turns words asks (fetched_by_rank (length asks) (fetching words events))) (length words) w [] h;
  }) (replaying tag)

-- a scripted round is legal
pub scripted-legal : (tag : Tag) (words : List ℕ) (asks : List (List Ask)) (picks : List ℕ) → MeetsConditions words asks → IsLegal (scripted tag words asks picks)
unfolding scripted
scripted-legal tag words asks picks conditions = scheduled-legal words asks (walk picks (queues asks)) (walk-schedule picks asks) tag conditions
