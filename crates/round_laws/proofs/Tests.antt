-- The test of a legal round answers true exactly for legal rounds.
use Rattle.std.proofs.Common.{◌≡◌, ◌⊎◌, ℕ, ◌+◌, ◌^◌, ◌<◌, ◌≤◌, Bool, true, false, cond, not, ◌&&◌, ◌||◌, ◌==◌, nat_lt, nat_le, List, [], ◌∷◌, ◌++◌, map, length, get_or, sum_by, count_by, Decides, refl, sym, ap, subst, ◌∙◌, ⊎_elim, arith}
use Rattle.std.specs.Prelude.{filter}
use Rattle.std.specs.List.{AllByRecursion, list_all}
use Rattle.std.proofs.lemmas.Bool.{false≢true, leb-true, le-leb, eqb-true, eq-eqb, ne_eqb, cases_lt}
use Rattle.std.proofs.lemmas.Bool.Decides.{Decides-eqb, Decides-ltb, Decides-and, Decides-or, Decides-like, Decides-below_and}
use Rattle.std.proofs.lemmas.List.{get_or_past}
use lib.Pointwise.{pointwise_decides, bytes_decides}
use Rattle.plain_lists.specs.Lists.{below, same_list}
use Rattle.plain_lists.proofs.Each.{all_weaker}
use Rattle.plain_lists.proofs.Filters.{filter_none}
use Rattle.sf_defs.specs.declared.Op.{Op}
use Rattle.sf_defs.specs.declared.Op.TheVariants.{Load, Sum, Min, Max, Or, And, Replace}
use Rattle.sf_defs.specs.declared.Ask.{Ask}
use Rattle.sf_defs.specs.declared.Turn.{Turn}
use Rattle.sf_defs.specs.Asks.{Entry, after_ask, Replays, does_replay}
use Rattle.sf_defs.specs.PrintedOrder.{is_load, kind_of}
use Rattle.sf_defs.specs.Rounds.{Round, same_op, added, SuitsWord, MeetsConditions, IsLegal, all_asks, asks_on, places_of, places_on, in_order, printed_turns, has_one_kind, has_one_replace, sums_do_fit, has_plain_loads, suits_word, meets_conditions, has_each_once, same_turn, is_printed, does_replay_on, is_legal}
use Rattle.round_laws.proofs.Word.{load-is}

-- ---- tests of lists and numbers

decides-leb : (m n : ℕ) → Decides (nat_le m n) (m ≤ n)
decides-leb m n = (leb-true m n, le-leb m n)

decides-all : {X : Type 0} (p : X → Bool) (P : X → Type 0) → ((x : X) → Decides (p x) (P x)) → (xs : List X) → Decides (list_all p xs) (AllByRecursion P xs)
decides-all p P each [] = (λ h. tt, λ h. refl)
decides-all p P each (x ∷ xs) = Decides-and (p x) (list_all p xs) (each x) (decides-all p P each xs)

all-push : (p : ℕ → Bool) (xs : List ℕ) (x : ℕ) → list_all p (xs ++ x ∷ []) ≡ (p x && list_all p xs)
all-push p [] x = refl
all-push p (y ∷ ys) x = ap (λ b. p y && b) (all-push p ys x) ∙ turn (p y) (p x) (list_all p ys)
  where
    turn : (a b c : Bool) → (a && (b && c)) ≡ (b && (a && c))
    turn true true c = refl
    turn true false c = refl
    turn false true c = refl
    turn false false c = refl

decides-below : (p : ℕ → Bool) (P : ℕ → Type 0) → ((k : ℕ) → Decides (p k) (P k)) → (n : ℕ) → Decides (list_all p (below n)) ((k : ℕ) → k < n → P k)
decides-below p P each n = Decides-below_and p P (λ m. list_all p (below m)) each refl (λ m. all-push p (below m) m) n

-- ---- operations

same-is : (a b : Op) → same_op a b ≡ true → a ≡ b
same-is Load Load h = refl
same-is Sum Sum h = refl
same-is Min Min h = refl
same-is Max Max h = refl
same-is Or Or h = refl
same-is And And h = refl
same-is Replace Replace h = refl
same-is a b h = absurd (false≢true h)

same-own : (a : Op) → same_op a a ≡ true
same-own Load = refl
same-own Sum = refl
same-own Min = refl
same-own Max = refl
same-own Or = refl
same-own And = refl
same-own Replace = refl

pub decides-same_op : (a b : Op) → Decides (same_op a b) (a ≡ b)
decides-same_op a b = (same-is a b, λ h. subst (λ o. same_op a o ≡ true) h (same-own a))

decides-load : (op : Op) → Decides (is_load op) (op ≡ Load)
decides-load op = (load-is op, λ h. ap is_load h)

-- ---- the conditions

decides-suits : (first : ℕ) (asks : List Ask) → Decides (suits_word first asks) (SuitsWord first asks)
decides-suits first asks =
    Decides-like (suits_word first asks) (λ h. record { one_kind = h.0; one_replace = h.1.0; sums_fit = h.1.1 }) (λ s. (s.one_kind, (s.one_replace, s.sums_fit)))
    (Decides-and (has_one_kind asks) _ (decides-all _ (λ (a : Ask). (a.op ≡ Load) ⊎ (a.op ≡ kind_of asks)) (λ a. Decides-or (is_load a.op) (same_op a.op (kind_of asks)) (decides-load a.op) (decides-same_op a.op (kind_of asks))) asks)
    (Decides-and (has_one_replace asks) (sums_do_fit first asks) (decides-leb (count_by (λ (a : Ask). same_op a.op Replace) asks) 1) (Decides-ltb (first + sum_by added asks) (2 ^ 64))))

decides-plain : (a : Ask) → Decides (not (is_load a.op) || (a.value == 0)) (a.op ≡ Load → a.value ≡ 0)
decides-plain a = go (is_load a.op) refl
  where
    go : (b : Bool) → is_load a.op ≡ b → Decides (not b || (a.value == 0)) (a.op ≡ Load → a.value ≡ 0)
    go true k = (λ h load. eqb-true a.value 0 h, λ h. eq-eqb a.value 0 (h (load-is a.op k)))
    go false k = (λ h load. absurd (false≢true (sym k ∙ ap is_load load)), λ h. refl)

pub decides-conditions : (before : List ℕ) (asks : List (List Ask)) → Decides (meets_conditions before asks) (MeetsConditions before asks)
decides-conditions before asks =
    Decides-like (meets_conditions before asks)
    (λ h. record { some_rank = h.0.0; few_ranks = h.0.1; few_words = h.1.0; few_asks = h.1.1.0; in_range = h.1.1.1.0; plain_loads = h.1.1.1.1.0; words_suit = h.1.1.1.1.1 })
    (λ c. ((c.some_rank, c.few_ranks), (c.few_words, (c.few_asks, (c.in_range, (c.plain_loads, c.words_suit))))))
    (Decides-and _ _ (Decides-and (nat_le 1 (length asks)) (nat_le (length asks) 64) (decides-leb 1 (length asks)) (decides-leb (length asks) 64))
    (Decides-and (nat_lt (length before) (2 ^ 32)) _ (Decides-ltb (length before) (2 ^ 32))
    (Decides-and _ _ (decides-all (λ (own : List Ask). nat_lt (length own) (2 ^ 32)) (λ own. length own < 2 ^ 32) (λ own. Decides-ltb (length own) (2 ^ 32)) asks)
    (Decides-and _ _ (decides-all (λ (a : Ask). nat_lt a.word (length before)) (λ a. a.word < length before) (λ a. Decides-ltb a.word (length before)) (all_asks asks))
    (Decides-and (has_plain_loads asks) _ (decides-all _ (λ (a : Ask). a.op ≡ Load → a.value ≡ 0) decides-plain (all_asks asks))
    (decides-below (λ w. suits_word (get_or before w 0) (asks_on w asks)) (λ w. SuitsWord (get_or before w 0) (asks_on w asks)) (λ w. decides-suits (get_or before w 0) (asks_on w asks)) (length before)))))))

-- ---- orders

-- where no turn is of a rank from n on, all are of ranks below n
low-ranks : (n : ℕ) (turns : List Turn) → ((rank : ℕ) → n ≤ rank → places_of rank turns ≡ []) → AllByRecursion (λ (t : Turn). t.rank < n) turns
low-ranks n [] h = tt
low-ranks n (t ∷ turns) h = (
  ⊎_elim (λ lt. lt) (λ ge. absurd (here (t.rank == t.rank) (eq-eqb t.rank t.rank refl) (h t.rank ge))) (cases_lt t.rank n),
  low-ranks n turns (λ rank ge. rest rank (t.rank == rank) (h rank ge)),
)
  where
    here : (b : Bool) → b ≡ true → map (λ (t : Turn). t.index) (cond b (t ∷ filter (λ (u : Turn). u.rank == t.rank) turns) (filter (λ (u : Turn). u.rank == t.rank) turns)) ≡ [] → ⊥
    here true k e = cc e
    here false k e = false≢true k

    rest : (rank : ℕ) (b : Bool) → map (λ (t : Turn). t.index) (cond b (t ∷ filter (λ (u : Turn). u.rank == rank) turns) (filter (λ (u : Turn). u.rank == rank) turns)) ≡ [] → places_of rank turns ≡ []
    rest rank true e = absurd (cc e)
    rest rank false e = e

no-place : (rank n : ℕ) (turns : List Turn) → AllByRecursion (λ (t : Turn). t.rank < n) turns → n ≤ rank → places_of rank turns ≡ []
no-place rank n turns h ge = ap (map (λ (t : Turn). t.index)) (filter_none (λ (t : Turn). t.rank == rank) turns (all_weaker (λ (t : Turn). t.rank < n) (λ (t : Turn). (t.rank == rank) ≡ false) (λ t lt. ne_eqb t.rank rank (λ e. omega arith)) turns h))

no-asks : (w rank : ℕ) (asks : List (List Ask)) → length asks ≤ rank → places_on w (get_or asks rank []) ≡ []
no-asks w rank asks ge = ap (places_on w) (get_or_past asks rank [] ge)

decides-each_once : (r : Round) (w : ℕ) → Decides (has_each_once r w) ((rank : ℕ) → places_of rank (get_or r.order w []) ≡ places_on w (get_or r.asks rank []))
decides-each_once r w =
    Decides-like (has_each_once r w)
    (λ h rank. ⊎_elim (λ lt. h.1 rank lt) (λ ge. no-place rank (length r.asks) (get_or r.order w []) h.0 ge ∙ sym (no-asks w rank r.asks ge)) (cases_lt rank (length r.asks)))
    (λ h. (low-ranks (length r.asks) (get_or r.order w []) (λ rank ge. h rank ∙ no-asks w rank r.asks ge), λ rank lt. h rank))
    (Decides-and _ _ (decides-all (λ (t : Turn). nat_lt t.rank (length r.asks)) (λ (t : Turn). t.rank < length r.asks) (λ t. Decides-ltb t.rank (length r.asks)) (get_or r.order w []))
    (decides-below (λ rank. same_list (places_of rank (get_or r.order w [])) (places_on w (get_or r.asks rank []))) (λ rank. places_of rank (get_or r.order w []) ≡ places_on w (get_or r.asks rank [])) (λ rank. bytes_decides (places_of rank (get_or r.order w [])) (places_on w (get_or r.asks rank []))) (length r.asks)))

decides-replays : (es : List Entry) (word last : ℕ) → Decides (does_replay word es last) (Replays word es last)
decides-replays [] word last = Decides-eqb word last
decides-replays (e ∷ es) word last = Decides-and (e.got == word) (does_replay (after_ask e.ask word) es last) (Decides-eqb e.got word) (decides-replays es (after_ask e.ask word) last)

decides-same_turn : (t u : Turn) → Decides (same_turn t u) (t ≡ u)
decides-same_turn t u =
    Decides-like (same_turn t u) (λ h. (λ i. record { rank = h.0 i; index = h.1 i })) (λ e. (ap (λ (v : Turn). v.rank) e, ap (λ (v : Turn). v.index) e))
    (Decides-and (t.rank == u.rank) (t.index == u.index) (Decides-eqb t.rank u.rank) (Decides-eqb t.index u.index))

-- ---- legal rounds

-- the test is exact
pub decides-legal : (r : Round) → Decides (is_legal r) (IsLegal r)
unfolding is_legal
decides-legal r =
    Decides-like (is_legal r)
    (λ h. record {
      conditions = h.0;
      fetched = h.1.0;
      lasts = h.1.1.0;
      orders = h.1.1.1.0;
      each_once = λ w rank within. (h.1.1.1.1 w within).0 rank;
      replays = λ w within. (h.1.1.1.1 w within).1.0;
      printed = λ w within. (h.1.1.1.1 w within).1.1;
    })
    (λ l. (l.conditions, (l.fetched, (l.lasts, (l.orders, λ w within. (λ rank. l.each_once w rank within, (l.replays w within, l.printed w within)))))))
    (Decides-and (meets_conditions r.before r.asks) _ (decides-conditions r.before r.asks)
    (Decides-and (same_list (map length r.got) (map length r.asks)) _ (bytes_decides (map length r.got) (map length r.asks))
    (Decides-and (length r.after == length r.before) _ (Decides-eqb (length r.after) (length r.before))
    (Decides-and (length r.order == length r.before) _ (Decides-eqb (length r.order) (length r.before))
    (decides-below (λ w. has_each_once r w && (does_replay_on r w && is_printed r w)) _
    (λ w. Decides-and (has_each_once r w) _ (decides-each_once r w)
    (Decides-and (does_replay_on r w) (is_printed r w) (decides-replays (in_order r w) (get_or r.before w 0) (get_or r.after w 0)) (pointwise_decides decides-same_turn (get_or r.order w []) (printed_turns r.before r.asks r.got w)))) (length r.before))))))
