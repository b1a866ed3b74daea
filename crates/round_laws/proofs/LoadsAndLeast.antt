-- What Loads fetch, and what Min leaves.
use Rattle.std.proofs.Common.{◌≡◌, ◌⊎◌, ℕ, ◌<◌, ◌≤◌, min, List, [], ◌∷◌, length, get_or, refl, sym, ap, subst, ◌∙◌, inl, inr, ⊎_elim, arith}
use Rattle.std.specs.List.{AllByRecursion}
use Rattle.std.proofs.lemmas.Bool.{cases_lt}
use Rattle.plain_lists.proofs.Each.{all_weaker, all_mapped}
use Rattle.sf_defs.specs.declared.Op.{Op}
use Rattle.sf_defs.specs.declared.Op.TheVariants.{Load, Min}
use Rattle.sf_defs.specs.declared.Ask.{Ask}
use Rattle.sf_defs.specs.Asks.{step, Entry, after_ask, Replays, on_word, word_after}
use Rattle.sf_defs.specs.PrintedOrder.{kind_of}
use Rattle.sf_defs.specs.Rounds.{Round, IsLegal, entries, asks_on, in_order}
use Rattle.round_laws.specs.LastValues.{IsLeast}
use Rattle.round_laws.proofs.Shuffles.{all_shuffled}
use Rattle.round_laws.proofs.Directions.{IsOfKind, step-load}
use Rattle.round_laws.proofs.Entries.{asks_on-entries}
use Rattle.round_laws.proofs.Legal.{legal-is-order}
use Rattle.round_laws.proofs.LastValues.{legal-last}

-- the entries on a word of a legal round are of its kind
pub legal-kind : (r : Round) → IsLegal r → (w : ℕ) → w < length r.before → AllByRecursion (IsOfKind (kind_of (asks_on w r.asks))) (on_word w (entries r.asks r.got))
legal-kind r legal w within =
    all_mapped (λ (a : Ask). (a.op ≡ Load) ⊎ (a.op ≡ kind_of (asks_on w r.asks))) (λ (e : Entry). e.ask) (on_word w (entries r.asks r.got))
    (subst (AllByRecursion (λ (a : Ask). (a.op ≡ Load) ⊎ (a.op ≡ kind_of (asks_on w r.asks)))) (sym (asks_on-entries w r.asks r.got legal.fetched)) (legal.conditions.words_suit w within).one_kind)

-- ---- Loads

loads-fetch : (es : List Entry) (word last : ℕ) → AllByRecursion (IsOfKind Load) es → Replays word es last → AllByRecursion (λ (e : Entry). e.got ≡ word) es × (last ≡ word)
loads-fetch [] word last is h = (tt, sym h)
loads-fetch (e ∷ es) word last is h =
    let same : after_ask e.ask word ≡ word = step-load e.ask.op e.ask.value word (⊎_elim (λ k. k) (λ k. k) is.0) in
    let rest = loads-fetch es (after_ask e.ask word) last is.1 h.1 in
    ((h.0, all_weaker (λ (x : Entry). x.got ≡ after_ask e.ask word) (λ (x : Entry). x.got ≡ word) (λ x k. k ∙ same) es rest.0), rest.1 ∙ same)

-- on a word of Loads alone each fetches the first value, which stays
pub legal-loads : (r : Round) → IsLegal r → (w : ℕ) → w < length r.before → kind_of (asks_on w r.asks) ≡ Load
    → AllByRecursion (λ (e : Entry). e.got ≡ get_or r.before w 0) (on_word w (entries r.asks r.got)) × (get_or r.after w 0 ≡ get_or r.before w 0)
legal-loads r legal w within kind =
    let all = on_word w (entries r.asks r.got) in
    let order = legal-is-order r legal w within in
    let own : AllByRecursion (IsOfKind Load) all = subst (λ k. AllByRecursion (IsOfKind k) all) kind (legal-kind r legal w within) in
    let fetched = loads-fetch (in_order r w) (get_or r.before w 0) (get_or r.after w 0) (all_shuffled (IsOfKind Load) all (in_order r w) order own) (legal.replays w within) in
    (all_shuffled (λ (e : Entry). e.got ≡ get_or r.before w 0) (in_order r w) all (λ rank. sym (order rank)) fetched.0, fetched.1)

-- ---- Min

step-min : (op : Op) (value word : ℕ) → op ≡ Min → step op value word ≡ min word value
unfolding step
step-min op value word h = ap (λ o. step o value word) h

least-after : (asks : List Ask) (word : ℕ) → AllByRecursion (λ (a : Ask). (a.op ≡ Load) ⊎ (a.op ≡ Min)) asks → IsLeast word asks (word_after word asks)
least-after [] word is = record { below_first = omega arith; below_each = tt; among = inl refl }
least-after (a ∷ asks) word is =
    let rest = least-after asks (after_ask a word) is.1 in
    ⊎_elim
    (λ load.
    let same : after_ask a word ≡ word = step-load a.op a.value word load in
    record {
      below_first = omega (arith, rest.below_first);
      below_each = (λ m. absurd (load_or_min a.op load m), rest.below_each);
      among = ⊎_elim (λ k. inl (k ∙ same)) (λ k. inr (inr k)) rest.among;
    })
    (λ asked.
    let same : after_ask a word ≡ min word a.value = step-min a.op a.value word asked in
    record {
      below_first = omega (arith, rest.below_first);
      below_each = (λ m. omega (arith, rest.below_first), rest.below_each);
      among = ⊎_elim (λ k. ⊎_elim (λ le. inl (k ∙ same ∙ omega arith)) (λ lt. inr (inl (asked, sym (k ∙ same ∙ omega arith)))) (le_or_lt word a.value)) (λ k. inr (inr k)) rest.among;
    }) is.0
  where
    load_or_min : (op : Op) → op ≡ Load → op ≡ Min → ⊥
    load_or_min op l m = cc (l, m)

    le_or_lt : (x y : ℕ) → (x ≤ y) ⊎ (y < x)
    le_or_lt x y = ⊎_elim (λ h. inr h) (λ h. inl h) (cases_lt y x)

-- on a word of Min the last value is the least of the first one and all that were asked
pub legal-least : (r : Round) → IsLegal r → (w : ℕ) → w < length r.before → kind_of (asks_on w r.asks) ≡ Min → IsLeast (get_or r.before w 0) (asks_on w r.asks) (get_or r.after w 0)
legal-least r legal w within kind =
    subst (IsLeast (get_or r.before w 0) (asks_on w r.asks)) (sym (legal-last r legal w within))
    (least-after (asks_on w r.asks) (get_or r.before w 0) (subst (λ k. AllByRecursion (λ (a : Ask). (a.op ≡ Load) ⊎ (a.op ≡ k)) (asks_on w r.asks)) kind (legal.conditions.words_suit w within).one_kind))
