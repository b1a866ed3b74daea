-- Sums on one word take its numbers apart: each number from the first value up to the last one is taken once.
use Rattle.std.proofs.Common.{◌≡◌, ◌⊎◌, ℕ, ◌+◌, ◌^◌, ◌<◌, ◌≤◌, cond, ◌&&◌, nat_le, nat_lt, List, [], ◌∷◌, length, get_or, sum_by, count_by, refl, sym, ap, subst, ◌∙◌, ⊎_elim, arith}
use Rattle.std.specs.List.{AllByRecursion}
use Rattle.std.proofs.lemmas.Bool.{le-leb, lt-leb, lt-ltb, le-ltb, and_left, and_right, cases_lt}
use Rattle.std.proofs.lemmas.List.Sums.{sum_by-cons}
use Rattle.plain_lists.proofs.Each.{all_mapped}
use Rattle.sf_defs.specs.declared.Op.TheVariants.{Load, Sum}
use Rattle.sf_defs.specs.declared.Ask.{Ask}
use Rattle.sf_defs.specs.Asks.{Entry, after_ask, Replays, on_word}
use Rattle.sf_defs.specs.PrintedOrder.{kind_of}
use Rattle.sf_defs.specs.Rounds.{Round, IsLegal, added, entries, asks_on, in_order}
use Rattle.round_laws.specs.LastValues.{took}
use Rattle.round_laws.proofs.Shuffles.{all_shuffled, sum_by-shuffled, count-shuffled}
use Rattle.round_laws.proofs.Directions.{IsOfKind, after-sum}
use Rattle.round_laws.proofs.Word.{asks_of}
use Rattle.round_laws.proofs.Entries.{asks_on-entries}
use Rattle.round_laws.proofs.Legal.{legal-is-order}

-- 1 where the entry took n
abbrev takes : ℕ → Entry → ℕ
takes n e = cond (took n e) 1 0

count-cons : (n : ℕ) (e : Entry) (es : List Entry) → count_by (took n) (e ∷ es) ≡ takes n e + count_by (took n) es
count-cons n e es = sum_by-cons (takes n) e es

counts-in : (n : ℕ) (e : Entry) → e.got ≤ n → n < e.got + added e.ask → takes n e ≡ 1
counts-in n e low high = (λ i. cond (le-leb e.got n low i && lt-ltb n (e.got + added e.ask) high i) 1 0)

counts-below : (n : ℕ) (e : Entry) → n < e.got → takes n e ≡ 0
counts-below n e h = ap (λ b. cond b 1 0) (and_left (nat_le e.got n) (nat_lt n (e.got + added e.ask)) (lt-leb e.got n h))

counts-above : (n : ℕ) (e : Entry) → e.got + added e.ask ≤ n → takes n e ≡ 0
counts-above n e h = ap (λ b. cond b 1 0) (and_right (nat_le e.got n) (nat_lt n (e.got + added e.ask)) (le-ltb n (e.got + added e.ask) h))

-- the Sums that are left, with the first one
sum-cons : (e : Entry) (es : List Entry) → sum_by added (asks_of (e ∷ es)) ≡ added e.ask + sum_by added (asks_of es)
sum-cons e es = sum_by-cons added e.ask (asks_of es)

-- no number below the word is taken
none-below : (es : List Entry) (word last n : ℕ) → AllByRecursion (IsOfKind Sum) es → word + sum_by added (asks_of es) < 2 ^ 64 → Replays word es last → n < word → count_by (took n) es ≡ 0
none-below [] word last n is fits h lt = refl
none-below (e ∷ es) word last n is fits h lt =
    let next : after_ask e.ask word ≡ word + added e.ask = after-sum e word is.0 (omega (arith, sum-cons e es)) in
    let rest = none-below es (after_ask e.ask word) last n is.1 (omega (arith, sum-cons e es)) h.1 (omega arith) in
    count-cons n e es ∙ omega (arith, counts-below n e (omega (arith, h.0)), rest)

-- each number from the word up to the last value is taken once
one-each : (es : List Entry) (word last n : ℕ) → AllByRecursion (IsOfKind Sum) es → word + sum_by added (asks_of es) < 2 ^ 64 → Replays word es last → word ≤ n → n < last → count_by (took n) es ≡ 1
one-each [] word last n is fits h low high = absurd (omega (arith, h))
one-each (e ∷ es) word last n is fits h low high =
    let next : after_ask e.ask word ≡ word + added e.ask = after-sum e word is.0 (omega (arith, sum-cons e es)) in
    count-cons n e es ∙ ⊎_elim
    (λ lt. omega (arith, counts-in n e (omega (arith, h.0)) (omega (arith, h.0)), none-below es (after_ask e.ask word) last n is.1 (omega (arith, sum-cons e es)) h.1 (omega arith)))
    (λ ge. omega (arith, counts-above n e (omega (arith, h.0)), one-each es (after_ask e.ask word) last n is.1 (omega (arith, sum-cons e es)) h.1 (omega arith) high))
    (cases_lt n (word + added e.ask))

-- in a legal round each number from the first value of a word of Sums up to its last one is taken once
pub legal-sums : (r : Round) → IsLegal r → (w n : ℕ) → w < length r.before → kind_of (asks_on w r.asks) ≡ Sum → get_or r.before w 0 ≤ n → n < get_or r.after w 0 → count_by (took n) (on_word w (entries r.asks r.got)) ≡ 1
legal-sums r legal w n within kind low high =
    let all = on_word w (entries r.asks r.got) in
    let order = legal-is-order r legal w within in
    let same = asks_on-entries w r.asks r.got legal.fetched in
    let suits = legal.conditions.words_suit w within in
    let own : AllByRecursion (IsOfKind Sum) all = all_mapped (λ (a : Ask). (a.op ≡ Load) ⊎ (a.op ≡ Sum)) (λ (e : Entry). e.ask) all (subst (λ k. AllByRecursion (λ (a : Ask). (a.op ≡ Load) ⊎ (a.op ≡ k)) (asks_of all)) kind (subst (λ l. AllByRecursion (λ (a : Ask). (a.op ≡ Load) ⊎ (a.op ≡ kind_of (asks_on w r.asks))) l) (sym same) suits.one_kind)) in
    count-shuffled (took n) all (in_order r w) order
    ∙ one-each (in_order r w) (get_or r.before w 0) (get_or r.after w 0) n (all_shuffled (IsOfKind Sum) all (in_order r w) order own)
    (subst (λ m. get_or r.before w 0 + m < 2 ^ 64) (ap (sum_by added) (sym same) ∙ sum_by-shuffled added all (in_order r w) order) suits.sums_fit) (legal.replays w within) low high
