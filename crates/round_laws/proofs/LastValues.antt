-- The last value of a word does not depend on the order of its asks.
use Rattle.std.proofs.Common.{◌≡◌, ◌≢◌, ◌⊎◌, ℕ, ◌+◌, ◌%◌, ◌^◌, ◌<◌, ◌≤◌, length, get_or, bit_and, bit_or, Bool, true, false, cond, List, [], ◌∷◌, sum_by, refl, sym, ap, subst, ◌∙◌, inl, inr, ⊎_elim, arith}
use Rattle.std.specs.List.{AllByRecursion}
use Rattle.std.proofs.lemmas.Bool.{false≢true}
use Rattle.std.proofs.lemmas.List.Sums.{sum_by-cons}
use Rattle.std.proofs.lemmas.Nat.Bits.{bit_at_and, bit_at_or, same_from_bits}
use Rattle.plain_lists.proofs.Each.{all_mapped}
use Rattle.sf_defs.specs.declared.Op.{Op}
use Rattle.sf_defs.specs.declared.Op.TheVariants.{Load, Sum, Min, Max, Or, And, Replace}
use Rattle.sf_defs.specs.declared.Ask.{Ask}
use Rattle.sf_defs.specs.Asks.{step, Entry, after_ask, Replays, IsOrderOf, on_word, word_after}
use Rattle.sf_defs.specs.PrintedOrder.{is_load, kind_of}
use Rattle.sf_defs.specs.Rounds.{Round, IsLegal, same_op, SuitsWord, entries, asks_on}
use Rattle.round_laws.proofs.Shuffles.{all_shuffled, folded, folded-shuffled, sum_by-shuffled}
use Rattle.round_laws.proofs.Directions.{IsOfKind, step-load, replaces, replaces-replace, replaces_in, replaces_in-cons}
use Rattle.round_laws.proofs.Word.{asks_of, load-is}
use Rattle.round_laws.proofs.Tests.{decides-same_op}
use Rattle.round_laws.proofs.Entries.{asks_on-entries}
use Rattle.round_laws.proofs.Legal.{legal-is-order}

-- entries that replay leave what their asks leave
replayed : (es : List Entry) (word last : ℕ) → Replays word es last → last ≡ word_after word (asks_of es)
replayed [] word last h = sym h
replayed (e ∷ es) word last h = replayed es (after_ask e.ask word) last h.1

-- ---- kinds whose steps may be exchanged

or-swap : (w u v : ℕ) → bit_or (bit_or w u) v ≡ bit_or (bit_or w v) u
or-swap w u v = same_from_bits (bit_or (bit_or w u) v) (bit_or (bit_or w v) u) (λ i. omega (arith, bit_at_or (bit_or w u) v i, bit_at_or w u i, bit_at_or (bit_or w v) u i, bit_at_or w v i))

and-swap : (w u v : ℕ) → bit_and (bit_and w u) v ≡ bit_and (bit_and w v) u
and-swap w u v = same_from_bits (bit_and (bit_and w u) v) (bit_and (bit_and w v) u) (λ i. omega (arith, bit_at_and (bit_and w u) v i, bit_at_and w u i, bit_at_and (bit_and w v) u i, bit_at_and w v i))

sum-swap : (w u v : ℕ) → ((w + u) % 2 ^ 64 + v) % 2 ^ 64 ≡ ((w + v) % 2 ^ 64 + u) % 2 ^ 64
sum-swap w u v = omega arith

step-swap : (kind : Op) → kind ≢ Replace → (u v word : ℕ) → step kind v (step kind u word) ≡ step kind u (step kind v word)
unfolding step
step-swap Load other u v word = refl
step-swap Sum other u v word = sum-swap word u v
step-swap Min other u v word = omega arith
step-swap Max other u v word = omega arith
step-swap Or other u v word = or-swap word u v
step-swap And other u v word = and-swap word u v
step-swap Replace other u v word = absurd (other refl)

-- what an ask does to a word of this kind
does : Op → Entry → ℕ → ℕ
does kind e word = cond (is_load e.ask.op) word (step kind e.ask.value word)

does-is : (kind : Op) (e : Entry) (word : ℕ) → IsOfKind kind e → after_ask e.ask word ≡ does kind e word
unfolding does
does-is kind e word is = ⊎_elim
    (λ load. step-load e.ask.op e.ask.value word load ∙ sym (ap (λ o. cond (is_load o) word (step kind e.ask.value word)) load))
    (λ same. go (is_load e.ask.op) refl same) is
  where
    go : (b : Bool) → is_load e.ask.op ≡ b → e.ask.op ≡ kind → step e.ask.op e.ask.value word ≡ cond b word (step kind e.ask.value word)
    go true k same = step-load e.ask.op e.ask.value word (load-is e.ask.op k)
    go false k same = ap (λ o. step o e.ask.value word) same

does-swap : (kind : Op) → kind ≢ Replace → (d e : Entry) (word : ℕ) → does kind d (does kind e word) ≡ does kind e (does kind d word)
unfolding does
does-swap kind other d e word = go (is_load d.ask.op) (is_load e.ask.op)
  where
    go : (a b : Bool) → cond a (cond b word (step kind e.ask.value word)) (step kind d.ask.value (cond b word (step kind e.ask.value word))) ≡ cond b (cond a word (step kind d.ask.value word)) (step kind e.ask.value (cond a word (step kind d.ask.value word)))
    go true true = refl
    go true false = refl
    go false true = refl
    go false false = step-swap kind other e.ask.value d.ask.value word

-- the first step may as well be the last one
folded-first : (kind : Op) → kind ≢ Replace → (x : Entry) (word : ℕ) (es : List Entry) → folded (does kind) (does kind x word) es ≡ does kind x (folded (does kind) word es)
folded-first kind other x word [] = refl
folded-first kind other x word (e ∷ es) = ap (does kind e) (folded-first kind other x word es) ∙ does-swap kind other e x (folded (does kind) word es)

after-folded : (kind : Op) → kind ≢ Replace → (es : List Entry) (word : ℕ) → AllByRecursion (IsOfKind kind) es → word_after word (asks_of es) ≡ folded (does kind) word es
after-folded kind other [] word is = refl
after-folded kind other (e ∷ es) word is = after-folded kind other es (after_ask e.ask word) is.1 ∙ ap (λ w. folded (does kind) w es) (does-is kind e word is.0) ∙ folded-first kind other e word es

-- ---- Replace

-- the value of a Replace
replacement : Ask → ℕ
replacement a = cond (same_op a.op Replace) a.value 0

replacement-load : (a : Ask) → a.op ≡ Load → replacement a ≡ 0
unfolding replacement
replacement-load a h = ap (λ o. cond (same_op o Replace) a.value 0) h

replacement-replace : (a : Ask) → a.op ≡ Replace → replacement a ≡ a.value
unfolding replacement
replacement-replace a h = ap (λ o. cond (same_op o Replace) a.value 0) h

replaces-load : (a : Ask) → a.op ≡ Load → replaces a ≡ 0
replaces-load a h = ap (λ o. cond (same_op o Replace) 1 0) h

-- without a Replace the word stays
after-loads : (es : List Entry) (word : ℕ) → AllByRecursion (IsOfKind Replace) es → replaces_in es ≤ 0 → (word_after word (asks_of es) ≡ word) × (sum_by replacement (asks_of es) ≡ 0)
after-loads [] word is few = (refl, refl)
after-loads (e ∷ es) word is few =
    let load : e.ask.op ≡ Load = ⊎_elim (λ l. l) (λ same. absurd (omega (arith, replaces_in-cons e es, replaces-replace e.ask same))) is.0 in
    let rest = after-loads es (after_ask e.ask word) is.1 (omega (arith, replaces_in-cons e es)) in
    (rest.0 ∙ step-load e.ask.op e.ask.value word load, sum_by-cons replacement e.ask (asks_of es) ∙ omega (arith, replacement-load e.ask load, rest.1))

step-replace : (op : Op) (value word : ℕ) → op ≡ Replace → step op value word ≡ value
unfolding step
step-replace op value word h = ap (λ o. step o value word) h

-- with one Replace the word has its value
after-replace : (es : List Entry) (word : ℕ) → AllByRecursion (IsOfKind Replace) es → replaces_in es ≤ 1
    → ((replaces_in es ≡ 0) × (word_after word (asks_of es) ≡ word)) ⊎ ((replaces_in es ≡ 1) × (word_after word (asks_of es) ≡ sum_by replacement (asks_of es)))
after-replace [] word is few = inl (refl, refl)
after-replace (e ∷ es) word is few = ⊎_elim
    (λ load.
    ⊎_elim
    (λ none. inl (omega (arith, replaces_in-cons e es, replaces-load e.ask load, none.0), none.1 ∙ step-load e.ask.op e.ask.value word load))
    (λ one. inr (omega (arith, replaces_in-cons e es, replaces-load e.ask load, one.0), one.1 ∙ omega (arith, sum_by-cons replacement e.ask (asks_of es), replacement-load e.ask load)))
    (after-replace es (after_ask e.ask word) is.1 (omega (arith, replaces_in-cons e es))))
    (λ same.
    let rest = after-loads es (after_ask e.ask word) is.1 (omega (arith, replaces_in-cons e es, replaces-replace e.ask same)) in
    inr (
      omega (arith, replaces_in-cons e es, replaces-replace e.ask same),
      rest.0 ∙ step-replace e.ask.op e.ask.value word same ∙ omega (arith, sum_by-cons replacement e.ask (asks_of es), replacement-replace e.ask same, rest.1),
    )) is.0

-- ---- all kinds

-- asks of one kind, at most one of them a Replace, leave the same word in each order
after-shuffled : (kind : Op) (es fs : List Entry) (word : ℕ) → AllByRecursion (IsOfKind kind) es → AllByRecursion (IsOfKind kind) fs → replaces_in es ≤ 1 → IsOrderOf es fs → word_after word (asks_of es) ≡ word_after word (asks_of fs)
after-shuffled kind es fs word is js one s = ⊎_elim
    (λ replace. by_replace (subst (λ k. AllByRecursion (IsOfKind k) es) replace is) (subst (λ k. AllByRecursion (IsOfKind k) fs) replace js))
    (λ other. after-folded kind other es word is ∙ folded-shuffled (does kind) word (λ d e w apart. does-swap kind other d e w) es fs s ∙ sym (after-folded kind other fs word js))
    (is_replace (same_op kind Replace) refl)
  where
    is_replace : (b : Bool) → same_op kind Replace ≡ b → (kind ≡ Replace) ⊎ (kind ≢ Replace)
    is_replace true h = inl ((decides-same_op kind Replace).0 h)
    is_replace false h = inr (λ k. false≢true (sym h ∙ (decides-same_op kind Replace).1 k))

    by_replace : AllByRecursion (IsOfKind Replace) es → AllByRecursion (IsOfKind Replace) fs → word_after word (asks_of es) ≡ word_after word (asks_of fs)
    by_replace m n =
        let counts : replaces_in es ≡ replaces_in fs = sum_by-shuffled replaces es fs s in
        ⊎_elim
        (λ none. ⊎_elim (λ none'. none.1 ∙ sym none'.1) (λ one'. absurd (omega (arith, none.0, one'.0))) (after-replace fs word n (omega arith)))
        (λ one. ⊎_elim (λ none'. absurd (omega (arith, one.0, none'.0))) (λ one'. one.1 ∙ sum_by-shuffled replacement es fs s ∙ sym one'.1) (after-replace fs word n (omega arith)))
        (after-replace es word m one)

-- where some order of entries replays, its last value is what the asks leave in any order
pub last-after : (first last : ℕ) (all es : List Entry) → SuitsWord first (asks_of all) → IsOrderOf all es → Replays first es last → last ≡ word_after first (asks_of all)
last-after first last all es suits order replays =
    let own : AllByRecursion (IsOfKind (kind_of (asks_of all))) all = all_mapped (λ (a : Ask). (a.op ≡ Load) ⊎ (a.op ≡ kind_of (asks_of all))) (λ (e : Entry). e.ask) all suits.one_kind in
    replayed es first last replays ∙ sym (after-shuffled (kind_of (asks_of all)) all es first own (all_shuffled (IsOfKind (kind_of (asks_of all))) all es order own) suits.one_replace order)

-- the last values of a legal round are what the asks leave in the order of the ranks
pub legal-last : (r : Round) → IsLegal r → (w : ℕ) → w < length r.before → get_or r.after w 0 ≡ word_after (get_or r.before w 0) (asks_on w r.asks)
legal-last r legal w within =
    last-after (get_or r.before w 0) (get_or r.after w 0) (on_word w (entries r.asks r.got)) _ (subst (SuitsWord (get_or r.before w 0)) (sym (asks_on-entries w r.asks r.got legal.fetched)) (legal.conditions.words_suit w within)) (legal-is-order r legal w within) (legal.replays w within)
    ∙ ap (word_after (get_or r.before w 0)) (asks_on-entries w r.asks r.got legal.fetched)
