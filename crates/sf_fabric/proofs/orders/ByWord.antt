-- Places whose words do not fall: those on one word stand together.
use Rattle.std.proofs.Common.{◌≡◌, ℕ, zero, suc, ◌+◌, ◌-◌, ◌<◌, ◌≤◌, false, ◌==◌, nat_lt, List, [], ◌∷◌, length, get_or, take, drop, refl, sym, ap, ◌∙◌, ⊎_elim, arith}
use Rattle.std.specs.Prelude.{filter}
use Rattle.std.specs.List.{AllByRecursion}
use Rattle.std.proofs.lemmas.Bool.{lt-ltb, le-ltb, eq-eqb, ne_eqb, cases_lt, cond-true, cond-false}
use Rattle.plain_lists.proofs.Each.{all_weaker, all_at}
use Rattle.plain_lists.proofs.Filters.{filter_none}
use Rattle.sf_fabric.specs.declared.orders.place.Place.{Place}
use Rattle.sf_fabric.specs.orders.Places.{IsByWord, below_word}

-- ---- how many are of words below one

below-yes : (w : ℕ) (p : Place) (ps : List Place) → p.word < w → below_word w (p ∷ ps) ≡ suc (below_word w ps)
below-yes w p ps h = cond-true (nat_lt p.word w) _ _ (lt-ltb p.word w h)

below-no : (w : ℕ) (p : Place) (ps : List Place) → w ≤ p.word → below_word w (p ∷ ps) ≡ below_word w ps
below-no w p ps h = cond-false (nat_lt p.word w) _ _ (le-ltb p.word w h)

-- none is of a word below the first
pub below-zero : (ps : List Place) → below_word 0 ps ≡ 0
below-zero [] = refl
below-zero (p ∷ ps) = below-no 0 p ps (omega arith) ∙ below-zero ps

pub below-none : (w : ℕ) (ps : List Place) → AllByRecursion (λ (q : Place). w ≤ q.word) ps → below_word w ps ≡ 0
below-none w [] h = refl
below-none w (p ∷ ps) h = below-no w p ps h.0 ∙ below-none w ps h.1

pub below-within : (w : ℕ) (ps : List Place) → below_word w ps ≤ length ps
below-within w [] = omega arith
below-within w (p ∷ ps) = let rest = below-within w ps in ⊎_elim (λ lt. let here = below-yes w p ps lt in omega arith) (λ ge. let here = below-no w p ps ge in omega arith) (cases_lt p.word w)

-- all are, where each one's word is
pub below-whole : (w : ℕ) (ps : List Place) → AllByRecursion (λ (p : Place). p.word < w) ps → below_word w ps ≡ length ps
below-whole w [] h = refl
below-whole w (p ∷ ps) h = below-yes w p ps h.0 ∙ ap suc (below-whole w ps h.1)

pub below-rises : (w : ℕ) (ps : List Place) → below_word w ps ≤ below_word (w + 1) ps
below-rises w [] = omega arith
below-rises w (p ∷ ps) =
    let rest = below-rises w ps in
    ⊎_elim
    (λ lt. let here = below-yes w p ps lt in let next = below-yes (w + 1) p ps (omega arith) in omega arith)
    (λ ge. let here = below-no w p ps ge in ⊎_elim (λ lt. let next = below-yes (w + 1) p ps lt in omega arith) (λ above. let next = below-no (w + 1) p ps above in omega arith) (cases_lt p.word (w + 1)))
    (cases_lt p.word w)

all_above : (w : ℕ) (p : Place) (ps : List Place) → IsByWord (p ∷ ps) → w ≤ p.word → AllByRecursion (λ (q : Place). w ≤ q.word) ps
all_above w p ps sorted h = all_weaker (λ (q : Place). p.word ≤ q.word) (λ (q : Place). w ≤ q.word) (λ q le. omega arith) ps sorted.0

-- a place before them is of a word below
pub before-below : (w : ℕ) (ps : List Place) (k : ℕ) (d : Place) → IsByWord ps → k < length ps → (get_or ps k d).word < w → k < below_word w ps
before-below w [] k d sorted within h = absurd (omega arith)
before-below w (p ∷ ps) zero d sorted within h = let here = below-yes w p ps h in omega arith
before-below w (p ∷ ps) (suc k) d sorted within h =
    let le : p.word ≤ (get_or ps k d).word = all_at (λ (q : Place). p.word ≤ q.word) ps k d sorted.0 (omega arith) in
    let here = below-yes w p ps (omega arith) in let rest = before-below w ps k d sorted.1 (omega arith) h in omega arith

-- and one past them is not
pub past-below : (w : ℕ) (ps : List Place) (k : ℕ) (d : Place) → IsByWord ps → k < length ps → w ≤ (get_or ps k d).word → below_word w ps ≤ k
past-below w [] k d sorted within h = absurd (omega arith)
past-below w (p ∷ ps) zero d sorted within h = let here = below-no w p ps h in let none = below-none w ps (all_above w p ps sorted h) in omega arith
past-below w (p ∷ ps) (suc k) d sorted within h =
    let rest = past-below w ps k d sorted.1 (omega arith) h in
    ⊎_elim (λ lt. let here = below-yes w p ps lt in omega arith) (λ ge. let here = below-no w p ps ge in omega arith) (cases_lt p.word w)

-- where a place is not before them, its word is not below
pub word-past : (w : ℕ) (ps : List Place) (k : ℕ) (d : Place) → IsByWord ps → k < length ps → below_word w ps ≤ k → w ≤ (get_or ps k d).word
word-past w ps k d sorted within h = ⊎_elim (λ lt. absurd (let less = before-below w ps k d sorted within lt in omega arith)) (λ ge. ge) (cases_lt (get_or ps k d).word w)

-- ---- those on one word

on_word-no : (w : ℕ) (p : Place) (ps : List Place) → (p.word ≡ w → ⊥) → filter (λ (q : Place). q.word == w) (p ∷ ps) ≡ filter (λ (q : Place). q.word == w) ps
on_word-no w p ps h = cond-false (p.word == w) _ _ (ne_eqb p.word w h)

on_word-yes : (w : ℕ) (p : Place) (ps : List Place) → p.word ≡ w → filter (λ (q : Place). q.word == w) (p ∷ ps) ≡ p ∷ filter (λ (q : Place). q.word == w) ps
on_word-yes w p ps h = cond-true (p.word == w) _ _ (eq-eqb p.word w h)

none_on : (w : ℕ) (ps : List Place) → AllByRecursion (λ (q : Place). w + 1 ≤ q.word) ps → filter (λ (q : Place). q.word == w) ps ≡ []
none_on w ps h = filter_none (λ (q : Place). q.word == w) ps (all_weaker (λ (q : Place). w + 1 ≤ q.word) (λ (q : Place). (q.word == w) ≡ false) (λ q le. ne_eqb q.word w (λ e. omega arith)) ps h)

-- from the places of lower words on, those of the word
front-on : (w : ℕ) (ps : List Place) → IsByWord ps → AllByRecursion (λ (q : Place). w ≤ q.word) ps → take (below_word (w + 1) ps) ps ≡ filter (λ (q : Place). q.word == w) ps
front-on w [] sorted h = refl
front-on w (p ∷ ps) sorted h = ⊎_elim
    (λ lt. ap (λ n. take n (p ∷ ps)) (below-yes (w + 1) p ps lt) ∙ ap (λ l. p ∷ l) (front-on w ps sorted.1 h.1) ∙ sym (on_word-yes w p ps (let le : w ≤ p.word = h.0 in omega arith)))
    (λ ge. ap (λ n. take n (p ∷ ps)) (below-no (w + 1) p ps ge ∙ below-none (w + 1) ps (all_above (w + 1) p ps sorted ge)) ∙ sym (on_word-no w p ps (λ e. omega arith) ∙ none_on w ps (all_above (w + 1) p ps sorted ge)))
    (cases_lt p.word (w + 1))

pub cut-on : (w : ℕ) (ps : List Place) → IsByWord ps → take (below_word (w + 1) ps - below_word w ps) (drop (below_word w ps) ps) ≡ filter (λ (q : Place). q.word == w) ps
cut-on w [] sorted = refl
cut-on w (p ∷ ps) sorted = ⊎_elim
    (λ lt.
    let here = below-yes w p ps lt in
    let next : below_word (w + 1) (p ∷ ps) ≡ suc (below_word (w + 1) ps) = below-yes (w + 1) p ps (omega arith) in
    let gap : below_word (w + 1) (p ∷ ps) - below_word w (p ∷ ps) ≡ below_word (w + 1) ps - below_word w ps = omega arith in
    (λ i. take (gap i) (drop (here i) (p ∷ ps))) ∙ cut-on w ps sorted.1 ∙ sym (on_word-no w p ps (λ e. omega arith)))
    (λ ge.
    let none : below_word w (p ∷ ps) ≡ 0 = below-no w p ps ge ∙ below-none w ps (all_above w p ps sorted ge) in
    let gap : below_word (w + 1) (p ∷ ps) - below_word w (p ∷ ps) ≡ below_word (w + 1) (p ∷ ps) = omega arith in
    (λ i. take (gap i) (drop (none i) (p ∷ ps))) ∙ front-on w (p ∷ ps) sorted (ge, all_above w p ps sorted ge))
    (cases_lt p.word w)
