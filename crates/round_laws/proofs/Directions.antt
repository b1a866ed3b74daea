-- Where the asks on a word suit it, each change moves the word in the direction of its kind.
use Rattle.std.proofs.Common.{◌≡◌, ◌≢◌, ◌⊎◌, ℕ, ◌+◌, ◌%◌, ◌^◌, ◌<◌, ◌≤◌, min, max, bit_and, bit_or, true, cond, not, ◌&&◌, List, [], ◌∷◌, map, sum_by, count_by, refl, sym, ap, subst, ◌∙◌, ⊎_elim, arith, mod-eq_of_lt}
use Rattle.std.specs.List.{AllByRecursion}
use Rattle.std.proofs.lemmas.Bool.{true≢false, lt-ltb, eq-eqb, ne_eqb}
use Rattle.std.proofs.lemmas.Nat.{le_or_l}
use lib.Bits.{and_le_l}
use Rattle.std.proofs.lemmas.List.Sums.{sum_by-cons}
use Rattle.sf_defs.specs.declared.Op.{Op}
use Rattle.sf_defs.specs.declared.Op.TheVariants.{Load, Sum, Min, Max, Or, And, Replace}
use Rattle.sf_defs.specs.declared.Ask.{Ask}
use Rattle.sf_defs.specs.Asks.{step, Entry, after_ask, Replays}
use Rattle.sf_defs.specs.PrintedOrder.{fetched_before, changes}
use Rattle.sf_defs.specs.Rounds.{same_op, added}
use Rattle.round_laws.proofs.Replay.{MovesOn}

-- the entry is a Load, or of the word's kind
abbrev pub IsOfKind : Op → Entry → Type 0
IsOfKind kind e = (e.ask.op ≡ Load) ⊎ (e.ask.op ≡ kind)

-- what changes the word leaves another one
changed : (e : Entry) → changes e ≡ true → after_ask e.ask e.got ≢ e.got
changed e h same = true≢false (sym h ∙ ap not (eq-eqb (after_ask e.ask e.got) e.got same))

-- a Load moves no word
pub step-load : (op : Op) (value word : ℕ) → op ≡ Load → step op value word ≡ word
unfolding step
step-load op value word h = ap (λ o. step o value word) h

load-moves : (kind : Op) (first : ℕ) (e : Entry) → e.ask.op ≡ Load → MovesOn kind first e
load-moves kind first e h c = absurd (changed e c (step-load e.ask.op e.ask.value e.got h))

-- of Min, Max, Or and And each change moves in its direction
min-moves : (first value word : ℕ) → step Min value word ≢ word → fetched_before Min first word (step Min value word) ≡ true
unfolding step fetched_before
min-moves first value word h = lt-ltb (min word value) word (omega (arith, h))

max-moves : (first value word : ℕ) → step Max value word ≢ word → fetched_before Max first word (step Max value word) ≡ true
unfolding step fetched_before
max-moves first value word h = lt-ltb word (max word value) (omega (arith, h))

or-moves : (first value word : ℕ) → step Or value word ≢ word → fetched_before Or first word (step Or value word) ≡ true
unfolding step fetched_before
or-moves first value word h = lt-ltb word (bit_or word value) (omega (arith, h, le_or_l word value))

and-moves : (first value word : ℕ) → step And value word ≢ word → fetched_before And first word (step And value word) ≡ true
unfolding step fetched_before
and-moves first value word h = lt-ltb (bit_and word value) word (omega (arith, h, and_le_l word value))

-- what fits moves up
sum-moves : (first value word : ℕ) → word + value < 2 ^ 64 → step Sum value word ≢ word → fetched_before Sum first word (step Sum value word) ≡ true
unfolding step fetched_before
sum-moves first value word fits h = let e : (word + value) % 2 ^ 64 ≡ word + value = mod-eq_of_lt fits in lt-ltb word ((word + value) % 2 ^ 64) (omega (arith, h, e))

step-sum : (value word : ℕ) → word + value < 2 ^ 64 → step Sum value word ≡ word + value
unfolding step
step-sum value word fits = mod-eq_of_lt fits

-- from the first value to another one
replace-moves : (first value : ℕ) → step Replace value first ≢ first → fetched_before Replace first first (step Replace value first) ≡ true
unfolding step fetched_before
replace-moves first value h = (λ i. eq-eqb first first refl i && not (ne_eqb value first h i))

-- one entry of a kind
kind-moves : (kind : Op) (first : ℕ) (e : Entry) → IsOfKind kind e → (step kind e.ask.value e.got ≢ e.got → fetched_before kind first e.got (step kind e.ask.value e.got) ≡ true) → MovesOn kind first e
kind-moves kind first e is moves = ⊎_elim (λ load. load-moves kind first e load) (λ same c. subst (λ w. fetched_before kind first e.got w ≡ true) (ap (λ o. step o e.ask.value e.got) (sym same)) (moves (λ k. changed e c (ap (λ o. step o e.ask.value e.got) same ∙ k)))) is

-- all entries of a kind of which each change moves on
each-moves : (kind : Op) (first : ℕ) → ((value word : ℕ) → step kind value word ≢ word → fetched_before kind first word (step kind value word) ≡ true) → (es : List Entry) → AllByRecursion (IsOfKind kind) es → AllByRecursion (MovesOn kind first) es
each-moves kind first moves [] h = tt
each-moves kind first moves (e ∷ es) h = (kind-moves kind first e h.0 (moves e.ask.value e.got), each-moves kind first moves es h.1)

-- ---- Sums

added-load : (a : Ask) → a.op ≡ Load → added a ≡ 0
added-load a h = ap (λ o. cond (same_op o Sum) a.value 0) h

added-sum : (a : Ask) → a.op ≡ Sum → added a ≡ a.value
added-sum a h = ap (λ o. cond (same_op o Sum) a.value 0) h

-- after an ask among Sums that fit, the word is higher by what it adds
pub after-sum : (e : Entry) (word : ℕ) → IsOfKind Sum e → word + added e.ask < 2 ^ 64 → after_ask e.ask word ≡ word + added e.ask
after-sum e word is fits = ⊎_elim
    (λ load. step-load e.ask.op e.ask.value word load ∙ omega (arith, added-load e.ask load))
    (λ sum. ap (λ o. step o e.ask.value word) sum ∙ step-sum e.ask.value word (omega (arith, added-sum e.ask sum)) ∙ ap (λ v. word + v) (sym (added-sum e.ask sum))) is

-- Sums that fit together move up
sums-move : (first : ℕ) (es : List Entry) (word last : ℕ) → AllByRecursion (IsOfKind Sum) es → word + sum_by added (map (λ (e : Entry). e.ask) es) < 2 ^ 64 → Replays word es last → AllByRecursion (MovesOn Sum first) es
sums-move first [] word last is fits h = tt
sums-move first (e ∷ es) word last is fits h =
    let cons : sum_by added (map (λ (e : Entry). e.ask) (e ∷ es)) ≡ added e.ask + sum_by added (map (λ (e : Entry). e.ask) es) = sum_by-cons added e.ask (map (λ (e : Entry). e.ask) es) in
    let next : after_ask e.ask word ≡ word + added e.ask = after-sum e word is.0 (omega arith) in (
      ⊎_elim (λ load. load-moves Sum first e load) (λ sum. kind-moves Sum first e is.0 (λ k. sum-moves first e.ask.value e.got (omega (arith, h.0, added-sum e.ask sum)) k)) is.0,
      sums-move first es (after_ask e.ask word) last is.1 (omega arith) h.1,
    )

-- ---- one Replace

-- how many Replaces an ask is
abbrev pub replaces : Ask → ℕ
replaces a = cond (same_op a.op Replace) 1 0

pub replaces-replace : (a : Ask) → a.op ≡ Replace → replaces a ≡ 1
replaces-replace a h = ap (λ o. cond (same_op o Replace) 1 0) h

-- how many Replaces entries are
abbrev pub replaces_in : List Entry → ℕ
replaces_in es = count_by (λ (a : Ask). same_op a.op Replace) (map (λ (e : Entry). e.ask) es)

pub replaces_in-cons : (e : Entry) (es : List Entry) → replaces_in (e ∷ es) ≡ replaces e.ask + replaces_in es
replaces_in-cons e es = sum_by-cons replaces e.ask (map (λ (e : Entry). e.ask) es)

-- after the only Replace all are Loads
no-replace : (first : ℕ) (es : List Entry) → AllByRecursion (IsOfKind Replace) es → replaces_in es ≤ 0 → AllByRecursion (MovesOn Replace first) es
no-replace first [] is few = tt
no-replace first (e ∷ es) is few = (
  ⊎_elim (λ load. load-moves Replace first e load) (λ same. absurd (omega (arith, replaces_in-cons e es, replaces-replace e.ask same))) is.0,
  no-replace first es is.1 (omega (arith, replaces_in-cons e es)),
)

-- the only Replace moves the word from its first value
replace-move : (first : ℕ) (es : List Entry) (word last : ℕ) → word ≡ first → AllByRecursion (IsOfKind Replace) es → replaces_in es ≤ 1 → Replays word es last → AllByRecursion (MovesOn Replace first) es
replace-move first [] word last at is few h = tt
replace-move first (e ∷ es) word last at is few h =
    ⊎_elim
    (λ load. (load-moves Replace first e load, replace-move first es (after_ask e.ask word) last (step-load e.ask.op e.ask.value word load ∙ at) is.1 (omega (arith, replaces_in-cons e es)) h.1))
    (λ same. (
      kind-moves Replace first e is.0 (λ k. let got : first ≡ e.got = sym (h.0 ∙ at) in subst (λ g. fetched_before Replace first g (step Replace e.ask.value g) ≡ true) got (replace-moves first e.ask.value (λ m. k (subst (λ g. step Replace e.ask.value g ≡ g) got m)))),
      no-replace first es is.1 (omega (arith, replaces_in-cons e es, replaces-replace e.ask same)),
    )) is.0

-- ---- all kinds

-- in a list that replays, of one kind besides Load, at most one Replace, and Sums that fit, each change moves on
pub all-move : (kind : Op) (first : ℕ) (es : List Entry) (last : ℕ) → AllByRecursion (IsOfKind kind) es → count_by (λ (a : Ask). same_op a.op Replace) (map (λ (e : Entry). e.ask) es) ≤ 1
    → first + sum_by added (map (λ (e : Entry). e.ask) es) < 2 ^ 64 → Replays first es last → AllByRecursion (MovesOn kind first) es
all-move Load first es last is one fits h = each-moves Load first (λ value word c. absurd (c (step-load Load value word refl))) es is
all-move Sum first es last is one fits h = sums-move first es first last is fits h
all-move Min first es last is one fits h = each-moves Min first (min-moves first) es is
all-move Max first es last is one fits h = each-moves Max first (max-moves first) es is
all-move Or first es last is one fits h = each-moves Or first (or-moves first) es is
all-move And first es last is one fits h = each-moves And first (and-moves first) es is
all-move Replace first es last is one fits h = replace-move first es first last refl is one h
