-- Entries in order that stand each as often as on a word are in the printed order of the word.
use Rattle.std.proofs.Common.{◌≡◌, ℕ, suc, ◌+◌, ◌<◌, Bool, true, false, cond, not, ◌&&◌, ◌==◌, List, [], ◌∷◌, length, get_or, count_by, sum_by, refl, sym, ap, ◌∙◌, arith}
use Rattle.std.specs.List.{AllByRecursion}
use Rattle.std.proofs.lemmas.Bool.{false≢true, leb-true, ltb-false, both_ways}
use Rattle.std.proofs.lemmas.List.Sums.{sum_by-cons}
use Rattle.plain_lists.proofs.Each.{all_weaker, all_filter}
use Rattle.sf_defs.specs.declared.Op.{Op}
use Rattle.sf_defs.specs.declared.Ask.{Ask}
use Rattle.sf_defs.specs.Asks.{Entry, on_word}
use Rattle.sf_defs.specs.PrintedOrder.{changes, then_by, kind_of, stands_before, placed, sorted_by, printed_order}
use Rattle.sf_defs.specs.Rounds.{entries, entry_at, turn_of}
use Rattle.round_laws.proofs.Comparison.{IsTotal, total_printed, strict_fetched, strict_rising}
use Rattle.round_laws.proofs.Permuted.{IsInOrder}
use Rattle.round_laws.proofs.Sorting.{all_placed, all_sorted_by, placed-before, placed-after}
use Rattle.round_laws.proofs.Word.{asks_of}
use Rattle.round_laws.proofs.Entries.{entries-at}

-- 1 where the entry passes
abbrev passing : (Entry → Bool) → Entry → ℕ
passing p e = cond (p e) 1 0

-- none passes
count-none : (p : Entry → Bool) (es : List Entry) → AllByRecursion (λ e. p e ≡ false) es → count_by p es ≡ 0
count-none p [] h = refl
count-none p (e ∷ es) h = sum_by-cons (passing p) e es ∙ (λ i. cond (h.0 i) 1 0 + count-none p es h.1 i)

module _ (before : Entry → Entry → Bool) where
  -- an insertion counts one entry more
  count-placed : (p : Entry → Bool) (e : Entry) (es : List Entry) → count_by p (placed before e es) ≡ count_by p (e ∷ es)
  count-placed p e [] = refl
  count-placed p e (x ∷ xs) = go (before e x) refl (count-placed p e xs)
    where
      one : Entry → ℕ
      one = passing p

      flip : (a b c : ℕ) → a + (b + c) ≡ b + (a + c)
      flip a b c = omega arith

      go : (b : Bool) → before e x ≡ b → count_by p (placed before e xs) ≡ count_by p (e ∷ xs) → count_by p (placed before e (x ∷ xs)) ≡ count_by p (e ∷ x ∷ xs)
      go true h r = ap (count_by p) (placed-before before e x xs h)
      go false h r =
          ap (count_by p) (placed-after before e x xs h) ∙ sum_by-cons one x (placed before e xs) ∙ ap (λ n. one x + n) (r ∙ sum_by-cons one e xs)
          ∙ flip (one x) (one e) (sum_by one xs) ∙ ap (λ n. one e + n) (sym (sum_by-cons one x xs)) ∙ sym (sum_by-cons one e (x ∷ xs))

  -- sorting keeps every count
  count-sorted : (p : Entry → Bool) (es : List Entry) → count_by p (sorted_by before es) ≡ count_by p es
  count-sorted p [] = refl
  count-sorted p (e ∷ es) = count-placed p e (sorted_by before es) ∙ sum_by-cons (passing p) e (sorted_by before es) ∙ ap (λ n. passing p e + n) (count-sorted p es) ∙ sym (sum_by-cons (passing p) e es)

  module _ (order : IsTotal before) where
    reflexive : (e : Entry) → before e e ≡ true
    reflexive e = go (before e e) (order.total e e)
      where
        go : (b : Bool) → (b ≡ false → b ≡ true) → b ≡ true
        go true h = refl
        go false h = h refl

    placed-in_order : (e : Entry) (es : List Entry) → IsInOrder before es → IsInOrder before (placed before e es)
    placed-in_order e [] h = (tt, tt)
    placed-in_order e (x ∷ xs) h = go (before e x) refl (placed-in_order e xs h.1)
      where
        go : (b : Bool) → before e x ≡ b → IsInOrder before (placed before e xs) → IsInOrder before (cond b (e ∷ x ∷ xs) (x ∷ placed before e xs))
        go true k r = ((k, all_weaker (λ y. before x y ≡ true) (λ y. before e y ≡ true) (λ y l. order.trans e x y k l) xs h.0), h)
        go false k r = (all_placed (λ y. before x y ≡ true) before e xs (order.total e x k) h.0, r)

    sorted-in_order : (es : List Entry) → IsInOrder before (sorted_by before es)
    sorted-in_order [] = tt
    sorted-in_order (e ∷ es) = placed-in_order e (sorted_by before es) (sorted-in_order es)

    -- from neighbours to all
    in_order-from_neighbours : (es : List Entry) → ((k : ℕ) (d : Entry) → k + 1 < length es → before (get_or es k d) (get_or es (k + 1) d) ≡ true) → IsInOrder before es
    in_order-from_neighbours [] h = tt
    in_order-from_neighbours (e ∷ []) h = (tt, tt)
    in_order-from_neighbours (e ∷ x ∷ xs) h =
        let rest = in_order-from_neighbours (x ∷ xs) (λ k d lt. let at : suc (k + 1) ≡ suc k + 1 = omega arith in ap (λ j. before (get_or (x ∷ xs) k d) (get_or (e ∷ x ∷ xs) j d)) at ∙ h (suc k) d (omega arith)) in
        let first : before e x ≡ true = h 0 e (omega arith) in
        ((first, all_weaker (λ y. before x y ≡ true) (λ y. before e y ≡ true) (λ y l. order.trans e x y first l) xs rest.0), rest)

    -- the first of a list in order stands before the first of another one with the same counts
    first_before : (x y : Entry) (xs ys : List Entry) → IsInOrder before (x ∷ xs) → ((p : Entry → Bool) → count_by p (x ∷ xs) ≡ count_by p (y ∷ ys)) → before x y ≡ true
    first_before x y xs ys h counts = go (before x y) refl
      where
        go : (b : Bool) → before x y ≡ b → b ≡ true
        go true k = refl
        go false k =
            let none : AllByRecursion (λ e. before e y ≡ false) xs = all_weaker (λ e. before x e ≡ true) (λ e. before e y ≡ false) (λ e l. which e (before e y) refl l) xs h.0 in
            let here : passing (λ e. before e y) y ≡ 1 = ap (λ b. cond b 1 0) (reflexive y) in
            absurd (omega (arith, counts (λ e. before e y), count-none (λ e. before e y) (x ∷ xs) (k, none), sum_by-cons (passing (λ e. before e y)) y ys, here))
          where
            which : (e : Entry) (b : Bool) → before e y ≡ b → before x e ≡ true → b ≡ false
            which e true m l = absurd (both_ways (before x y) k (order.trans x e y l m))
            which e false m l = refl

    -- lists in order with the same counts are equal, where no two of their entries tie
    same_in_order : (M : Entry → Type 0) → ((x y : Entry) → M x → M y → before x y ≡ true → before y x ≡ true → x ≡ y) → (xs ys : List Entry) → IsInOrder before xs → IsInOrder before ys → AllByRecursion M xs → AllByRecursion M ys
        → ((p : Entry → Bool) → count_by p xs ≡ count_by p ys) → xs ≡ ys
    same_in_order M apart [] [] h k m n counts = refl
    same_in_order M apart [] (y ∷ ys) h k m n counts = absurd (omega (arith, counts (λ e. true), sum_by-cons (λ (e : Entry). 1) y ys))
    same_in_order M apart (x ∷ xs) [] h k m n counts = absurd (omega (arith, counts (λ e. true), sum_by-cons (λ (e : Entry). 1) x xs))
    same_in_order M apart (x ∷ xs) (y ∷ ys) h k m n counts =
        let same : x ≡ y = apart x y m.0 n.0 (first_before x y xs ys h counts) (first_before y x ys xs k (λ p. sym (counts p))) in
        (λ i. same i ∷ same_in_order M apart xs ys h.1 k.1 m.1 n.1 (λ p. omega (arith, counts p, sum_by-cons (passing p) x xs, sum_by-cons (passing p) y ys, ap (passing p) same)) i)

-- ---- ties in the printed order

-- what goes before each other by two tests ties in the first
tie : (a b c d : Bool) → (a ≡ true → b ≡ false) → then_by a b c ≡ true → then_by b a d ≡ true → ((a ≡ false) × (b ≡ false)) × ((c ≡ true) × (d ≡ true))
tie true b c d f h k = absurd (false≢true (sym (ap (λ t. then_by t true d) (f refl)) ∙ k))
tie false true c d f h k = absurd (false≢true h)
tie false false c d f h k = ((refl, refl), (h, k))

-- entries that stand before each other have the same rank and index
tied_names : (kind : Op) (first : ℕ) (d e : Entry) → stands_before kind first d e ≡ true → stands_before kind first e d ≡ true → (d.rank ≡ e.rank) × (d.index ≡ e.index)
unfolding stands_before
tied_names kind first d e h k =
    let fetched = tie _ _ _ _ ((strict_fetched kind first).asym d.got e.got) h k in
    let changed = tie _ _ _ _ (one_way (changes d) (changes e)) fetched.1.0 fetched.1.1 in
    let ranks = tie _ _ _ _ ((strict_rising (λ (x : Entry). x.rank)).asym d e) changed.1.0 changed.1.1 in (
      omega (arith, ltb-false d.rank e.rank ranks.0.0, ltb-false e.rank d.rank ranks.0.1),
      omega (arith, leb-true d.index e.index ranks.1.0, leb-true e.index d.index ranks.1.1),
    )
  where
    one_way : (c b : Bool) → (not c && b) ≡ true → (not b && c) ≡ false
    one_way true b m = absurd (false≢true m)
    one_way false true m = refl
    one_way false false m = refl

module _ (first : ℕ) (asks : List (List Ask)) (got : List (List ℕ)) (w : ℕ) where
  own : List Entry
  own = on_word w (entries asks got)

  before : Entry → Entry → Bool
  before = stands_before (kind_of (asks_of (on_word w (entries asks got)))) first

  IsNamed : Entry → Type 0
  IsNamed e = entry_at asks got (turn_of e) ≡ e

  own_named : AllByRecursion IsNamed own
  unfolding own IsNamed
  own_named = all_filter (λ (e : Entry). entry_at asks got (turn_of e) ≡ e) (λ (e : Entry). e.ask.word == w) (entries asks got) (entries-at asks got)

  apart : (x y : Entry) → IsNamed x → IsNamed y → before x y ≡ true → before y x ≡ true → x ≡ y
  unfolding before IsNamed
  apart x y m n h k = let names = tied_names (kind_of (asks_of (on_word w (entries asks got)))) first x y h k in sym m ∙ (λ i. entry_at asks got (record { rank = names.0 i; index = names.1 i })) ∙ n

  -- entries that their turns name, each as often as on the word, in order: the printed order
  pub counted-printed : (es : List Entry) → AllByRecursion (λ (e : Entry). entry_at asks got (turn_of e) ≡ e) es → ((p : Entry → Bool) → count_by p es ≡ count_by p (on_word w (entries asks got)))
      → ((k : ℕ) (d : Entry) → k + 1 < length es → stands_before (kind_of (asks_of (on_word w (entries asks got)))) first (get_or es k d) (get_or es (k + 1) d) ≡ true) → es ≡ printed_order first (on_word w (entries asks got))
  unfolding printed_order before own IsNamed
  counted-printed es named counts neighbours =
      let order = total_printed (kind_of (asks_of (on_word w (entries asks got)))) first in
      same_in_order before order IsNamed apart es (sorted_by before own) (in_order-from_neighbours before order es neighbours) (sorted-in_order before order own) named (all_sorted_by IsNamed before own own_named) (λ p. counts p ∙ sym (count-sorted before p own))
