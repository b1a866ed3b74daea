-- Sorted places: neighbours on one word are entries in the printed order.
use Rattle.std.proofs.Common.{◌≡◌, ◌⊎◌, ℕ, suc, ◌+◌, ◌<◌, ◌≤◌, Bool, true, false, cond, not, ◌&&◌, ◌==◌, nat_lt, nat_le, List, [], ◌∷◌, length, get_or, refl, sym, ap, subst, ◌∙◌, inl, inr, ⊎_elim, arith, is_lt, nat_cmp}
use Rattle.std.specs.declared.cmp.Ordering.{Ordering}
use Rattle.std.specs.declared.cmp.Ordering.TheVariants.{Less, Equal, Greater}
use Rattle.std.specs.Ordering.{ordering_then, bool_cmp}
use Rattle.std.proofs.lemmas.Bool.{false≢true, true≢false, lt-ltb, le-ltb, ltb-false, le-leb, eqb-true, eq-eqb}
use Rattle.plain_lists.proofs.Each.{all_weaker}
use Rattle.sf_defs.specs.declared.Op.{Op}
use Rattle.sf_defs.specs.declared.Op.TheVariants.{Load, Sum, Min, Max, Or, And, Replace}
use Rattle.sf_defs.specs.Asks.{Entry}
use Rattle.sf_defs.specs.PrintedOrder.{changes, then_by, fetched_before, stands_before}
use Rattle.sf_fabric.specs.declared.orders.place.Place.{Place}
use Rattle.sf_fabric.specs.orders.Places.{fetched_key, place_of, IsByWord}

-- how places are compared
abbrev pub place_cmp : Place → Place → Ordering
place_cmp p q = ordering_then (nat_cmp p.word q.word) (ordering_then (nat_cmp p.fetched q.fetched) (ordering_then (bool_cmp p.changes q.changes) (ordering_then (nat_cmp p.rank q.rank) (nat_cmp p.index q.index))))

-- no place comes before the one in front of it
abbrev pub AreSorted : List Place → Type 0
AreSorted ps = (k : ℕ) (d : Place) → 0 ≤ k → k + 1 < length ps → is_lt (place_cmp (get_or ps (k + 1) d) (get_or ps k d)) ≡ false

-- ---- one comparison

later : (b a : ℕ) (o : Ordering) → is_lt (ordering_then (nat_cmp b a) o) ≡ false → (a < b) ⊎ ((b ≡ a) × (is_lt o ≡ false))
later b a o = go (nat_lt b a) refl
  where
    last : (y : Bool) → (b == a) ≡ y → a ≤ b → is_lt (ordering_then (cond y Equal Greater) o) ≡ false → (a < b) ⊎ ((b ≡ a) × (is_lt o ≡ false))
    last true k le h = inr (eqb-true b a k, h)
    last false k le h = inl (less (b == a) k (λ same. eq-eqb b a same))
      where
        less : (z : Bool) → z ≡ false → (b ≡ a → z ≡ true) → a < b
        less z m n = let apart : (b ≡ a → ⊥) = λ same. false≢true (sym m ∙ n same) in omega arith

    go : (x : Bool) → nat_lt b a ≡ x → is_lt (ordering_then (cond x Less (cond (b == a) Equal Greater)) o) ≡ false → (a < b) ⊎ ((b ≡ a) × (is_lt o ≡ false))
    go true k h = absurd (true≢false h)
    go false k h = last (b == a) refl (ltb-false b a k) h

later_changes : (b a : Bool) (o : Ordering) → is_lt (ordering_then (bool_cmp b a) o) ≡ false → ((a ≡ false) × (b ≡ true)) ⊎ ((b ≡ a) × (is_lt o ≡ false))
later_changes true true o h = inr (refl, h)
later_changes true false o h = inl (refl, refl)
later_changes false true o h = absurd (true≢false h)
later_changes false false o h = inr (refl, h)

later_last : (b a : ℕ) → is_lt (nat_cmp b a) ≡ false → a ≤ b
later_last b a = go (nat_lt b a) refl
  where
    go : (x : Bool) → nat_lt b a ≡ x → is_lt (cond x Less (cond (b == a) Equal Greater)) ≡ false → a ≤ b
    go true k h = absurd (true≢false h)
    go false k h = ltb-false b a k

-- ---- fetched values

key-before : (kind : Op) (first m n : ℕ) → m ≤ 18446744073709551615 → n ≤ 18446744073709551615 → fetched_key kind first m < fetched_key kind first n → fetched_before kind first m n ≡ true
unfolding fetched_before
key-before Load first m n a b h = lt-ltb m n h
key-before Sum first m n a b h = lt-ltb m n h
key-before Min first m n a b h = lt-ltb n m (omega arith)
key-before Max first m n a b h = lt-ltb m n h
key-before Or first m n a b h = lt-ltb m n h
key-before And first m n a b h = lt-ltb n m (omega arith)
key-before Replace first m n a b h = go (m == first) (n == first) h
  where
    go : (x y : Bool) → cond {A = ℕ} x 0 1 < cond {A = ℕ} y 0 1 → (x && not y) ≡ true
    go true true k = absurd (omega arith)
    go true false k = refl
    go false true k = absurd (omega arith)
    go false false k = absurd (omega arith)

key-same : (kind : Op) (first m n : ℕ) → m ≤ 18446744073709551615 → n ≤ 18446744073709551615 → fetched_key kind first m ≡ fetched_key kind first n → fetched_before kind first m n ≡ false
unfolding fetched_before
key-same Load first m n a b h = le-ltb m n (omega arith)
key-same Sum first m n a b h = le-ltb m n (omega arith)
key-same Min first m n a b h = le-ltb n m (omega arith)
key-same Max first m n a b h = le-ltb m n (omega arith)
key-same Or first m n a b h = le-ltb m n (omega arith)
key-same And first m n a b h = le-ltb n m (omega arith)
key-same Replace first m n a b h = go (m == first) (n == first) h
  where
    go : (x y : Bool) → cond {A = ℕ} x 0 1 ≡ cond {A = ℕ} y 0 1 → (x && not y) ≡ false
    go true true k = refl
    go true false k = absurd (omega arith)
    go false y k = refl

by_before : (a b c : Bool) → a ≡ true → then_by a b c ≡ true
by_before a b c h = ap (λ x. then_by x b c) h

by_rest : (a b c : Bool) → b ≡ false → c ≡ true → then_by a b c ≡ true
by_rest true b c h k = refl
by_rest false b c h k = (λ i. not (h i) && k i)

-- ---- entries

module _ (kind : Op) (first : ℕ) (d e : Entry) where
  -- entries on one word whose places are in order stand in the printed order
  pub stands_in-order : d.got ≤ 18446744073709551615 → e.got ≤ 18446744073709551615 → d.ask.word ≡ e.ask.word → is_lt (place_cmp (place_of kind first e) (place_of kind first d)) ≡ false → stands_before kind first d e ≡ true
  unfolding stands_before
  stands_in-order a b same h = ⊎_elim (λ less. absurd (omega arith)) (λ rest. fetched rest.1) (later e.ask.word d.ask.word _ h)
    where
      ranks : is_lt (ordering_then (nat_cmp e.rank d.rank) (nat_cmp e.index d.index)) ≡ false → then_by (nat_lt d.rank e.rank) (nat_lt e.rank d.rank) (nat_le d.index e.index) ≡ true
      ranks k = ⊎_elim (λ less. by_before (nat_lt d.rank e.rank) (nat_lt e.rank d.rank) (nat_le d.index e.index) (lt-ltb d.rank e.rank less)) (λ rest. by_rest (nat_lt d.rank e.rank) (nat_lt e.rank d.rank) (nat_le d.index e.index) (le-ltb e.rank d.rank (let same : e.rank ≡ d.rank = rest.0 in omega arith)) (le-leb d.index e.index (later_last e.index d.index rest.1))) (later e.rank d.rank (nat_cmp e.index d.index) k)

      changed : (x y : Bool) (c : Bool) → ((x ≡ false) × (y ≡ true)) ⊎ ((y ≡ x) × (c ≡ true)) → then_by (not x && y) (not y && x) c ≡ true
      changed x y c h = ⊎_elim (λ less. (λ i. then_by (not (less.0 i) && less.1 i) (not (less.1 i) && less.0 i) c)) (λ rest. alike x y c rest.0 rest.1) h
        where
          alike : (u v t : Bool) → v ≡ u → t ≡ true → then_by (not u && v) (not v && u) t ≡ true
          alike true true t m n = n
          alike false false t m n = n
          alike true false t m n = absurd (false≢true m)
          alike false true t m n = absurd (true≢false m)

      changes_first : is_lt (ordering_then (bool_cmp (changes e) (changes d)) (ordering_then (nat_cmp e.rank d.rank) (nat_cmp e.index d.index))) ≡ false
          → then_by (not (changes d) && changes e) (not (changes e) && changes d) (then_by (nat_lt d.rank e.rank) (nat_lt e.rank d.rank) (nat_le d.index e.index)) ≡ true
      changes_first k = changed (changes d) (changes e) (then_by (nat_lt d.rank e.rank) (nat_lt e.rank d.rank) (nat_le d.index e.index)) (⊎_elim (λ less. inl less) (λ rest. inr (rest.0, ranks rest.1)) (later_changes (changes e) (changes d) (ordering_then (nat_cmp e.rank d.rank) (nat_cmp e.index d.index)) k))

      fetched : is_lt (ordering_then (nat_cmp (fetched_key kind first e.got) (fetched_key kind first d.got)) (ordering_then (bool_cmp (changes e) (changes d)) (ordering_then (nat_cmp e.rank d.rank) (nat_cmp e.index d.index)))) ≡ false
          → then_by (fetched_before kind first d.got e.got) (fetched_before kind first e.got d.got) (then_by (not (changes d) && changes e) (not (changes e) && changes d) (then_by (nat_lt d.rank e.rank) (nat_lt e.rank d.rank) (nat_le d.index e.index))) ≡ true
      fetched k = ⊎_elim (λ less. by_before (fetched_before kind first d.got e.got) (fetched_before kind first e.got d.got) (then_by (not (changes d) && changes e) (not (changes e) && changes d) (then_by (nat_lt d.rank e.rank) (nat_lt e.rank d.rank) (nat_le d.index e.index))) (key-before kind first d.got e.got a b less)) (λ rest. by_rest (fetched_before kind first d.got e.got) (fetched_before kind first e.got d.got) (then_by (not (changes d) && changes e) (not (changes e) && changes d) (then_by (nat_lt d.rank e.rank) (nat_lt e.rank d.rank) (nat_le d.index e.index))) (key-same kind first e.got d.got b a rest.0) (changes_first rest.1)) (later (fetched_key kind first e.got) (fetched_key kind first d.got) (ordering_then (bool_cmp (changes e) (changes d)) (ordering_then (nat_cmp e.rank d.rank) (nat_cmp e.index d.index))) k)

-- ---- words

-- words of sorted places do not fall
pub sorted-by_word : (ps : List Place) → AreSorted ps → IsByWord ps
sorted-by_word [] h = tt
sorted-by_word (p ∷ []) h = (tt, tt)
sorted-by_word (p ∷ q ∷ ps) h =
    let rest = sorted-by_word (q ∷ ps) (λ k d low lt. let at : suc (k + 1) ≡ suc k + 1 = omega arith in subst (λ j. is_lt (place_cmp (get_or (p ∷ q ∷ ps) j d) (get_or (q ∷ ps) k d)) ≡ false) (sym at) (h (suc k) d (omega arith) (omega arith))) in
    let first : p.word ≤ q.word = ⊎_elim (λ less. omega arith) (λ same. let e : q.word ≡ p.word = same.0 in omega arith) (later q.word p.word _ (h 0 p (omega arith) (omega arith))) in
    ((first, all_weaker (λ (x : Place). q.word ≤ x.word) (λ (x : Place). p.word ≤ x.word) (λ x le. omega arith) ps rest.0), rest)
