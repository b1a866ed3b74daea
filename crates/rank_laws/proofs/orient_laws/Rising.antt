-- Rising lists that have the same are one.
use Rattle.std.proofs.Common.{◌≡◌, ◌⊎◌, ℕ, ◌<◌, ◌≤◌, Bool, true, false, cond, ◌||◌, ◌==◌, List, [], ◌∷◌, ◌++◌, map, refl, sym, ap, ◌∙◌, subst, inl, inr, arith}
use Rattle.std.specs.List.{list_any, AllByRecursion, filter}
use Rattle.std.proofs.lemmas.Bool.{or_left, eq-eqb, eqb-true}
use Rattle.plain_lists.proofs.Each.{all_both, all_weaker, all_from, all_map, all_mapped, all_filter, all_append}
use Rattle.plain_lists.proofs.Finding.{none_passes, among}
use Rattle.sf_defs.specs.Asks.{IsRising}

-- ---- parts and sums of rising lists

module _ {X : Type 0} (key : X → ℕ) where
  -- a choice from a rising list
  pub rising-filter : (p : X → Bool) (xs : List X) → IsRising (map key xs) → IsRising (map key (filter p xs))
  rising-filter p [] h = tt
  rising-filter p (x ∷ xs) h = go (p x) (rising-filter p xs h.1)
    where
      above : AllByRecursion (λ k. key x < k) (map key (filter p xs))
      above = all_map (λ k. key x < k) key (filter p xs) (all_filter (λ y. key x < key y) p xs (all_mapped (λ k. key x < k) key xs h.0))

      go : (b : Bool) → IsRising (map key (filter p xs)) → IsRising (map key (cond b (x ∷ filter p xs) (filter p xs)))
      go true r = (above, r)
      go false r = r

  -- two rising lists end to end
  pub rising-append : (mid : ℕ) (xs ys : List X) → IsRising (map key xs) → AllByRecursion (λ x. key x < mid) xs → IsRising (map key ys) → AllByRecursion (λ y. mid ≤ key y) ys → IsRising (map key (xs ++ ys))
  rising-append mid [] ys p low q high = q
  rising-append mid (x ∷ xs) ys p low q high = (
    all_map (λ k. key x < k) key (xs ++ ys) (all_append (λ y. key x < key y) xs ys (all_mapped (λ k. key x < k) key xs p.0) (all_weaker (λ y. mid ≤ key y) (λ y. key x < key y) (λ y h. omega (arith, low.0)) ys high)),
    rising-append mid xs ys p.1 low.1 q high,
  )

-- ---- ordered lists with the same members

-- each stands before all that follow
abbrev pub Ordered : {X : Type 0} → (X → X → Type 0) → List X → Type 0
Ordered before [] = Unit {0}
Ordered before (x ∷ xs) = AllByRecursion (before x) xs × Ordered before xs

-- Things with an order, each of which is told by its name.
module _ {X P : Type 0} (before : X → X → Type 0) (once : (x y : X) → before x y → before y x → ⊥) (name : X → P) (has : P → X → Bool) (own : (x : X) → has (name x) x ≡ true) (told : (p : P) (x : X) → has p x ≡ true → p ≡ name x) (Good : X → Type 0) (one : (x y : X) → Good x → Good y → name x ≡ name y → x ≡ y) where
  -- where a list has the name of x, its first entry is x or stands before it
  first_or_later : (x y : X) (ys : List X) → Good x → AllByRecursion Good (y ∷ ys) → Ordered before (y ∷ ys) → list_any (has (name x)) (y ∷ ys) ≡ true → (x ≡ y) ⊎ before y x
  first_or_later x y ys f g r h = go (has (name x) y) refl h
    where
      go : (b : Bool) → has (name x) y ≡ b → (b || list_any (has (name x)) ys) ≡ true → (x ≡ y) ⊎ before y x
      go true e h = inl (one x y f g.0 (told (name x) y e))
      go false e h =
          let (z, both, e) = among (λ z. Good z × before y z) (has (name x)) ys (all_both Good (before y) (λ z. Good z × before y z) (λ z a b. (a, b)) ys g.1 r.0) h in
          inr (subst (before y) (sym (one x z f both.0 (told (name x) z e))) both.1)

  -- what stands behind x has other names
  none_behind : (x : X) (xs : List X) → Good x → AllByRecursion Good xs → AllByRecursion (before x) xs → list_any (has (name x)) xs ≡ false
  none_behind x xs f g r = none_passes (has (name x)) xs (all_both Good (before x) (λ z. has (name x) z ≡ false) other xs g r)
    where
      other : (z : X) → Good z → before x z → has (name x) z ≡ false
      other z good above = go (has (name x) z) refl
        where
          go : (b : Bool) → has (name x) z ≡ b → has (name x) z ≡ false
          go true e = absurd (let same = one x z f good (told (name x) z e) in once x z above (subst (λ w. before z w) (sym same) (subst (λ w. before w z) same above)))
          go false e = e

  pub ordered-one : (xs ys : List X) → AllByRecursion Good xs → AllByRecursion Good ys → Ordered before xs → Ordered before ys → ((p : P) → list_any (has p) xs ≡ list_any (has p) ys) → xs ≡ ys
  ordered-one [] [] f g r q h = refl
  ordered-one [] (y ∷ ys) f g r q h = absurd (cc (h (name y) ∙ or_left (has (name y) y) (list_any (has (name y)) ys) (own y)))
  ordered-one (x ∷ xs) [] f g r q h = absurd (cc (sym (h (name x)) ∙ or_left (has (name x) x) (list_any (has (name x)) xs) (own x)))
  ordered-one (x ∷ xs) (y ∷ ys) f g r q h = λ i. same i ∷ ordered-one xs ys f.1 g.1 r.1 q.1 rests i
    where
      heads : (x ≡ y) ⊎ before y x → (y ≡ x) ⊎ before x y → x ≡ y
      heads (inl e) w = e
      heads (inr l) (inl e) = sym e
      heads (inr l) (inr k) = absurd (once x y k l)

      same : x ≡ y
      same = heads (first_or_later x y ys f.0 g q (sym (h (name x)) ∙ or_left (has (name x) x) (list_any (has (name x)) xs) (own x))) (first_or_later y x xs g.0 f r (h (name y) ∙ or_left (has (name y) y) (list_any (has (name y)) ys) (own y)))

      rests : (p : P) → list_any (has p) xs ≡ list_any (has p) ys
      rests p = go (has p x) refl
        where
          go : (b : Bool) → has p x ≡ b → list_any (has p) xs ≡ list_any (has p) ys
          go true e =
              let here = told p x e in
              let there : p ≡ name y = here ∙ ap name same in
              (ap (λ n. list_any (has n) xs) here ∙ none_behind x xs f.0 f.1 r.0) ∙ sym (ap (λ n. list_any (has n) ys) there ∙ none_behind y ys g.0 g.1 q.0)
          go false e = sym (ap (λ t. t || list_any (has p) xs) e) ∙ (h p ∙ ap (λ t. t || list_any (has p) ys) (ap (has p) (sym same) ∙ e))

-- a rising list is ordered by its numbers
rising-ordered : {X : Type 0} (key : X → ℕ) (xs : List X) → IsRising (map key xs) → Ordered (λ x y. key x < key y) xs
rising-ordered key [] h = tt
rising-ordered key (x ∷ xs) h = (all_mapped (λ k. key x < k) key xs h.0, rising-ordered key xs h.1)

-- Things with numbers, each of which is told by its name: rising lists with the same names are one.
pub rising-one : {X P : Type 0} (key : X → ℕ) (name : X → P) (has : P → X → Bool) → ((x : X) → has (name x) x ≡ true) → ((p : P) (x : X) → has p x ≡ true → p ≡ name x) → (Good : X → Type 0) → ((x y : X) → Good x → Good y → name x ≡ name y → x ≡ y)
    → (xs ys : List X) → AllByRecursion Good xs → AllByRecursion Good ys → IsRising (map key xs) → IsRising (map key ys) → ((p : P) → list_any (has p) xs ≡ list_any (has p) ys) → xs ≡ ys
rising-one key name has own told Good one xs ys f g r q h = ordered-one (λ x y. key x < key y) (λ x y l k. omega (arith, l, k)) name has own told Good one xs ys f g (rising-ordered key xs r) (rising-ordered key ys q) h

-- ---- numbers

same-map : (xs : List ℕ) → map (λ n. n) xs ≡ xs
same-map [] = refl
same-map (x ∷ xs) = λ i. x ∷ same-map xs i

-- rising numbers that are the same
pub rising-numbers : (xs ys : List ℕ) → IsRising xs → IsRising ys → ((n : ℕ) → list_any (λ k. n == k) xs ≡ list_any (λ k. n == k) ys) → xs ≡ ys
rising-numbers xs ys r q h =
    rising-one (λ n. n) (λ n. n) (λ n k. n == k) (λ n. eq-eqb n n refl) (λ n k e. eqb-true n k e) (λ n. Unit {0}) (λ n k a b e. e) xs ys
    (all_from (λ n. Unit {0}) (λ n. tt) xs) (all_from (λ n. Unit {0}) (λ n. tt) ys) (subst IsRising (sym (same-map xs)) r) (subst IsRising (sym (same-map ys)) q) h
