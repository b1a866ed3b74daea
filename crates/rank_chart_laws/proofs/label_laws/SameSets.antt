-- Lists that rise strictly are equal where they have the same elements, and so are labels.
use Rattle.std.proofs.Common.{◌≡◌, ℕ, ℤ, Bool, true, false, ◌||◌, List, [], ◌∷◌, refl, sym, ap, ap₂, ◌∙◌, subst, Ordering, Less, Equal, Greater}
use Rattle.std.specs.Prelude.{fold}
use Rattle.std.specs.Cmp.{IsTotalOrder}
use Rattle.std.specs.List.{list_any, AllByRecursion}
use Rattle.std.specs.List.Sorted.{IsStrictlySortedBy}
use Rattle.std.specs.Ordering.{is_eq, match_ordering, ordering_reverse, nat_cmp, int_cmp}
use Rattle.std.specs.BTreeSet.{insert_key}
use Rattle.std.proofs.lemmas.Cmp.{tied_itself, nat_cmp_total, int_cmp_total, on_total, then_total}
use Rattle.std.proofs.lemmas.Map.Lookups.{exact_pairs, exact_unsigned, exact_signed}
use Rattle.plain_lists.proofs.Each.{all_weaker}
use Rattle.plain_lists.proofs.Finding.{none_passes, any_same}
use Rattle.plex_defs.specs.Labels.{same_pair, with_pair, label_of}
use Rattle.plex_label.specs.Pairs.{pair_cmp}
use Rattle.plex_label.proofs.Pairs.{inserted-pair, one-pair}

-- less is not equal, either way round
less-apart : (r : Ordering) → r ≡ Less → is_eq r ≡ false
less-apart Less h = refl
less-apart Equal h = absurd cc
less-apart Greater h = absurd cc

greater-less : (r s : Ordering) → r ≡ ordering_reverse s → r ≡ Greater → s ≡ Less
greater-less r Less e h = refl
greater-less r Equal e h = absurd cc
greater-less r Greater e h = absurd cc

less-greater : (r s : Ordering) → r ≡ ordering_reverse s → s ≡ Less → r ≡ Greater
less-greater r Less e h = e
less-greater r Equal e h = absurd cc
less-greater r Greater e h = absurd cc

greater-apart : (r : Ordering) → r ≡ Greater → is_eq r ≡ false
greater-apart Greater h = refl
greater-apart Less h = absurd cc
greater-apart Equal h = absurd cc

-- what is true is not what is false
clash : (b c : Bool) → b ≡ true → c ≡ false → b ≡ c → ⊥
clash true true t f e = cc
clash true false t f e = cc
clash false c t f e = cc

module _ {K : Type 0} {R : K → K → Ordering} (o : IsTotalOrder R) (exact : (x y : K) → R x y ≡ Equal → x ≡ y) where
  -- the list has this element
  abbrev pub has : K → List K → Bool
  has q ks = list_any (λ k. is_eq (R q k)) ks

  -- ---- one more element

  pub has-insert : (ks : List K) (k q : K) → has q (insert_key R ks k) ≡ (is_eq (R q k) || has q ks)
  has-insert [] k q = refl
  has-insert (x ∷ ks) k q = go (R k x) refl (has-insert ks k q)
    where
      swapped : (a b c : Bool) → (b || (a || c)) ≡ (a || (b || c))
      swapped true true c = refl
      swapped true false c = refl
      swapped false true c = refl
      swapped false false c = refl

      twice : (a c : Bool) → (a || c) ≡ (a || (a || c))
      twice true c = refl
      twice false c = refl

      go : (r : Ordering) → R k x ≡ r → has q (insert_key R ks k) ≡ (is_eq (R q k) || has q ks) → has q (match_ordering r (k ∷ x ∷ ks) (x ∷ ks) (x ∷ insert_key R ks k)) ≡ (is_eq (R q k) || has q (x ∷ ks))
      go Less e h = refl
      go Equal e h = subst (λ (b : K). (is_eq (R q x) || has q ks) ≡ (is_eq (R q b) || (is_eq (R q x) || has q ks))) (sym (exact k x e)) (twice (is_eq (R q x)) (has q ks))
      go Greater e h = ap (λ b. is_eq (R q x) || b) h ∙ swapped (is_eq (R q k)) (is_eq (R q x)) (has q ks)

  all-insert : (P : K → Type 0) (ks : List K) (k : K) → P k → AllByRecursion P ks → AllByRecursion P (insert_key R ks k)
  all-insert P [] k p all = (p, tt)
  all-insert P (x ∷ ks) k p all = go (R k x) (all-insert P ks k p all.1)
    where
      go : (r : Ordering) → AllByRecursion P (insert_key R ks k) → AllByRecursion P (match_ordering r (k ∷ x ∷ ks) (x ∷ ks) (x ∷ insert_key R ks k))
      go Less h = (p, all)
      go Equal h = all
      go Greater h = (all.0, h)

  pub rises-insert : (ks : List K) (k : K) → IsStrictlySortedBy R ks → IsStrictlySortedBy R (insert_key R ks k)
  unfolding IsStrictlySortedBy
  rises-insert [] k s = (tt, tt)
  rises-insert (x ∷ ks) k s = go (R k x) refl (rises-insert ks k s.1)
    where
      go : (r : Ordering) → R k x ≡ r → IsStrictlySortedBy R (insert_key R ks k) → IsStrictlySortedBy R (match_ordering r (k ∷ x ∷ ks) (x ∷ ks) (x ∷ insert_key R ks k))
      go Less e h = ((e, all_weaker _ _ (λ y less. o.trans k x y e less) ks s.0), s)
      go Equal e h = s
      go Greater e h = (all-insert (λ y. R x y ≡ Less) ks k (greater-less (R k x) (R x k) (o.antisymm k x) e) s.0, h)

  -- ---- equal lists

  -- what stands below all of them is not among them
  none-below : (x : K) (ks : List K) → AllByRecursion (λ y. R x y ≡ Less) ks → has x ks ≡ false
  none-below x ks all = none_passes _ ks (all_weaker _ _ (λ y less. less-apart (R x y) less) ks all)

  -- it has its first element
  has-first : (x : K) (ks : List K) → has x (x ∷ ks) ≡ true
  has-first x ks = ap (λ r. is_eq r || has x ks) (tied_itself o x)

  tail-has : (x : K) (xs ys : List K) → AllByRecursion (λ y. R x y ≡ Less) xs → AllByRecursion (λ y. R x y ≡ Less) ys → ((q : K) → has q (x ∷ xs) ≡ has q (x ∷ ys)) → (q : K) → has q xs ≡ has q ys
  tail-has x xs ys below-xs below-ys same q = go (R q x) refl (same q)
    where
      go : (r : Ordering) → R q x ≡ r → (is_eq r || has q xs) ≡ (is_eq r || has q ys) → has q xs ≡ has q ys
      go Less e h = h
      go Equal e h = subst (λ (b : K). has b xs ≡ has b ys) (sym (exact q x e)) (none-below x xs below-xs ∙ sym (none-below x ys below-ys))
      go Greater e h = h

  below-all : (x y : K) (ys : List K) → R x y ≡ Less → AllByRecursion (λ z. R y z ≡ Less) ys → has x (y ∷ ys) ≡ false
  below-all x y ys less all = none-below x (y ∷ ys) (less, all_weaker _ _ (λ z further. o.trans x y z less further) ys all)

  pub same-elements : (xs ys : List K) → IsStrictlySortedBy R xs → IsStrictlySortedBy R ys → ((q : K) → has q xs ≡ has q ys) → xs ≡ ys
  unfolding IsStrictlySortedBy
  same-elements [] [] s t same = refl
  same-elements [] (y ∷ ys) s t same = absurd (clash _ _ (has-first y ys) refl (sym (same y)))
  same-elements (x ∷ xs) [] s t same = absurd (clash _ _ (has-first x xs) refl (same x))
  same-elements (x ∷ xs) (y ∷ ys) s t same = go (R x y) refl (same-elements xs ys s.1 t.1)
    where
      go : (r : Ordering) → R x y ≡ r → (((q : K) → has q xs ≡ has q ys) → xs ≡ ys) → (x ∷ xs) ≡ (y ∷ ys)
      go Less e rest = absurd (clash _ _ (has-first x xs) (below-all x y ys e t.0) (same x))
      go Greater e rest = absurd (clash _ _ (has-first y ys) (below-all y x xs (greater-less (R x y) (R y x) (o.antisymm x y) e) s.0) (sym (same y)))
      go Equal e rest =
          let is = exact x y e in
          let below = subst (λ (b : K). AllByRecursion (λ z. R b z ≡ Less) ys) (sym is) t.0 in
          let same-rest = tail-has x xs ys s.0 below (λ q. same q ∙ ap (λ b. is_eq (R q b) || has q ys) (sym is)) in
          ap₂ (λ a b. a ∷ b) is (rest same-rest)

-- ---- labels

pairs-total : IsTotalOrder pair_cmp
pairs-total = then_total (on_total (λ (p : ℕ × ℤ). p.0) nat_cmp_total) (on_total (λ (p : ℕ × ℤ). p.1) int_cmp_total)

pairs-exact : (a b : ℕ × ℤ) → pair_cmp a b ≡ Equal → a ≡ b
pairs-exact = exact_pairs nat_cmp int_cmp exact_unsigned exact_signed

-- a label has what it had and the pairs that it is given, and rises
label-has : (label pairs : List (ℕ × ℤ)) (q : ℕ × ℤ) → has pairs-total pairs-exact q (fold with_pair label pairs) ≡ (has pairs-total pairs-exact q label || has pairs-total pairs-exact q pairs)
label-has label [] q = either-none (has pairs-total pairs-exact q label)
  where
    either-none : (b : Bool) → b ≡ (b || false)
    either-none true = refl
    either-none false = refl
label-has label (p ∷ pairs) q =
    label-has (with_pair label p) pairs q
    ∙ ap (λ l. has pairs-total pairs-exact q l || has pairs-total pairs-exact q pairs) (sym (inserted-pair label p))
    ∙ ap (λ b. b || has pairs-total pairs-exact q pairs) (has-insert pairs-total pairs-exact label p q)
    ∙ turned (is_eq (pair_cmp q p)) (has pairs-total pairs-exact q label) (has pairs-total pairs-exact q pairs)
  where
    turned : (a b c : Bool) → ((a || b) || c) ≡ (b || (a || c))
    turned true true c = refl
    turned true false c = refl
    turned false true c = refl
    turned false false c = refl

label-rises : (label pairs : List (ℕ × ℤ)) → IsStrictlySortedBy pair_cmp label → IsStrictlySortedBy pair_cmp (fold with_pair label pairs)
label-rises label [] s = s
label-rises label (p ∷ pairs) s = label-rises (with_pair label p) pairs (subst (IsStrictlySortedBy pair_cmp) (inserted-pair label p) (rises-insert pairs-total pairs-exact label p s))

empty-rises : IsStrictlySortedBy {K = ℕ × ℤ} pair_cmp []
unfolding IsStrictlySortedBy
empty-rises = tt

-- labels of the same pairs are equal
pub same-labels : (ps qs : List (ℕ × ℤ)) → ((q : ℕ × ℤ) → list_any (same_pair q) ps ≡ list_any (same_pair q) qs) → label_of ps ≡ label_of qs
same-labels ps qs same =
    same-elements pairs-total pairs-exact (label_of ps) (label_of qs) (label-rises [] ps empty-rises) (label-rises [] qs empty-rises)
    (λ q. label-has [] ps q ∙ by-tests ps q ∙ same q ∙ sym (by-tests qs q) ∙ sym (label-has [] qs q))
  where
    by-tests : (rs : List (ℕ × ℤ)) (q : ℕ × ℤ) → list_any (λ a. is_eq (pair_cmp q a)) rs ≡ list_any (same_pair q) rs
    by-tests rs q = any_same (λ a. is_eq (pair_cmp q a)) (same_pair q) (one-pair q) rs
