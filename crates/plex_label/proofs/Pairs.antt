-- Labels as sets of the kit: one order of pairs, one pair more, the pairs of one point.
use Rattle.std.proofs.Common.{◌≡◌, ℕ, ℤ, pos, negsuc, Bool, true, false, cond, not, ◌&&◌, ◌||◌, ◌==◌, List, [], ◌∷◌, map, refl, ap, ◌∙◌, ◌<◌, nat_lt, FitsSigned, w32, Ordering, Less, Equal, Greater, arith}
use Rattle.std.specs.Prelude.{int_lt, filter}
use Rattle.std.specs.List.{list_any, AllByRecursion}
use Rattle.std.specs.List.Sorted.{IsStrictlySortedBy}
use Rattle.std.specs.Ordering.{is_eq, is_lt, is_gt, is_le, int_eq, nat_cmp, int_cmp, ordering_then, match_ordering}
use Rattle.std.specs.BTreeSet.{insert_key}
use Rattle.std.proofs.lemmas.Bool.Decides.{nat_tests}
use Rattle.std.proofs.lemmas.Cmp.{int_eq_equiv}
use Rattle.plain_lists.proofs.Each.{all_weaker, all_both, all_map, all_filter}
use Rattle.plain_lists.proofs.Filters.{filter_agree, filter_passing}
use Rattle.plain_lists.proofs.Finding.{any_same}
use Rattle.plex_defs.specs.Labels.{same_pair, comes_before, has_pair, with_pair, points_with, values_at}
use Rattle.plex_label.specs.Pairs.{IsPair, pair_cmp, is_of_point}

-- one answer by this order, or by the tests of the definitions
by-tests : {X : Type 0} (lower same below above : Bool) (x y z : X) → match_ordering (ordering_then (cond lower Less (cond same Equal Greater)) (cond below Less (cond above Greater Equal))) x y z
    ≡ cond (lower || (same && below)) x (cond (same && is_eq (cond below Less (cond above Greater Equal))) y z)
by-tests true same below above x y z = refl
by-tests false false below above x y z = refl
by-tests false true true above x y z = refl
by-tests false true false true x y z = refl
by-tests false true false false x y z = refl

pub matched : {X : Type 0} (a b : ℕ × ℤ) (x y z : X) → match_ordering (pair_cmp a b) x y z ≡ cond (comes_before a b) x (cond (same_pair a b) y z)
matched a b x y z = by-tests (nat_lt a.0 b.0) (a.0 == b.0) (int_lt a.1 b.1) (int_lt b.1 a.1) x y z

-- a set of pairs with one more is the label with one more
pub inserted-pair : (label : List (ℕ × ℤ)) (pair : ℕ × ℤ) → insert_key pair_cmp label pair ≡ with_pair label pair
inserted-pair [] pair = refl
inserted-pair (a ∷ label) pair = ap (match_ordering (pair_cmp pair a) (pair ∷ a ∷ label) (a ∷ label)) (ap (λ l. a ∷ l) (inserted-pair label pair)) ∙ matched pair a (pair ∷ a ∷ label) (a ∷ label) (a ∷ with_pair label pair)

is-same : (lower same below above : Bool) → (lower ≡ true → same ≡ false) → is_eq (ordering_then (cond lower Less (cond same Equal Greater)) (cond below Less (cond above Greater Equal))) ≡ (same && is_eq (cond below Less (cond above Greater Equal)))
is-same true true below above h = absurd (cc (h refl))
is-same true false below above h = refl
is-same false true below above h = refl
is-same false false below above h = refl

less-apart : (p q : ℕ) → nat_lt p q ≡ true → (p == q) ≡ false
less-apart p q h = grind (arith, nat_tests)

pub one-pair : (a b : ℕ × ℤ) → is_eq (pair_cmp a b) ≡ same_pair a b
one-pair a b = is-same (nat_lt a.0 b.0) (a.0 == b.0) (int_lt a.1 b.1) (int_lt b.1 a.1) (less-apart a.0 b.0)

-- a set of pairs has what the label has
pub found-pair : (label : List (ℕ × ℤ)) (pair : ℕ × ℤ) → list_any (λ a. is_eq (pair_cmp pair a)) label ≡ has_pair label pair
found-pair label pair = any_same (λ a. is_eq (pair_cmp pair a)) (same_pair pair) (one-pair pair) label

-- one pair more, in its range
pub pairs-inserted : (label : List (ℕ × ℤ)) (pair : ℕ × ℤ) → IsPair pair → AllByRecursion IsPair label → AllByRecursion IsPair (with_pair label pair)
pairs-inserted [] pair p h = (p, tt)
pairs-inserted (a ∷ label) pair p h = go (comes_before pair a) (same_pair pair a) (pairs-inserted label pair p h.1)
  where
    go : (b c : Bool) → AllByRecursion IsPair (with_pair label pair) → AllByRecursion IsPair (cond b (pair ∷ a ∷ label) (cond c (a ∷ label) (a ∷ with_pair label pair)))
    go true c r = (p, h)
    go false true r = h
    go false false r = (h.0, r)

-- ---- the pairs of one point

-- the pairs from the least value to the greatest one of a point
within-point : (r s t : Ordering) → is_gt s ≡ false → is_lt t ≡ false → (is_le (ordering_then r s) && not (is_lt (ordering_then r t))) ≡ is_eq r
within-point Less s t low high = refl
within-point Greater s t low high = refl
within-point Equal Less Less low high = absurd (cc)
within-point Equal Less Equal low high = refl
within-point Equal Less Greater low high = refl
within-point Equal Equal Less low high = absurd (cc)
within-point Equal Equal Equal low high = refl
within-point Equal Equal Greater low high = refl
within-point Equal Greater t low high = absurd (cc)

least-value : (v : ℤ) → FitsSigned w32 v → is_gt (int_cmp (negsuc 2147483647) v) ≡ false
least-value (pos n) fits = refl
least-value (negsuc n) fits = not-greater (nat_lt n 2147483647) (nat_lt 2147483647 n) (let low : n < 2147483648 = fits.sfits in grind (arith, nat_tests))
  where
    not-greater : (b c : Bool) → c ≡ false → is_gt (cond b Less (cond c Greater Equal)) ≡ false
    not-greater true c h = refl
    not-greater false true h = absurd (cc)
    not-greater false false h = refl

greatest-value : (v : ℤ) → FitsSigned w32 v → is_lt (int_cmp (pos 2147483647) v) ≡ false
greatest-value (pos n) fits = not-less (nat_lt 2147483647 n) (nat_lt n 2147483647) (let low : n < 2147483648 = fits.sfits in grind (arith, nat_tests))
  where
    not-less : (b c : Bool) → b ≡ false → is_lt (cond b Less (cond c Greater Equal)) ≡ false
    not-less true c h = absurd (cc)
    not-less false true h = refl
    not-less false false h = refl
greatest-value (negsuc n) fits = refl

number-test : (p q : ℕ) → is_eq (nat_cmp p q) ≡ (q == p)
number-test p q = grind (arith, nat_tests)

-- the values that a set of pairs has in the range of a point
pub values-within : (label : List (ℕ × ℤ)) (p : ℕ) → AllByRecursion IsPair label → map (λ (a : ℕ × ℤ). a.1) (filter (is_of_point p) label) ≡ values_at label p
values-within label p all =
    ap (map (λ (a : ℕ × ℤ). a.1)) (filter_agree (is_of_point p) (λ (a : ℕ × ℤ). a.0 == p) label
    (all_weaker IsPair (λ (a : ℕ × ℤ). is_of_point p a ≡ (a.0 == p)) (λ a fits. within-point (nat_cmp p a.0) (int_cmp (negsuc 2147483647) a.1) (int_cmp (pos 2147483647) a.1) (least-value a.1 fits) (greatest-value a.1 fits) ∙ number-test p a.0) label all))

-- ---- in order

-- values that pass one test are equal
same-values : (v w x : ℤ) → int_eq v x ≡ true → int_eq w x ≡ true → int_cmp v w ≡ Equal
same-values v w x p q = is-equal (int_cmp v w) (int_eq_equiv.congr v x w p ∙ int_eq_equiv.symm x w ∙ q)
  where
    is-equal : (r : Ordering) → is_eq r ≡ true → r ≡ Equal
    is-equal Less h = absurd (cc)
    is-equal Equal h = refl
    is-equal Greater h = absurd (cc)

first-less : (r s : Ordering) → s ≡ Equal → ordering_then r s ≡ Less → r ≡ Less
first-less Less s e h = refl
first-less Equal s e h = absurd (cc)
first-less Greater s e h = absurd (cc)

second-less : (r s : Ordering) → r ≡ Equal → ordering_then r s ≡ Less → s ≡ Less
second-less Less s e h = absurd (cc)
second-less Equal s e h = h
second-less Greater s e h = absurd (cc)

same-points : (p q r : ℕ) → (p == r) ≡ true → (q == r) ≡ true → nat_cmp p q ≡ Equal
same-points p q r h k = grind (arith, nat_tests)

-- the points with one value rise
pub points-rise : (label : List (ℕ × ℤ)) (v : ℤ) → IsStrictlySortedBy pair_cmp label → IsStrictlySortedBy nat_cmp (points_with label v)
unfolding IsStrictlySortedBy
points-rise [] v h = tt
points-rise (a ∷ label) v h = go (int_eq a.1 v) refl (points-rise label v h.1)
  where
    go : (b : Bool) → int_eq a.1 v ≡ b → IsStrictlySortedBy nat_cmp (points_with label v) → IsStrictlySortedBy nat_cmp (map (λ (b : ℕ × ℤ). b.0) (cond b (a ∷ filter (λ (b : ℕ × ℤ). int_eq b.1 v) label) (filter (λ (b : ℕ × ℤ). int_eq b.1 v) label)))
    go true e r = (
      all_map (λ q. nat_cmp a.0 q ≡ Less) (λ (b : ℕ × ℤ). b.0) (filter (λ (b : ℕ × ℤ). int_eq b.1 v) label)
          (all_both (λ (b : ℕ × ℤ). pair_cmp a b ≡ Less) (λ (b : ℕ × ℤ). int_eq b.1 v ≡ true) _ (λ b less same. first-less (nat_cmp a.0 b.0) (int_cmp a.1 b.1) (same-values a.1 b.1 v e same) less) (filter (λ (b : ℕ × ℤ). int_eq b.1 v) label) (all_filter _ (λ (b : ℕ × ℤ). int_eq b.1 v) label h.0) (filter_passing (λ (b : ℕ × ℤ). int_eq b.1 v) label)),
      r,
    )
    go false e r = r

-- the values of one point rise
pub values-rise : (label : List (ℕ × ℤ)) (p : ℕ) → IsStrictlySortedBy pair_cmp label → IsStrictlySortedBy int_cmp (values_at label p)
unfolding IsStrictlySortedBy
values-rise [] p h = tt
values-rise (a ∷ label) p h = go (a.0 == p) refl (values-rise label p h.1)
  where
    go : (b : Bool) → (a.0 == p) ≡ b → IsStrictlySortedBy int_cmp (values_at label p) → IsStrictlySortedBy int_cmp (map (λ (b : ℕ × ℤ). b.1) (cond b (a ∷ filter (λ (b : ℕ × ℤ). b.0 == p) label) (filter (λ (b : ℕ × ℤ). b.0 == p) label)))
    go true e r = (
      all_map (λ q. int_cmp a.1 q ≡ Less) (λ (b : ℕ × ℤ). b.1) (filter (λ (b : ℕ × ℤ). b.0 == p) label)
          (all_both (λ (b : ℕ × ℤ). pair_cmp a b ≡ Less) (λ (b : ℕ × ℤ). (b.0 == p) ≡ true) _ (λ b less same. second-less (nat_cmp a.0 b.0) (int_cmp a.1 b.1) (same-points a.0 b.0 p e same) less) (filter (λ (b : ℕ × ℤ). b.0 == p) label) (all_filter _ (λ (b : ℕ × ℤ). b.0 == p) label h.0) (filter_passing (λ (b : ℕ × ℤ). b.0 == p) label)),
      r,
    )
    go false e r = r
