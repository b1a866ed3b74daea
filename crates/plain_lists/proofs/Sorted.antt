-- Equal lists, sorted lists and sets of numbers: sorting commutes with maps that keep the order.
use Rattle.std.proofs.Common.{◌≡◌, ℕ, ◌<◌, Bool, true, false, cond, not, ◌&&◌, ◌||◌, ◌==◌, nat_le, List, [], ◌∷◌, map, refl, sym, ap, ap₂, ◌∙◌, subst, ⊎_elim, arith}
use Rattle.std.specs.List.{list_any, AllByRecursion}
use Rattle.std.specs.Cmp.Lexicographic.{same_text}
use Rattle.std.proofs.lemmas.Bool.{eqb-true, eq-eqb, leb-true, le-leb, cases_lt}
use Rattle.plain_lists.specs.Lists.{same_list, inserted, sorted, differ_as_sets}
use Rattle.plain_lists.proofs.Finding.{same_tests}

-- ---- equal lists

-- a list is the same as itself
pub same_list-self : (xs : List ℕ) → same_list xs xs ≡ true
same_list-self [] = refl
same_list-self (x ∷ xs) = rw (eq-eqb x x refl, same_list-self xs)

-- equal lists are equal the other way round
pub same_list-turn : (xs ys : List ℕ) → same_list xs ys ≡ true → same_list ys xs ≡ true
same_list-turn xs ys h = let e = same_text xs ys (sym h) in subst (λ l. same_list l xs ≡ true) e (same_list-self xs)

-- ---- sorted lists

-- what all numbers have, they have in order
pub all_inserted : (P : ℕ → Type 0) (x : ℕ) (ys : List ℕ) → P x → AllByRecursion P ys → AllByRecursion P (inserted x ys)
all_inserted P x [] p h = (p, tt)
all_inserted P x (y ∷ ys) p h = go (nat_le x y) (all_inserted P x ys p h.1)
  where
    go : (b : Bool) → AllByRecursion P (inserted x ys) → AllByRecursion P (cond b (x ∷ y ∷ ys) (y ∷ inserted x ys))
    go true r = (p, h)
    go false r = (h.0, r)

-- what all numbers have, they have when sorted
pub all_sorted : (P : ℕ → Type 0) (xs : List ℕ) → AllByRecursion P xs → AllByRecursion P (sorted xs)
unfolding sorted
all_sorted P [] h = tt
all_sorted P (x ∷ xs) h = all_inserted P x (sorted xs) h.0 (all_sorted P xs h.1)

-- f keeps the order of the numbers that have D
module _ (D : ℕ → Type 0) (f : ℕ → ℕ) (rises : (v w : ℕ) → D v → D w → v < w → f v < f w) where
  -- f keeps `≤`
  keeps-le : (x y : ℕ) → D x → D y → nat_le (f x) (f y) ≡ nat_le x y
  keeps-le x y p q = same_tests (nat_le (f x) (f y)) (nat_le x y)
      (λ h. ⊎_elim (λ b. let up = rises y x q p b in absurd (omega (arith, leb-true (f x) (f y) h))) (λ b. le-leb x y b) (cases_lt y x))
      (λ h. ⊎_elim (λ b. let up = rises x y p q b in le-leb (f x) (f y) (omega arith)) (λ b. let same : x ≡ y = omega (arith, leb-true x y h) in le-leb (f x) (f y) (omega (arith, ap f same))) (cases_lt x y))

  -- f keeps numbers apart
  keeps-eq : (x y : ℕ) → D x → D y → (f x == f y) ≡ (x == y)
  keeps-eq x y p q = same_tests (f x == f y) (x == y)
      (λ h. ⊎_elim (λ b. let up = rises y x q p b in absurd (omega (arith, eqb-true (f x) (f y) h)))
      (λ b. ⊎_elim (λ c. let up = rises x y p q c in absurd (omega (arith, eqb-true (f x) (f y) h))) (λ c. eq-eqb x y (omega arith)) (cases_lt x y)) (cases_lt y x))
      (λ h. eq-eqb (f x) (f y) (ap f (eqb-true x y h)))

  -- insertion before the map or after it
  inserted-map : (x : ℕ) (ys : List ℕ) → D x → AllByRecursion D ys → inserted (f x) (map f ys) ≡ map f (inserted x ys)
  inserted-map x [] p h = refl
  inserted-map x (y ∷ ys) p h = ap₂ (λ b r. cond b (f x ∷ f y ∷ map f ys) (f y ∷ r)) (keeps-le x y p h.0) (inserted-map x ys p h.1) ∙ out (nat_le x y)
    where
      out : (b : Bool) → cond b (f x ∷ f y ∷ map f ys) (f y ∷ map f (inserted x ys)) ≡ map f (cond b (x ∷ y ∷ ys) (y ∷ inserted x ys))
      out true = refl
      out false = refl

  -- sorting before the map or after it
  pub sorted-map : (xs : List ℕ) → AllByRecursion D xs → sorted (map f xs) ≡ map f (sorted xs)
  unfolding sorted
  sorted-map [] h = refl
  sorted-map (x ∷ xs) h = ap (inserted (f x)) (sorted-map xs h.1) ∙ inserted-map x (sorted xs) h.0 (all_sorted D xs h.1)

  -- images are equal lists just where the lists are
  pub same_list-map : (xs ys : List ℕ) → AllByRecursion D xs → AllByRecursion D ys → same_list (map f xs) (map f ys) ≡ same_list xs ys
  same_list-map [] [] p q = refl
  same_list-map [] (y ∷ ys) p q = refl
  same_list-map (x ∷ xs) [] p q = refl
  same_list-map (x ∷ xs) (y ∷ ys) p q = ap₂ (λ s t. s && t) (keeps-eq x y p.0 q.0) (same_list-map xs ys p.1 q.1)

  -- images are equal sets just where the lists are
  same_set-map : (xs ys : List ℕ) → AllByRecursion D xs → AllByRecursion D ys → same_list (sorted (map f xs)) (sorted (map f ys)) ≡ same_list (sorted xs) (sorted ys)
  same_set-map xs ys p q = ap₂ same_list (sorted-map xs p) (sorted-map ys q) ∙ same_list-map (sorted xs) (sorted ys) (all_sorted D xs p) (all_sorted D ys q)

  -- the image of a set is among images just where the set is among the sets
  same_set_among-map : (xs : List ℕ) (yss : List (List ℕ)) → AllByRecursion D xs → AllByRecursion (AllByRecursion D) yss → list_any (λ ys. same_list (sorted (map f xs)) (sorted ys)) (map (map f) yss) ≡ list_any (λ ys. same_list (sorted xs) (sorted ys)) yss
  same_set_among-map xs [] p q = refl
  same_set_among-map xs (ys ∷ yss) p q = ap₂ (λ s t. s || t) (same_set-map xs ys p q.0) (same_set_among-map xs yss p q.1)

  -- sets that differ have images that differ
  pub differ_as_sets-map : (xss : List (List ℕ)) → AllByRecursion (AllByRecursion D) xss → differ_as_sets (map (map f) xss) ≡ differ_as_sets xss
  differ_as_sets-map [] h = refl
  differ_as_sets-map (xs ∷ xss) h = ap₂ (λ s t. not s && t) (same_set_among-map xs xss h.0 h.1) (differ_as_sets-map xss h.1)
