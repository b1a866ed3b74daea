-- What goes over the places of a list goes over its elements.
use Rattle.std.proofs.Common.{◌≡◌, ℕ, ◌+◌, ◌<◌, ◌≤◌, Bool, true, false, cond, List, [], ◌∷◌, ◌++◌, map, length, get_or, sum_by, count_by, refl, sym, ap, ◌∙◌, arith, zero-add}
use Rattle.std.specs.Prelude.{filter, flat_map, sum}
use Rattle.std.specs.List.{AllByRecursion, enumerate_from}
use Rattle.std.proofs.lemmas.List.{map-id, length-map, map-append}
use Rattle.std.proofs.lemmas.List.FromFn.{length-enumerate_from, get_or-enumerate_from}
use Rattle.std.proofs.lemmas.List.Folds.{flat_map-map}
use Rattle.std.proofs.lemmas.List.Sums.{sum-map, sum_by-cons, sum_by-append}
use Rattle.std.proofs.lemmas.Grind.{flat_map-append}
use Rattle.plain_lists.specs.Lists.{below}
use Rattle.plain_lists.proofs.Each.{all_weaker, all_both, all_filter}
use Rattle.plain_lists.proofs.Filters.{filter_passing, filter_agree, filter-mapped, map_same, flat_map_same}
use Rattle.plain_lists.proofs.Below.{length-below, below-all, map-below-length, get_or-map-below}

-- ---- all places

-- the elements at all places
pub all-places : {X : Type 0} (xs : List X) (d : X) → map (λ p. get_or xs p d) (below (length xs)) ≡ xs
all-places xs d = map-below-length (λ p. get_or xs p d) (λ x. x) xs d (λ k lt. refl) ∙ map-id xs

-- each element with its place
pub places-enumerated : {X : Type 0} (xs : List X) (d : X) → enumerate_from 0 xs ≡ map (λ p. (p, get_or xs p d)) (below (length xs))
places-enumerated {X = X} xs d =
    sym (map-id (enumerate_from 0 xs))
    ∙ sym (map-below-length (λ p. (p, get_or xs p d)) (λ x. x) (enumerate_from 0 xs) (0, d) (λ k lt. sym (at k lt)))
    ∙ ap (λ n. map (λ p. (p, get_or xs p d)) (below n)) (length-enumerate_from 0 xs)
  where
    at : (k : ℕ) → k < length (enumerate_from 0 xs) → get_or (enumerate_from 0 xs) k (0, d) ≡ (k, get_or xs k d)
    at k lt = get_or-enumerate_from 0 xs k (0, d) (let e : length (enumerate_from 0 xs) ≡ length xs = length-enumerate_from 0 xs in omega (arith, e, lt)) ∙ ap (λ j. (j, get_or xs k d)) (zero-add k)

-- what is given for each number below n, with the number
pub below-enumerated : {X : Type 0} (f : ℕ → X) (n : ℕ) → enumerate_from 0 (map f (below n)) ≡ map (λ r. (r, f r)) (below n)
below-enumerated f n =
    places-enumerated (map f (below n)) (f 0)
    ∙ ap (λ j. map (λ p. (p, get_or (map f (below n)) p (f 0))) (below j)) (length-map (below n) f ∙ length-below n)
    ∙ map_same (λ p. (p, get_or (map f (below n)) p (f 0))) (λ r. (r, f r)) (below n)
    (all_weaker (λ p. p < n) (λ p. (p, get_or (map f (below n)) p (f 0)) ≡ (p, f p)) (λ p lt. ap (λ x. (p, x)) (get_or-map-below f n p (f 0) lt)) (below n) (below-all n))

-- texts of all places
pub texts-enumerated : {X Y : Type 0} (xs : List X) (d : X) (f : ℕ → List Y) (g : ℕ × X → List Y) → ((p : ℕ) → p < length xs → f p ≡ g (p, get_or xs p d)) → flat_map f (below (length xs)) ≡ flat_map g (enumerate_from 0 xs)
texts-enumerated xs d f g same =
    flat_map_same f (λ p. g (p, get_or xs p d)) (below (length xs)) (all_weaker (λ p. p < length xs) (λ p. f p ≡ g (p, get_or xs p d)) same (below (length xs)) (below-all (length xs)))
    ∙ sym (flat_map-map g (λ p. (p, get_or xs p d)) (below (length xs)))
    ∙ ap (flat_map g) (sym (places-enumerated xs d))

-- ---- chosen places

-- sums of two functions that agree
pub sum_same : {X : Type 0} (f g : X → ℕ) (xs : List X) → AllByRecursion (λ x. f x ≡ g x) xs → sum_by f xs ≡ sum_by g xs
sum_same f g xs h = sym (sum-map f xs) ∙ ap sum (map_same f g xs h) ∙ sum-map g xs

pub sum_mapped : {X Y : Type 0} (g : Y → ℕ) (f : X → Y) (xs : List X) → sum_by g (map f xs) ≡ sum_by (λ x. g (f x)) xs
sum_mapped g f [] = refl
sum_mapped g f (x ∷ xs) = sum_by-cons g (f x) (map f xs) ∙ ap (λ n. g (f x) + n) (sum_mapped g f xs) ∙ sym (sum_by-cons (λ y. g (f y)) x xs)

module _ {X : Type 0} (xs : List X) (d : X) (test : ℕ → Bool) (own : X → Bool) (same : (p : ℕ) → p < length xs → test p ≡ own (get_or xs p d)) where
  -- the chosen places have the chosen elements
  pub chosen-at : map (λ p. get_or xs p d) (filter test (below (length xs))) ≡ filter own xs
  chosen-at =
      ap (map (λ p. get_or xs p d)) (filter_agree test (λ p. own (get_or xs p d)) (below (length xs)) (all_weaker (λ p. p < length xs) (λ p. test p ≡ own (get_or xs p d)) same (below (length xs)) (below-all (length xs))))
      ∙ filter-mapped (λ p. get_or xs p d) own (below (length xs)) ∙ ap (filter own) (all-places xs d)

  -- a chosen place is below the length, and its element is chosen
  abbrev IsChosen : ℕ → Type 0
  IsChosen p = (p < length xs) × (own (get_or xs p d) ≡ true)

  chosen-are : AllByRecursion IsChosen (filter test (below (length xs)))
  chosen-are = all_both (λ p. p < length xs) (λ p. test p ≡ true) IsChosen (λ p lt t. (lt, sym (same p lt) ∙ t)) (filter test (below (length xs)))
      (all_filter (λ p. p < length xs) test (below (length xs)) (below-all (length xs))) (filter_passing test (below (length xs)))

  pub chosen-texts : {Y : Type 0} (f : ℕ → List Y) (g : X → List Y) → ((p : ℕ) → p < length xs → own (get_or xs p d) ≡ true → f p ≡ g (get_or xs p d)) → flat_map f (filter test (below (length xs))) ≡ flat_map g (filter own xs)
  chosen-texts f g each =
      flat_map_same f (λ p. g (get_or xs p d)) (filter test (below (length xs))) (all_weaker IsChosen (λ p. f p ≡ g (get_or xs p d)) (λ p c. each p c.0 c.1) (filter test (below (length xs))) chosen-are)
      ∙ sym (flat_map-map g (λ p. get_or xs p d) (filter test (below (length xs))))
      ∙ ap (flat_map g) chosen-at

  pub chosen-length : length (filter test (below (length xs))) ≡ length (filter own xs)
  chosen-length = sym (length-map (filter test (below (length xs))) (λ p. get_or xs p d)) ∙ ap length chosen-at

  pub chosen-count : (f : ℕ → Bool) (g : X → Bool) → ((p : ℕ) → p < length xs → f p ≡ g (get_or xs p d)) → count_by f (filter test (below (length xs))) ≡ count_by g (filter own xs)
  chosen-count f g each =
      sum_same (λ p. cond (f p) 1 0) (λ p. cond (g (get_or xs p d)) 1 0) (filter test (below (length xs)))
      (all_weaker IsChosen (λ p. cond (f p) 1 0 ≡ cond (g (get_or xs p d)) 1 0) (λ p c. ap (λ b. cond b 1 0) (each p c.0)) (filter test (below (length xs))) chosen-are)
      ∙ sym (sum_mapped (λ x. cond (g x) 1 0) (λ p. get_or xs p d) (filter test (below (length xs))))
      ∙ ap (sum_by (λ x. cond (g x) 1 0)) chosen-at

-- ---- lists of lists

-- the texts of some of the elements
pub texts-where : {X Y : Type 0} (test : X → Bool) (f : X → List Y) (xs : List X) → flat_map (λ x. cond (test x) (f x) []) xs ≡ flat_map f (filter test xs)
texts-where test f [] = refl
texts-where test f (x ∷ xs) = go (test x) (texts-where test f xs)
  where
    go : (b : Bool) → flat_map (λ y. cond (test y) (f y) []) xs ≡ flat_map f (filter test xs) → cond b (f x) [] ++ flat_map (λ y. cond (test y) (f y) []) xs ≡ flat_map f (cond b (x ∷ filter test xs) (filter test xs))
    go true r = ap (λ l. f x ++ l) r
    go false r = r

pub texts-nested : {X Y Z : Type 0} (f : Y → List Z) (g : X → List Y) (xs : List X) → flat_map f (flat_map g xs) ≡ flat_map (λ x. flat_map f (g x)) xs
texts-nested f g [] = refl
texts-nested f g (x ∷ xs) = flat_map-append f (g x) (flat_map g xs) ∙ ap (λ l. flat_map f (g x) ++ l) (texts-nested f g xs)

pub map-nested : {X Y Z : Type 0} (f : Y → Z) (g : X → List Y) (xs : List X) → map f (flat_map g xs) ≡ flat_map (λ x. map f (g x)) xs
map-nested f g [] = refl
map-nested f g (x ∷ xs) = map-append f (g x) (flat_map g xs) ∙ ap (λ l. map f (g x) ++ l) (map-nested f g xs)

pub sum-nested : {X Y : Type 0} (f : Y → ℕ) (g : X → List Y) (xs : List X) → sum_by f (flat_map g xs) ≡ sum_by (λ x. sum_by f (g x)) xs
sum-nested f g [] = refl
sum-nested f g (x ∷ xs) = sum_by-append f (g x) (flat_map g xs) ∙ ap (λ n. sum_by f (g x) + n) (sum-nested f g xs) ∙ sym (sum_by-cons (λ y. sum_by f (g y)) x xs)

-- the elements of an enumeration
pub enumerated-elements : {X : Type 0} (n : ℕ) (xs : List X) → map (λ (x : ℕ × X). x.1) (enumerate_from n xs) ≡ xs
enumerated-elements n [] = refl
enumerated-elements n (x ∷ xs) = ap (λ l. x ∷ l) (enumerated-elements (n + 1) xs)

pub enumerated-append : {X : Type 0} (n : ℕ) (xs ys : List X) → enumerate_from n (xs ++ ys) ≡ enumerate_from n xs ++ enumerate_from (n + length xs) ys
enumerated-append n [] ys = ap (λ j. enumerate_from j ys) (let e : n ≡ n + 0 = omega arith in e)
enumerated-append n (x ∷ xs) ys = ap (λ l. (n, x) ∷ l) (enumerated-append (n + 1) xs ys ∙ ap (λ j. enumerate_from (n + 1) xs ++ enumerate_from j ys) (let e : n + 1 + length xs ≡ n + length (x ∷ xs) = omega arith in e))

pub enumerated-map : {X Y : Type 0} (f : X → Y) (n : ℕ) (xs : List X) → enumerate_from n (map f xs) ≡ map (λ (x : ℕ × X). (x.0, f x.1)) (enumerate_from n xs)
enumerated-map f n [] = refl
enumerated-map f n (x ∷ xs) = ap (λ l. (n, f x) ∷ l) (enumerated-map f (n + 1) xs)

-- the numbers of an enumeration
pub enumerated-numbers : {X : Type 0} (n : ℕ) (xs : List X) → AllByRecursion (λ (x : ℕ × X). (n ≤ x.0) × (x.0 < n + length xs)) (enumerate_from n xs)
enumerated-numbers n [] = tt
enumerated-numbers {X = X} n (x ∷ xs) = (
  (omega arith, omega arith),
  all_weaker (λ (y : ℕ × X). (n + 1 ≤ y.0) × (y.0 < n + 1 + length xs)) (λ (y : ℕ × X). (n ≤ y.0) × (y.0 < n + length (x ∷ xs))) (λ y h. (omega (arith, h.0), omega (arith, h.1))) (enumerate_from (n + 1) xs) (enumerated-numbers (n + 1) xs),
)
