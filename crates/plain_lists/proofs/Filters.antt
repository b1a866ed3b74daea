-- Filters, maps, flat maps and counts.
use Rattle.std.proofs.Common.{◌≡◌, ℕ, zero, suc, ◌+◌, ◌*◌, Bool, true, false, cond, not, ◌&&◌, List, [], ◌∷◌, ◌++◌, map, length, get_or, refl, sym, ap, ap₂, ◌∙◌, arith}
use Rattle.std.specs.Prelude.{flat_map, filter}
use Rattle.std.specs.List.{AllByRecursion, enumerate_from, count_by}
use Rattle.std.proofs.lemmas.Bool.{cond-true, cond-false}
use Rattle.std.proofs.lemmas.List.Sums.{sum_by-append, sum_by-cons}
use Rattle.plain_lists.proofs.Each.{all_from}

-- ---- filters

-- a filter that everything passes
pub filter_whole : {X : Type 0} (p : X → Bool) (xs : List X) → AllByRecursion (λ x. p x ≡ true) xs → filter p xs ≡ xs
filter_whole p [] h = refl
filter_whole p (x ∷ xs) h = cond-true (p x) (x ∷ filter p xs) (filter p xs) h.0 ∙ ap (λ ys. x ∷ ys) (filter_whole p xs h.1)

-- a filter that nothing passes
pub filter_none : {X : Type 0} (p : X → Bool) (xs : List X) → AllByRecursion (λ x. p x ≡ false) xs → filter p xs ≡ []
filter_none p [] h = refl
filter_none p (x ∷ xs) h = cond-false (p x) _ _ h.0 ∙ filter_none p xs h.1

-- what a filter keeps passes
pub filter_passing : {X : Type 0} (p : X → Bool) (xs : List X) → AllByRecursion (λ x. p x ≡ true) (filter p xs)
filter_passing p [] = tt
filter_passing p (x ∷ xs) = go (p x) refl (filter_passing p xs)
  where
    go : (b : Bool) → p x ≡ b → AllByRecursion (λ y. p y ≡ true) (filter p xs) → AllByRecursion (λ y. p y ≡ true) (cond b (x ∷ filter p xs) (filter p xs))
    go true e r = (e, r)
    go false e r = r

-- filters one after the other
pub filter_filter : {X : Type 0} (p q : X → Bool) (xs : List X) → filter p (filter q xs) ≡ filter (λ x. q x && p x) xs
filter_filter p q [] = refl
filter_filter p q (x ∷ xs) = go (q x) (filter_filter p q xs)
  where
    go : (b : Bool) → filter p (filter q xs) ≡ filter (λ x. q x && p x) xs → filter p (cond b (x ∷ filter q xs) (filter q xs)) ≡ cond (b && p x) (x ∷ filter (λ x. q x && p x) xs) (filter (λ x. q x && p x) xs)
    go true r = ap (λ l. cond (p x) (x ∷ l) l) r
    go false r = r

-- tests that agree at each element keep the same
pub filter_agree : {X : Type 0} (p q : X → Bool) (xs : List X) → AllByRecursion (λ x. p x ≡ q x) xs → filter p xs ≡ filter q xs
filter_agree p q [] h = refl
filter_agree p q (x ∷ xs) h = ap₂ (λ b l. cond b (x ∷ l) l) h.0 (filter_agree p q xs h.1)

-- a test that implies another one is not narrowed by it
pub and_implied : (a b : Bool) → (b ≡ true → a ≡ true) → (a && b) ≡ b
and_implied true b h = refl
and_implied false true h = h refl
and_implied false false h = refl

-- where each element that passes p passes q, filtering by q first changes nothing
pub filter_within : {X : Type 0} (p q : X → Bool) → ((x : X) → p x ≡ true → q x ≡ true) → (xs : List X) → filter p (filter q xs) ≡ filter p xs
filter_within p q f xs = filter_filter p q xs ∙ filter_agree (λ x. q x && p x) p xs (all_from _ (λ x. and_implied (q x) (p x) (f x)) xs)

-- two tests in either order
pub filter-swap : {X : Type 0} (p q : X → Bool) (xs : List X) → filter p (filter q xs) ≡ filter q (filter p xs)
filter-swap p q [] = refl
filter-swap p q (x ∷ xs) = go (p x) (q x) refl refl (filter-swap p q xs)
  where
    go : (a b : Bool) → p x ≡ a → q x ≡ b → filter p (filter q xs) ≡ filter q (filter p xs) → filter p (cond b (x ∷ filter q xs) (filter q xs)) ≡ filter q (cond a (x ∷ filter p xs) (filter p xs))
    go true true h k r = cond-true (p x) _ _ h ∙ ap (λ l. x ∷ l) r ∙ sym (cond-true (q x) _ _ k)
    go true false h k r = r ∙ sym (cond-false (q x) _ _ k)
    go false true h k r = cond-false (p x) _ _ h ∙ r
    go false false h k r = r

-- a test before a map or after it
pub filter-mapped : {X Y : Type 0} (f : X → Y) (p : Y → Bool) (xs : List X) → map f (filter (λ x. p (f x)) xs) ≡ filter p (map f xs)
filter-mapped f p [] = refl
filter-mapped f p (x ∷ xs) = go (p (f x)) (filter-mapped f p xs)
  where
    go : (b : Bool) → map f (filter (λ y. p (f y)) xs) ≡ filter p (map f xs) → map f (cond b (x ∷ filter (λ y. p (f y)) xs) (filter (λ y. p (f y)) xs)) ≡ cond b (f x ∷ filter p (map f xs)) (filter p (map f xs))
    go true r = ap (λ l. f x ∷ l) r
    go false r = r

-- ---- maps and flat maps

-- equal images of each element
pub map_same : {X Y : Type 0} (f g : X → Y) (xs : List X) → AllByRecursion (λ x. f x ≡ g x) xs → map f xs ≡ map g xs
map_same f g [] h = refl
map_same f g (x ∷ xs) h = λ i. h.0 i ∷ map_same f g xs h.1 i

-- a map over a map
pub map_map_same : {X Y Z : Type 0} (f : Y → Z) (g : X → Y) (h : X → Z) (xs : List X) → AllByRecursion (λ x. f (g x) ≡ h x) xs → map f (map g xs) ≡ map h xs
map_map_same f g h [] e = refl
map_map_same f g h (x ∷ xs) e = λ i. e.0 i ∷ map_map_same f g h xs e.1 i

-- equal parts of each element
pub flat_map_same : {X Y : Type 0} (f g : X → List Y) (xs : List X) → AllByRecursion (λ x. f x ≡ g x) xs → flat_map f xs ≡ flat_map g xs
flat_map_same f g [] h = refl
flat_map_same f g (x ∷ xs) h = ap₂ (λ a b. a ++ b) h.0 (flat_map_same f g xs h.1)

-- three for each
pub length-flat_map_three : {X Y : Type 0} (f g h : X → Y) (xs : List X) → length (flat_map (λ x. f x ∷ g x ∷ h x ∷ []) xs) ≡ 3 * length xs
length-flat_map_three f g h [] = refl
length-flat_map_three f g h (x ∷ xs) = omega (arith, length-flat_map_three f g h xs)

-- a list of images of enumerated things at a place, where the image of the default is nothing
pub image-at : {X Y : Type 0} (d : X) (g : ℕ × X → List Y) → ((k : ℕ) → g (k, d) ≡ []) → (n : ℕ) (xs : List X) (k : ℕ) → get_or (map g (enumerate_from n xs)) k [] ≡ g (n + k, get_or xs k d)
image-at d g past n [] k = sym (past (n + k))
image-at d g past n (x ∷ xs) zero = ap (λ i. g (i, x)) (let e : n ≡ n + 0 = omega arith in e)
image-at d g past n (x ∷ xs) (suc k) = image-at d g past (n + 1) xs k ∙ ap (λ i. g (i, get_or xs k d)) (let e : n + 1 + k ≡ n + suc k = omega arith in e)

-- ---- counts

-- a count of all
pub count_whole : {X : Type 0} (p : X → Bool) (xs : List X) → AllByRecursion (λ x. p x ≡ true) xs → count_by p xs ≡ length xs
count_whole p [] h = refl
count_whole p (x ∷ xs) h =
    let here : count_by p (x ∷ xs) ≡ 1 + count_by p xs = sum_by-cons (λ y. cond (p y) 1 0) x xs ∙ ap (λ b. cond b 1 0 + count_by p xs) h.0 in
    let rest = count_whole p xs h.1 in
    omega arith

-- a count of none
pub count_nothing : {X : Type 0} (p : X → Bool) (xs : List X) → AllByRecursion (λ x. p x ≡ false) xs → count_by p xs ≡ 0
count_nothing p [] h = refl
count_nothing p (x ∷ xs) h =
    let here : count_by p (x ∷ xs) ≡ 0 + count_by p xs = sum_by-cons (λ y. cond (p y) 1 0) x xs ∙ ap (λ b. cond b 1 0 + count_by p xs) h.0 in
    let rest = count_nothing p xs h.1 in
    omega arith

-- a count over two lists end to end
pub count-append : {X : Type 0} (p : X → Bool) (xs ys : List X) → count_by p (xs ++ ys) ≡ count_by p xs + count_by p ys
count-append p xs ys = sum_by-append (λ x. cond (p x) 1 0) xs ys

-- those that pass and those that fail are all
pub count-both : {X : Type 0} (p : X → Bool) (xs : List X) → count_by p xs + count_by (λ x. not (p x)) xs ≡ length xs
count-both p [] = refl
count-both p (x ∷ xs) =
    let yes = sum_by-cons (λ y. cond (p y) 1 0) x xs in
    let no = sum_by-cons (λ y. cond (not (p y)) 1 0) x xs in
    let rest = count-both p xs in
    omega (arith, one (p x))
  where
    one : (b : Bool) → cond b 1 0 + cond (not b) 1 0 ≡ 1
    one true = refl
    one false = refl
