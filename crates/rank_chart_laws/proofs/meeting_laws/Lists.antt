-- What is chosen by number, and first places.
use Rattle.std.proofs.Common.{◌≡◌, ℕ, zero, suc, ◌+◌, ◌<◌, ◌≤◌, Bool, true, false, cond, not, ◌&&◌, ◌||◌, ◌==◌, List, [], ◌∷◌, map, length, get_or, Some, sum_by, count_by, refl, sym, ap, ◌∙◌, subst, ⊎_elim, arith}
use Rattle.std.specs.Prelude.{find, flat_map}
use Rattle.std.specs.List.{list_any, position_or_len, filter, enumerate_from}
use Rattle.std.proofs.lemmas.Bool.{cases_lt, or_left, or_right, or_cases, and_from, eq-eqb, ne_eqb, both_ways}
use Rattle.std.proofs.lemmas.List.Folds.{list_any-append}
use Rattle.std.proofs.lemmas.List.FromFn.{length-enumerate_from, get_or-enumerate_from}
use Rattle.std.proofs.lemmas.List.Sums.{sum_by-cons}
use Rattle.plain_lists.specs.Lists.{below}
use Rattle.plain_lists.proofs.Each.{all_weaker, all_both, all_from, all_filter}
use Rattle.plain_lists.proofs.Below.{below-all, length-below, get_or-below, map-below-length}
use Rattle.plain_lists.proofs.Filters.{map_same, map_map_same, filter_agree, filter_filter, filter-mapped, filter_passing}
use Rattle.plain_lists.proofs.Finding.{any_map, any_filter, find-append_found, find-append_none, none_passes}
use Rattle.rank_chart_laws.specs.meeting_laws.Steps.{chosen}

-- ---- numbers below a bound

-- a number that passes is one of those below n
pub passes_below : (q : ℕ → Bool) (n k : ℕ) → k < n → q k ≡ true → list_any q (below n) ≡ true
passes_below q zero k low h = absurd (omega arith)
passes_below q (suc n) k low h = list_any-append q (below n) (n ∷ [])
    ∙ ⊎_elim (λ (b : k < n). or_left _ _ (passes_below q n k b h)) (λ (b : n ≤ k). let same : k ≡ n = omega arith in or_right (list_any q (below n)) _ (or_left _ _ (ap q (sym same) ∙ h))) (cases_lt k n)

-- a number is found among those below n
pub found_below : (n k : ℕ) → k < n → find (λ i. i == k) (below n) ≡ Some k
found_below zero k low = absurd (omega arith)
found_below (suc n) k low = ⊎_elim
    (λ (b : k < n). find-append_found (λ i. i == k) (below n) (n ∷ []) (passes_below (λ i. i == k) n k b (eq-eqb k k refl)) ∙ found_below n k b)
    (λ (b : n ≤ k). find-append_none (λ i. i == k) (below n) (n ∷ []) (none_passes (λ i. i == k) (below n) (all_weaker (λ i. i < n) (λ i. (i == k) ≡ false) (λ i l. ne_eqb i k (λ e. absurd (omega arith))) (below n) (below-all n))) ∙ last b)
    (cases_lt k n)
  where
    last : n ≤ k → find (λ i. i == k) (n ∷ []) ≡ Some k
    last b = let same : n ≡ k = omega arith in ap (λ t. cond t (Some n) (find (λ i. i == k) [])) (eq-eqb n k same) ∙ ap (λ i. Some i) same

-- things by their numbers
pub by_number : {X Y : Type 0} (f : ℕ → Y) (g : ℕ × X → Y) (xs : List X) (d : X) → ((k : ℕ) → k < length xs → f k ≡ g (k, get_or xs k d)) → map f (below (length xs)) ≡ map g (enumerate_from 0 xs)
by_number f g xs d h = ap (λ n. map f (below n)) (sym (length-enumerate_from 0 xs))
    ∙ map-below-length f g (enumerate_from 0 xs) (0, d) (λ k low. h k (omega (arith, length-enumerate_from 0 xs)) ∙ ap g (sym (get_or-enumerate_from 0 xs k (0, d) (omega (arith, length-enumerate_from 0 xs)) ∙ ap (λ i. (i, get_or xs k d)) (let e : 0 + k ≡ k = omega arith in e))))

-- what a function gives for each number, enumerated
pub enumerated_below : {X : Type 0} (g : ℕ → X) (n : ℕ) → enumerate_from 0 (map g (below n)) ≡ map (λ r. (r, g r)) (below n)
enumerated_below {X} g n = enumerated 0 (below n) ∙ go
  where
    paired : ℕ → ℕ × X
    paired r = (r, g r)

    mapped : ℕ × ℕ → ℕ × X
    mapped c = (c.0, g c.1)

    with : ℕ → ℕ → ℕ × X
    with k i = (k, g i)

    enumerated : (k : ℕ) (xs : List ℕ) → enumerate_from k (map g xs) ≡ map mapped (enumerate_from k xs)
    enumerated k [] = refl
    enumerated k (x ∷ xs) = ap (λ l. (k, g x) ∷ l) (enumerated (k + 1) xs)

    go : map mapped (enumerate_from 0 (below n)) ≡ map paired (below n)
    go = sym (by_number paired mapped (below n) 0 (λ k low. ap (with k) (sym (get_or-below n k 0 (omega (arith, length-below n)))))) ∙ ap (λ l. map paired (below l)) (length-below n)

-- ---- chosen things

-- what is chosen by place from a list
pub chosen_enumerated : {X Y : Type 0} (test : ℕ × X → Bool) (f : ℕ × X → Y) (n : ℕ) (xs : List X) (d : X) → map f (filter test (enumerate_from n xs)) ≡ chosen (λ i. test (n + i, get_or xs i d)) (λ i. f (n + i, get_or xs i d)) (length xs)
chosen_enumerated {X} test f n xs d =
    ap (λ l. map f (filter test l)) listed
    ∙ ap (map f) (sym (filter-mapped (λ i. (n + i, get_or xs i d)) test (below (length xs))))
    ∙ map_map_same f (λ i. (n + i, get_or xs i d)) (λ i. f (n + i, get_or xs i d)) (filter (λ i. test (n + i, get_or xs i d)) (below (length xs))) (all_from (λ i. f (n + i, get_or xs i d) ≡ f (n + i, get_or xs i d)) (λ i. refl) (filter (λ i. test (n + i, get_or xs i d)) (below (length xs))))
  where
    itself : {Z : Type 0} (zs : List Z) → map (λ z. z) zs ≡ zs
    itself [] = refl
    itself (z ∷ zs) = ap (λ l. z ∷ l) (itself zs)

    listed : enumerate_from n xs ≡ map (λ i. (n + i, get_or xs i d)) (below (length xs))
    listed = sym (ap (λ m. map (λ i. (n + i, get_or xs i d)) (below m)) (sym (length-enumerate_from n xs))
        ∙ map-below-length (λ i. (n + i, get_or xs i d)) (λ c. c) (enumerate_from n xs) (0, d) (λ k low. sym (get_or-enumerate_from n xs k (0, d) (omega (arith, length-enumerate_from n xs))))
        ∙ itself (enumerate_from n xs))

-- equal choices of equal things
pub chosen_same : {X : Type 0} (p q : ℕ → Bool) (f g : ℕ → X) (n : ℕ) → ((i : ℕ) → i < n → p i ≡ q i) → ((i : ℕ) → i < n → q i ≡ true → f i ≡ g i) → chosen p f n ≡ chosen q g n
chosen_same p q f g n e h =
    ap (map f) (filter_agree p q (below n) (all_weaker (λ i. i < n) (λ i. p i ≡ q i) (λ i l. e i l) (below n) (below-all n)))
    ∙ map_same f g (filter q (below n)) (all_both (λ i. i < n) (λ i. q i ≡ true) (λ i. f i ≡ g i) (λ i l t. h i l t) (filter q (below n)) (all_filter (λ i. i < n) q (below n) (below-all n)) (filter_passing q (below n)))

-- what is chosen from a list by its places
pub chosen_from : {X : Type 0} (p : ℕ → Bool) (f : ℕ → X) (xs : List ℕ) → chosen (λ j. p (get_or xs j 0)) (λ j. f (get_or xs j 0)) (length xs) ≡ map f (filter p xs)
chosen_from p f xs =
    sym (map_map_same f (λ j. get_or xs j 0) (λ j. f (get_or xs j 0)) (filter (λ j. p (get_or xs j 0)) (below (length xs))) (all_from (λ j. f (get_or xs j 0) ≡ f (get_or xs j 0)) (λ j. refl) (filter (λ j. p (get_or xs j 0)) (below (length xs)))))
    ∙ ap (map f) (filter-mapped (λ j. get_or xs j 0) p (below (length xs)) ∙ ap (filter p) whole)
  where
    itself : (zs : List ℕ) → map (λ z. z) zs ≡ zs
    itself [] = refl
    itself (z ∷ zs) = ap (λ l. z ∷ l) (itself zs)

    whole : map (λ j. get_or xs j 0) (below (length xs)) ≡ xs
    whole = map-below-length (λ j. get_or xs j 0) (λ x. x) xs 0 (λ k low. refl) ∙ itself xs

-- a choice within a wider one
pub narrower : (p q : ℕ → Bool) (n : ℕ) → ((i : ℕ) → i < n → p i ≡ true → q i ≡ true) → filter p (filter q (below n)) ≡ filter p (below n)
narrower p q n h = filter_filter p q (below n) ∙ filter_agree (λ i. q i && p i) p (below n) (all_weaker (λ i. i < n) (λ i. (q i && p i) ≡ p i) (λ i l. go (q i) (p i) (h i l)) (below n) (below-all n))
  where
    go : (a b : Bool) → (b ≡ true → a ≡ true) → (a && b) ≡ b
    go true b f = refl
    go false true f = absurd (both_ways false refl (f refl))
    go false false f = refl

-- something that passes is chosen
pub chosen_any : {X : Type 0} (q : X → Bool) (test : ℕ → Bool) (f : ℕ → X) (n k : ℕ) → k < n → test k ≡ true → q (f k) ≡ true → list_any q (chosen test f n) ≡ true
chosen_any q test f n k low t h = any_map q f (filter test (below n)) ∙ any_filter (λ i. q (f i)) test (below n) ∙ passes_below (λ i. test i && q (f i)) n k low (and_from (test k) (q (f k)) t h)

-- where one part has something that passes, all parts together have
pub any_flat : {X Y : Type 0} (q : Y → Bool) (f : X → List Y) (xs : List X) → list_any (λ x. list_any q (f x)) xs ≡ list_any q (flat_map f xs)
any_flat q f [] = refl
any_flat q f (x ∷ xs) = ap (λ t. list_any q (f x) || t) (any_flat q f xs) ∙ sym (list_any-append q (f x) (flat_map f xs))

-- ---- first places

-- what stands at the first place passes
pub first_passes : {X : Type 0} (p : X → Bool) (xs : List X) (d : X) → list_any p xs ≡ true → p (get_or xs (position_or_len p xs) d) ≡ true
first_passes p [] d h = absurd (cc h)
first_passes p (x ∷ xs) d h = go (p x) refl (λ t. first_passes p xs d t)
  where
    go : (b : Bool) → p x ≡ b → (list_any p xs ≡ true → p (get_or xs (position_or_len p xs) d) ≡ true) → p (get_or (x ∷ xs) (cond (not b) (1 + position_or_len p xs) 0) d) ≡ true
    go true e r = e
    go false e r = subst (λ n. p (get_or (x ∷ xs) n d) ≡ true) (let one : suc (position_or_len p xs) ≡ 1 + position_or_len p xs = omega arith in one) (r (⊎_elim (λ t. absurd (both_ways _ e t)) (λ t. t) (or_cases (p x) (list_any p xs) h)))

-- the first place is at most any that passes
pub first_least : {X : Type 0} (p : X → Bool) (xs : List X) (d : X) (i : ℕ) → i < length xs → p (get_or xs i d) ≡ true → position_or_len p xs ≤ i
first_least p [] d i low h = absurd (omega arith)
first_least p (x ∷ xs) d zero low h = let e : position_or_len p (x ∷ xs) ≡ 0 = ap (λ b. cond (not b) (1 + position_or_len p xs) 0) h in omega arith
first_least p (x ∷ xs) d (suc i) low h = go (p x) (first_least p xs d i (omega arith) h)
  where
    go : (b : Bool) → position_or_len p xs ≤ i → cond (not b) (1 + position_or_len p xs) 0 ≤ suc i
    go true r = omega arith
    go false r = omega arith

-- the first place is at most the length
pub first_within : {X : Type 0} (p : X → Bool) (xs : List X) → position_or_len p xs ≤ length xs
first_within p [] = omega arith
first_within p (x ∷ xs) = go (p x) (first_within p xs)
  where
    go : (b : Bool) → position_or_len p xs ≤ length xs → cond (not b) (1 + position_or_len p xs) 0 ≤ length (x ∷ xs)
    go true r = omega arith
    go false r = omega arith

-- what passes at some place passes somewhere
pub passes_at : {X : Type 0} (p : X → Bool) (xs : List X) (d : X) (i : ℕ) → i < length xs → p (get_or xs i d) ≡ true → list_any p xs ≡ true
passes_at p [] d i low h = absurd (omega arith)
passes_at p (x ∷ xs) d zero low h = or_left _ _ h
passes_at p (x ∷ xs) d (suc i) low h = or_right (p x) _ (passes_at p xs d i (omega arith) h)

-- ---- counts

-- one more where the first passes
count-cons : {X : Type 0} (p : X → Bool) (x : X) (xs : List X) → count_by p (x ∷ xs) ≡ cond (p x) 1 0 + count_by p xs
count-cons p x xs = sum_by-cons (λ y. cond (p y) 1 0) x xs

-- where something passes, something is counted
pub counted : {X : Type 0} (p : X → Bool) (xs : List X) → list_any p xs ≡ true → 0 < count_by p xs
counted p [] h = absurd (cc h)
counted p (x ∷ xs) h = subst (λ n. 0 < n) (sym (count-cons p x xs)) (go (p x) h (λ t. counted p xs t))
  where
    go : (b : Bool) → (b || list_any p xs) ≡ true → (list_any p xs ≡ true → 0 < count_by p xs) → 0 < cond b 1 0 + count_by p xs
    go true t r = omega arith
    go false t r = let low = r t in omega arith

pub counted_in_some : {X : Type 0} (p : X → Bool) (xss : List (List X)) → list_any (list_any p) xss ≡ true → 0 < sum_by (count_by p) xss
counted_in_some p [] h = absurd (cc h)
counted_in_some p (xs ∷ xss) h =
    let e = sum_by-cons (count_by p) xs xss in
    ⊎_elim (λ (t : list_any p xs ≡ true). let r = counted p xs t in omega arith) (λ (t : list_any (list_any p) xss ≡ true). let r = counted_in_some p xss t in omega arith) (or_cases (list_any p xs) (list_any (list_any p) xss) h)

-- each is at most the sum
pub sum_has : {X : Type 0} (f : X → ℕ) (xs : List X) (d : X) (i : ℕ) → i < length xs → f (get_or xs i d) ≤ sum_by f xs
sum_has f [] d i low = absurd (omega arith)
sum_has f (x ∷ xs) d zero low = let e = sum_by-cons f x xs in omega arith
sum_has f (x ∷ xs) d (suc i) low = let e = sum_by-cons f x xs in let r = sum_has f xs d i (omega arith) in omega arith
