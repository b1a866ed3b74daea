-- Rising numbers, numbers that differ, and lists of blocks.
use Rattle.std.proofs.Common.{◌≡◌, ◌≢◌, ℕ, zero, suc, ◌+◌, ◌*◌, ◌<◌, ◌≤◌, Bool, true, ◌||◌, List, [], ◌∷◌, ◌++◌, map, length, get_or, refl, sym, ap, ◌∙◌, subst, ⊎_elim, arith, length-append}
use Rattle.std.specs.Prelude.{flat_map, slice_index}
use Rattle.std.specs.List.{AllByRecursion, list_any}
use Rattle.std.proofs.lemmas.Bool.{cases_lt, or_left, or_right}
use Rattle.std.proofs.lemmas.List.{map-append}
use Rattle.std.proofs.lemmas.List.Concat.{flat_map-append}
use Rattle.std.proofs.lemmas.List.Folds.{list_any-append}
use Rattle.plain_lists.specs.Lists.{below}
use Rattle.plain_lists.proofs.Each.{all_at, all_weaker}

-- ---- numbers

-- the numbers rise, from lo on and below hi
abbrev pub Rise : ℕ → ℕ → List ℕ → Type 0
Rise lo hi [] = lo ≤ hi
Rise lo hi (x ∷ xs) = (lo ≤ x) × Rise (x + 1) hi xs

pub rise-wider : (lo hi top : ℕ) (xs : List ℕ) → Rise lo hi xs → hi ≤ top → Rise lo top xs
rise-wider lo hi top [] h more = omega arith
rise-wider lo hi top (x ∷ xs) h more = (h.0, rise-wider (x + 1) hi top xs h.1 more)

pub rise-later : (low lo hi : ℕ) (xs : List ℕ) → low ≤ lo → Rise lo hi xs → Rise low hi xs
rise-later low lo hi [] less h = omega arith
rise-later low lo hi (x ∷ xs) less h = (omega (arith, h.0), h.1)

rise-append : (lo mid hi : ℕ) (xs ys : List ℕ) → Rise lo mid xs → Rise mid hi ys → Rise lo hi (xs ++ ys)
rise-append lo mid hi [] ys h k = rise-later lo mid hi ys h k
rise-append lo mid hi (x ∷ xs) ys h k = (h.0, rise-append (x + 1) mid hi xs ys h.1 k)

-- none of them is below the first bound
pub rise-above : (lo hi : ℕ) (xs : List ℕ) → Rise lo hi xs → AllByRecursion (λ x. lo ≤ x) xs
rise-above lo hi [] h = tt
rise-above lo hi (x ∷ xs) h = (h.0, all_weaker (λ y. x + 1 ≤ y) (λ y. lo ≤ y) (λ y above. omega (arith, h.0)) xs (rise-above (x + 1) hi xs h.1))

-- blocks that rise one after the other
pub rise-blocks : {X : Type 0} (b : X → ℕ) (f : ℕ → List X) (start : ℕ → ℕ) → ((j : ℕ) → Rise (start j) (start (suc j)) (map b (f j))) → (n : ℕ) → Rise (start 0) (start n) (map b (flat_map f (below n)))
rise-blocks b f start each zero = omega arith
rise-blocks b f start each (suc n) =
    let whole : map b (flat_map f (below (suc n))) ≡ map b (flat_map f (below n)) ++ (map b (f n) ++ []) = ap (map b) (flat_map-append f (below n) (n ∷ [])) ∙ map-append b (flat_map f (below n)) (f n ++ []) ∙ ap (λ l. map b (flat_map f (below n)) ++ l) (map-append b (f n) []) in
    subst (Rise (start 0) (start (suc n))) (sym whole)
    (rise-append (start 0) (start n) (start (suc n)) (map b (flat_map f (below n))) (map b (f n) ++ []) (rise-blocks b f start each n)
    (rise-append (start n) (start (suc n)) (start (suc n)) (map b (f n)) [] (each n) (omega arith)))

-- no two of the numbers are equal
abbrev pub Apart : List ℕ → Type 0
Apart [] = Unit {0}
Apart (x ∷ xs) = AllByRecursion (λ y. x ≢ y) xs × Apart xs

pub apart-at : (xs : List ℕ) → Apart xs → (i j : ℕ) → i < j → j < length xs → slice_index xs i ≢ slice_index xs j
apart-at [] d i j less low same = absurd (omega (arith, low))
apart-at (x ∷ xs) d i zero less low same = absurd (omega (arith, less))
apart-at (x ∷ xs) d zero (suc j) less low same = all_at (λ y. x ≢ y) xs j 0 d.0 (omega (arith, low)) same
apart-at (x ∷ xs) d (suc i) (suc j) less low same = apart-at xs d.1 i j (omega (arith, less)) (omega (arith, low)) same

pub less-apart : (x y : ℕ) → x < y → x ≢ y
less-apart x y less same = omega arith

pub more-apart : (x y : ℕ) → y < x → x ≢ y
more-apart x y less same = omega arith

-- ---- lists

-- as many for each element
pub length-each : {X Y : Type 0} (f : X → List Y) (k : ℕ) → ((x : X) → length (f x) ≡ k) → (xs : List X) → length (flat_map f xs) ≡ length xs * k
length-each f k each [] = grind arith
length-each f k each (x ∷ xs) =
    let more : suc (length xs) * k ≡ length xs * k + k = grind arith in
    length-append (f x) (flat_map f xs) ∙ omega (arith, each x, length-each f k each xs)

-- some number below n passes
pub any-below : (p : ℕ → Bool) (n k : ℕ) → k < n → p k ≡ true → list_any p (below n) ≡ true
any-below p zero k low h = absurd (omega arith)
any-below p (suc n) k low h = list_any-append p (below n) (n ∷ []) ∙ ⊎_elim
    (λ less. or_left (list_any p (below n)) (list_any p (n ∷ [])) (any-below p n k less h))
    (λ more. or_right (list_any p (below n)) (list_any p (n ∷ [])) (or_left (p n) (list_any p []) (let at : n ≡ k = omega arith in ap p at ∙ h)))
    (cases_lt k n)

-- some element of a block passes
pub any-flat_map : {X Y : Type 0} (p : Y → Bool) (f : X → List Y) (xs : List X) → list_any p (flat_map f xs) ≡ list_any (λ x. list_any p (f x)) xs
any-flat_map p f [] = refl
any-flat_map p f (x ∷ xs) = list_any-append p (f x) (flat_map f xs) ∙ ap (λ t. list_any p (f x) || t) (any-flat_map p f xs)

-- the element at a place passes
pub any-at : {X : Type 0} (p : X → Bool) (xs : List X) (k : ℕ) (d : X) → k < length xs → p (get_or xs k d) ≡ true → list_any p xs ≡ true
any-at p [] k d low h = absurd (omega arith)
any-at p (x ∷ xs) zero d low h = or_left (p x) (list_any p xs) h
any-at p (x ∷ xs) (suc k) d low h = or_right (p x) (list_any p xs) (any-at p xs k d (omega arith) h)

pub map-flat_map : {X Y Z : Type 0} (g : Y → Z) (f : X → List Y) (xs : List X) → map g (flat_map f xs) ≡ flat_map (λ x. map g (f x)) xs
map-flat_map g f [] = refl
map-flat_map g f (x ∷ xs) = map-append g (f x) (flat_map f xs) ∙ ap (λ l. map g (f x) ++ l) (map-flat_map g f xs)
