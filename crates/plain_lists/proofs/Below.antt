-- The numbers below a bound, and entries picked at places.
use Rattle.std.proofs.Common.{◌≡◌, ℕ, zero, suc, ◌<◌, Bool, true, List, [], ◌∷◌, ◌++◌, map, length, get_or, refl, sym, ap, ap₂, ◌∙◌, subst, ⊎_elim, arith, length-append}
use Rattle.std.specs.List.{AllByRecursion, list_all}
use Rattle.std.proofs.lemmas.Bool.{cases_lt}
use Rattle.std.proofs.lemmas.List.{length-map, same_lists, get_or-map}
use Rattle.std.proofs.lemmas.List.Sums.{list_all-from_AllPass}
use Rattle.std.proofs.Math.ListN.{get_or-append}
use Rattle.std.proofs.Math.Seq.{get_or-append_seam}
use Rattle.plain_lists.specs.Lists.{below, picked}
use Rattle.plain_lists.proofs.Each.{all_weaker, all_append, all_at, each_passes}

-- ---- the numbers below n

-- there are n of them
pub length-below : (n : ℕ) → length (below n) ≡ n
length-below zero = refl
length-below (suc n) = length-append (below n) (n ∷ []) ∙ omega (arith, length-below n)

-- each of them is below n
pub below-all : (n : ℕ) → AllByRecursion (λ v. v < n) (below n)
below-all zero = tt
below-all (suc n) = all_append (λ v. v < suc n) (below n) (n ∷ []) (all_weaker (λ v. v < n) (λ v. v < suc n) (λ v h. omega arith) (below n) (below-all n)) (omega arith, tt)

-- at each place stands the place
pub get_or-below : (n k d : ℕ) → k < n → get_or (below n) k d ≡ k
get_or-below zero k d h = absurd (omega arith)
get_or-below (suc n) k d h = ⊎_elim
    (λ lt. let low : k < length (below n) = omega (arith, length-below n) in get_or-append (below n) (n ∷ []) d k low ∙ get_or-below n k d lt)
    (λ ge. let at : k ≡ length (below n) = omega (arith, length-below n) in ap (λ j. get_or (below n ++ n ∷ []) j d) at ∙ get_or-append_seam (below n) n [] d ∙ omega arith)
    (cases_lt k n)

-- what a list made from the numbers below n has at k
pub get_or-map-below : {X : Type 0} (f : ℕ → X) (n k : ℕ) (d : X) → k < n → get_or (map f (below n)) k d ≡ f k
get_or-map-below f n k d h = let low : k < length (below n) = omega (arith, length-below n) in get_or-map f (below n) k 0 d low ∙ ap f (get_or-below n k 0 h)

-- a list made from the numbers below the length of another one
pub map-below-length : {X Y : Type 0} (f : ℕ → Y) (g : X → Y) (xs : List X) (d : X) → ((k : ℕ) → k < length xs → f k ≡ g (get_or xs k d)) → map f (below (length xs)) ≡ map g xs
map-below-length f g xs d h =
    same_lists (map f (below (length xs))) (map g xs) (length-map (below (length xs)) f ∙ length-below (length xs) ∙ sym (length-map xs g))
    (λ k e lt. let within : k < length xs = omega (arith, length-map (below (length xs)) f, length-below (length xs)) in get_or-map-below f (length xs) k e within ∙ h k within ∙ sym (get_or-map g xs k d e within))

-- what each of them has
pub at-below : (P : ℕ → Type 0) (n : ℕ) → AllByRecursion P (below n) → (k : ℕ) → k < n → P k
at-below P n h k low =
    let within : k < length (below n) = omega (arith, length-below n) in
    subst P (get_or-below n k 0 low) (all_at P (below n) k 0 h within)

-- a test that passes at all of them passes at each
pub passes-below : (p : ℕ → Bool) (n k : ℕ) → list_all p (below n) ≡ true → k < n → p k ≡ true
passes-below p n k h low = at-below (λ j. p j ≡ true) n (each_passes p (below n) h) k low

-- a test that passes at each of them passes at all
pub all_pass-below : (p : ℕ → Bool) (n : ℕ) → ((k : ℕ) → k < n → p k ≡ true) → list_all p (below n) ≡ true
all_pass-below p n each =
    list_all-from_AllPass p (below n)
    (λ k d low. let within : k < n = omega (arith, low, length-below n) in ap p (get_or-below n k d within) ∙ each k within)

-- ---- picked entries

-- entries picked at picked places are picked twice
pub picked-picked : (vs cs es : List ℕ) → AllByRecursion (λ k. k < length cs) es → picked (picked vs cs) es ≡ picked vs (picked cs es)
picked-picked vs cs [] h = refl
picked-picked vs cs (k ∷ es) h = ap₂ (λ x l. x ∷ l) (get_or-map (λ i. get_or vs i 0) cs k 0 0 h.0) (picked-picked vs cs es h.1)
