-- Lists that are made one after another.
use Rattle.std.proofs.Common.{◌≡◌, ℕ, zero, suc, ◌+◌, ◌<◌, ◌≤◌, List, [], ◌∷◌, ◌++◌, map, length, get_or, take, drop, Some, sym, ap, ap₂, ◌∙◌, arith, add-one}
use Rattle.std.specs.List.{slice_get}
use Rattle.std.proofs.lemmas.Option.{slice_get_within, get_or_from_slice_get}
use Rattle.std.proofs.lemmas.List.{map-append, map_more}
use Rattle.plain_lists.specs.Lists.{below}
use Rattle.plain_lists.proofs.Below.{get_or-map-below}

-- one number more
pub map-below-more : {X : Type 0} (f : ℕ → X) (n : ℕ) → map f (below (n + 1)) ≡ map f (below n) ++ f n ∷ []
map-below-more f n = ap (λ k. map f (below k)) (add-one n) ∙ map-append f (below n) (n ∷ [])

-- images of numbers, where one more is pushed
pub below-pushed : {X : Type 0} (f : ℕ → X) (n : ℕ) (old new : List X) (x : X) → new ≡ old ++ x ∷ [] → old ≡ map f (below n) → x ≡ f n → new ≡ map f (below (n + 1))
below-pushed f n old new x is before same = is ∙ ap₂ (λ xs y. xs ++ y ∷ []) before same ∙ sym (map-below-more f n)

-- images of the elements of a list, where the next is pushed
pub images-pushed : {X Y : Type 0} (f : X → Y) (xs : List X) (i : ℕ) (x : X) (old new : List Y) (y : Y) → slice_get xs i ≡ Some x → new ≡ old ++ y ∷ [] → old ≡ map f (take i xs) → y ≡ f x → new ≡ map f (take (i + 1) xs)
images-pushed f xs i x old new y e is before same =
    is ∙ ap₂ (λ ys z. ys ++ z ∷ []) before (same ∙ ap f (sym (get_or_from_slice_get xs i x x e))) ∙ sym (map_more f xs i x (slice_get_within xs i x e))

-- what is left of a list begins with its next element
pub rest-first : {X : Type 0} (xs : List X) (k : ℕ) (x : X) (rest : List X) → drop k xs ≡ x ∷ rest → (k < length xs) × ((get_or xs k x ≡ x) × (drop (k + 1) xs ≡ rest))
rest-first [] zero x rest e = absurd (cc e)
rest-first [] (suc k) x rest e = absurd (cc e)
rest-first (y ∷ xs) zero x rest e = (omega arith, (cc e, cc e))
rest-first (y ∷ xs) (suc k) x rest e = let later = rest-first xs k x rest e in (let low = later.0 in omega (arith, low), (later.1.0, further k later.1.1))
  where
    further : (k : ℕ) → drop (k + 1) xs ≡ rest → drop (suc k + 1) (y ∷ xs) ≡ rest
    further k h = ap (λ n. drop n (y ∷ xs)) (forth k) ∙ h
      where
        forth : (k : ℕ) → suc k + 1 ≡ suc (k + 1)
        forth k = omega arith

-- nothing is left where all were taken
pub rest-none : {X : Type 0} (xs : List X) (k : ℕ) → drop k xs ≡ [] → length xs ≤ k
rest-none [] k e = omega arith
rest-none (x ∷ xs) zero e = absurd (cc e)
rest-none (x ∷ xs) (suc k) e = let later = rest-none xs k e in omega (arith, later)

-- an image of numbers at its place
pub image-there : {X : Type 0} (f : ℕ → X) (n k : ℕ) (xs : List X) (x : X) → xs ≡ map f (below n) → k < n → get_or xs k x ≡ x → x ≡ f k
image-there f n k xs x is low at = sym at ∙ ap (λ l. get_or l k x) is ∙ get_or-map-below f n k x low
