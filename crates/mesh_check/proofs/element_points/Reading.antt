-- Elements that a loop reads at their places.
use Rattle.std.proofs.Common.{◌≡◌, ℕ, zero, suc, ◌+◌, ◌<◌, Bool, true, false, ◌||◌, List, [], ◌∷◌, ◌++◌, map, length, get_or, take, ap, ◌∙◌, arith}
use Rattle.std.specs.Prelude.{Some}
use Rattle.std.specs.List.{slice_get, list_any}
use Rattle.std.proofs.lemmas.List.{take_more, map-append}
use Rattle.std.proofs.lemmas.List.Folds.{list_any_more}
use Rattle.std.proofs.lemmas.Option.{get_or_from_slice_get}
use Rattle.std.proofs.lemmas.Bool.{or_left, or_right}

-- an element that passes
pub any-here : {X : Type 0} (p : X → Bool) (xs : List X) (i : ℕ) (d : X) → i < length xs → p (get_or xs i d) ≡ true → list_any p xs ≡ true
any-here p [] i d low h = absurd (omega arith)
any-here p (x ∷ xs) zero d low h = or_left (p x) (list_any p xs) h
any-here p (x ∷ xs) (suc i) d low h = or_right (p x) (list_any p xs) (any-here p xs i d (omega arith) h)

pub any-at : {X : Type 0} (p : X → Bool) (xs : List X) (i : ℕ) (x : X) → i < length xs → slice_get xs i ≡ Some x → p x ≡ true → list_any p xs ≡ true
any-at p xs i x low at h = any-here p xs i x low (ap p (get_or_from_slice_get xs i x x at) ∙ h)

-- one more, which does not
pub any-skips : {X : Type 0} (p : X → Bool) (xs : List X) (i : ℕ) (x : X) → i < length xs → slice_get xs i ≡ Some x → p x ≡ false → list_any p (take i xs) ≡ false → list_any p (take (i + 1) xs) ≡ false
any-skips p xs i x low at h none = list_any_more p xs i x low ∙ ap (λ y. list_any p (take i xs) || p y) (get_or_from_slice_get xs i x x at) ∙ ap (λ t. t || p x) none ∙ h

-- the image of one more
pub map-more : {X Y : Type 0} (f : X → Y) (xs : List X) (i : ℕ) (d : X) → i < length xs → map f (take (i + 1) xs) ≡ map f (take i xs) ++ f (get_or xs i d) ∷ []
map-more f xs i d low = ap (map f) (take_more xs i d low) ∙ map-append f (take i xs) (get_or xs i d ∷ [])
