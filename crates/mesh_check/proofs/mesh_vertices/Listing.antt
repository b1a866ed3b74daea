-- Steps of loops over lists, where an element is read at its place.
use Rattle.std.proofs.Common.{◌≡◌, ℕ, ◌+◌, ◌<◌, Bool, true, false, List, [], ◌∷◌, ◌++◌, map, length, get_or, take, drop, refl, sym, ap, ◌∙◌}
use Rattle.std.specs.Prelude.{filter, replicate, Some}
use Rattle.std.specs.List.{slice_get}
use Rattle.std.proofs.lemmas.List.{take_more, map-append, append-nil}
use Rattle.std.proofs.Math.Seq.{take-append_seam}
use Rattle.std.proofs.lemmas.List.Elements.{filter-append}
use Rattle.std.proofs.lemmas.Option.{get_or_from_slice_get}
use Rattle.std.proofs.lemmas.Bool.{cond-true, cond-false}

-- one more element
pub take-next : {X : Type 0} (xs : List X) (i : ℕ) (x : X) → i < length xs → slice_get xs i ≡ Some x → take (i + 1) xs ≡ take i xs ++ x ∷ []
take-next xs i x low at = take_more xs i x low ∙ ap (λ y. take i xs ++ y ∷ []) (get_or_from_slice_get xs i x x at)

-- its image after the others'
pub map-next : {X Y : Type 0} (f : X → Y) (xs : List X) (i : ℕ) (x : X) → i < length xs → slice_get xs i ≡ Some x → map f (take i xs) ++ f x ∷ [] ≡ map f (take (i + 1) xs)
map-next f xs i x low at = sym (ap (map f) (take-next xs i x low at) ∙ map-append f (take i xs) (x ∷ []))

-- it passes a filter, or does not
pub filter-next : {X : Type 0} (p : X → Bool) (xs : List X) (i : ℕ) (x : X) → i < length xs → slice_get xs i ≡ Some x → p x ≡ true → filter p (take i xs) ++ x ∷ [] ≡ filter p (take (i + 1) xs)
filter-next p xs i x low at h = sym (ap (filter p) (take-next xs i x low at) ∙ filter-append p (take i xs) (x ∷ []) ∙ ap (λ l. filter p (take i xs) ++ l) (cond-true (p x) (x ∷ []) [] h))

-- the same flag for each
pub flags-start : {X : Type 0} (xs : List X) → replicate (length xs) false ≡ map (λ x. false) xs
flags-start [] = refl
flags-start (x ∷ xs) = ap (λ l. false ∷ l) (flags-start xs)

pub filter-skips : {X : Type 0} (p : X → Bool) (xs : List X) (i : ℕ) (d : X) → i < length xs → p (get_or xs i d) ≡ false → filter p (take i xs) ≡ filter p (take (i + 1) xs)
filter-skips p xs i d low h = sym (ap (filter p) (take_more xs i d low) ∙ filter-append p (take i xs) (get_or xs i d ∷ []) ∙ ap (λ l. filter p (take i xs) ++ l) (cond-false (p (get_or xs i d)) (get_or xs i d ∷ []) [] h) ∙ append-nil (filter p (take i xs)))

-- a slice that is written back into its vector
pub written_back : {X : Type 0} (n : ℕ) (ws items : List X) → length ws ≡ n → take n (ws ++ drop (length ws) items) ≡ ws
written_back n ws items same = ap (λ k. take k (ws ++ drop (length ws) items)) (sym same) ∙ take-append_seam ws (drop (length ws) items)
