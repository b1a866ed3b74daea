-- What is found by a number.
use Rattle.std.proofs.Common.{◌≡◌, ℕ, zero, suc, ◌+◌, ◌<◌, Bool, true, false, ◌||◌, ◌==◌, List, [], ◌∷◌, length, get_or, take, Option, Some, None, sym, ap, ◌∙◌, arith}
use Rattle.std.specs.Prelude.{find, position}
use Rattle.std.specs.List.{slice_get, list_any}
use Rattle.std.proofs.lemmas.Bool.{or_left, or_right}
use Rattle.std.proofs.lemmas.Option.{get_or_from_slice_get}
use Rattle.std.proofs.lemmas.List.Folds.{find_at, list_any_more}
use Rattle.plain_lists.proofs.Finding.{find-none}
use Rattle.input_defs.specs.Content.{Element, Content}
use Rattle.input_defs.specs.RightContent.{element_numbers}
use Rattle.mesh_check.proofs.mesh_vertices.Marking.{position-found, position-missing, position-of_map}

-- an element that passes
any-here : {X : Type 0} (p : X → Bool) (xs : List X) (i : ℕ) (d : X) → i < length xs → p (get_or xs i d) ≡ true → list_any p xs ≡ true
any-here p [] i d low h = absurd (omega arith)
any-here p (x ∷ xs) zero d low h = or_left (p x) (list_any p xs) h
any-here p (x ∷ xs) (suc i) d low h = or_right (p x) (list_any p xs) (any-here p xs i d (omega arith) h)

pub any-at : {X : Type 0} (p : X → Bool) (xs : List X) (i : ℕ) (x : X) → i < length xs → slice_get xs i ≡ Some x → p x ≡ true → list_any p xs ≡ true
any-at p xs i x low at h = any-here p xs i x low (ap p (get_or_from_slice_get xs i x x at) ∙ h)

-- one more, which does not
pub any-skips : {X : Type 0} (p : X → Bool) (xs : List X) (i : ℕ) (x : X) → i < length xs → slice_get xs i ≡ Some x → p x ≡ false → list_any p (take i xs) ≡ false → list_any p (take (i + 1) xs) ≡ false
any-skips p xs i x low at h none = list_any_more p xs i x low ∙ ap (λ y. list_any p (take i xs) || p y) (get_or_from_slice_get xs i x x at) ∙ ap (λ t. t || p x) none ∙ h

-- the first element of a number, by its place among the numbers
pub found-by_number : (c : Content) (n : ℕ) (o : Option ℕ) → o ≡ position (λ m. m == n) (element_numbers c) → position (λ (e : Element). e.number == n) c.elements ≡ o
found-by_number c n o h = sym (h ∙ position-of_map (λ m. m == n) (λ (e : Element). e.number) c.elements)

pub first-of_number : (c : Content) (n k : ℕ) (e : Element) → position (λ (x : Element). x.number == n) c.elements ≡ Some k → slice_get c.elements k ≡ Some e → find (λ (x : Element). x.number == n) c.elements ≡ Some e
first-of_number c n k e at is = find_at (λ (x : Element). x.number == n) c.elements ∙ ap (slice_get c.elements) (position-found (λ (x : Element). x.number == n) c.elements k at) ∙ is

pub none-of_number : (c : Content) (n : ℕ) → position (λ (x : Element). x.number == n) c.elements ≡ None → find (λ (x : Element). x.number == n) c.elements ≡ None
none-of_number c n h = find-none (λ (x : Element). x.number == n) c.elements (position-missing (λ (x : Element). x.number == n) c.elements h)
