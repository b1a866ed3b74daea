-- Looking for the first step that is not built yet.
use Rattle.std.proofs.Common.{◌≡◌, ℕ, zero, suc, ◌+◌, ◌<◌, ◌≤◌, Bool, true, false, cond, List, [], ◌∷◌, length, map, get_or, drop, Some, None, refl, sym, ap, ◌∙◌, subst, arith}
use Rattle.std.specs.Prelude.{find}

-- the search at place i
next-found : {X Y : Type 0} (f : X → Y) (p : Y → Bool) (xs : List X) (i : ℕ) (d : X) → i < length xs → find p (drop i (map f xs)) ≡ cond (p (f (get_or xs i d))) (Some (f (get_or xs i d))) (find p (drop (suc i) (map f xs)))
next-found f p [] i d low = absurd (omega (arith, low))
next-found f p (x ∷ xs) zero d low = refl
next-found f p (x ∷ xs) (suc i) d low = next-found f p xs i d (omega (arith, low))

module _ {X Y : Type 0} (f : X → Y) (p : Y → Bool) (xs : List X) (i : ℕ) (x : X) (low : i < length xs) (is : x ≡ get_or xs i x) where
  -- it passes
  pub found-here : p (f x) ≡ true → find p (drop i (map f xs)) ≡ Some (f x)
  found-here passes =
      let here : p (f (get_or xs i x)) ≡ true = subst (λ y. p (f y) ≡ true) is passes in
      next-found f p xs i x low ∙ ap (λ b. cond b (Some (f (get_or xs i x))) (find p (drop (suc i) (map f xs)))) here ∙ ap (λ y. Some (f y)) (sym is)

  -- it fails
  pub found-later : p (f x) ≡ false → find p (drop i (map f xs)) ≡ find p (drop (i + 1) (map f xs))
  found-later fails =
      let here : p (f (get_or xs i x)) ≡ false = subst (λ y. p (f y) ≡ false) is fails in
      let next : suc i ≡ i + 1 = omega arith in
      next-found f p xs i x low ∙ ap (λ b. cond b (Some (f (get_or xs i x))) (find p (drop (suc i) (map f xs)))) here ∙ ap (λ k. find p (drop k (map f xs))) next

-- nothing is left
pub found-nowhere : {X Y : Type 0} (f : X → Y) (p : Y → Bool) (xs : List X) (i : ℕ) → length xs ≤ i → find p (drop i (map f xs)) ≡ None
found-nowhere f p [] zero high = refl
found-nowhere f p [] (suc i) high = refl
found-nowhere f p (x ∷ xs) zero high = absurd (omega (arith, high))
found-nowhere f p (x ∷ xs) (suc i) high = found-nowhere f p xs i (omega (arith, high))
