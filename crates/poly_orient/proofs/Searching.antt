-- All lists whose entries pass a test against those before them are found by putting entry after entry.
use Rattle.std.proofs.Common.{◌≡◌, ℕ, zero, suc, ◌<◌, ◌≤◌, true, Bool, List, [], ◌∷◌, ◌++◌, length, take, get_or, map, refl, sym, ap, ◌∙◌, subst, inl, inr, lit<, add-one, arith}
use Rattle.std.specs.Prelude.{flat_map, filter}
use Rattle.std.specs.List.{Contains}
use Rattle.std.proofs.lemmas.Bool.{cond-true, cond-false, cases_Bool}
use Rattle.std.proofs.lemmas.List.{get_or-map, length-map, take_more}
use Rattle.std.proofs.lemmas.List.Elements.{Contains-append_left, Contains-append_right}
use Rattle.plain_lists.specs.Lists.{below}
use Rattle.plain_lists.proofs.Below.{length-below, get_or-below}

-- ---- what contains what

Contains-map : {A B : Type 0} (f : A → B) (xs : List A) (x : A) → Contains xs x → Contains (map f xs) (f x)
Contains-map f xs x (k, lt, here) = (k, omega (arith, lt, length-map xs f), get_or-map f xs k x (f x) lt ∙ ap f here)

Contains-flat_map : {A B : Type 0} (f : A → List B) (xs : List A) (x : A) (y : B) → Contains xs x → Contains (f x) y → Contains (flat_map f xs) y
Contains-flat_map f [] x y (k, lt, here) inside = absurd (omega (arith, lt))
Contains-flat_map f (z ∷ xs) x y (zero, lt, here) inside = Contains-append_left (f z) (flat_map f xs) y (subst (λ w. Contains (f w) y) (sym here) inside)
Contains-flat_map f (z ∷ xs) x y (suc k, lt, here) inside = Contains-append_right (f z) (flat_map f xs) y (Contains-flat_map f xs x y (k, omega (arith, lt), here) inside)

Contains-below : (n x : ℕ) → x < n → Contains (below n) x
Contains-below n x lt = (x, omega (arith, lt, length-below n), get_or-below n x x lt)

Contains-filter : {A : Type 0} (p : A → Bool) (xs : List A) (x : A) → Contains xs x → p x ≡ true → Contains (filter p xs) x
Contains-filter p [] x (k, lt, here) passes = absurd (omega (arith, lt))
Contains-filter p (z ∷ xs) x (zero, lt, here) passes =
    let first : p z ≡ true = ap p here ∙ passes in
    subst (λ (ys : List _). Contains ys x) (sym (cond-true (p z) (z ∷ filter p xs) (filter p xs) first)) (0, omega arith, here)
Contains-filter p (z ∷ xs) x (suc k, lt, here) passes =
    let rest = Contains-filter p xs x (k, omega (arith, lt), here) passes in
    elim (cases_Bool (p z)) [
      | inl kept ↦ subst (λ (ys : List _). Contains ys x) (sym (cond-true (p z) (z ∷ filter p xs) (filter p xs) kept)) (Contains-append_right (z ∷ []) (filter p xs) x rest)
      | inr dropped ↦ subst (λ (ys : List _). Contains ys x) (sym (cond-false (p z) (z ∷ filter p xs) (filter p xs) dropped)) rest
    ]

-- ---- the search

-- the lists of m entries below n in which each entry passes the test against those before it
abbrev pub listings : (List ℕ → ℕ → Bool) → ℕ → ℕ → List (List ℕ)
listings may n zero = [] ∷ []
listings may n (suc m) = flat_map (λ front. map (λ c. front ++ c ∷ []) (filter (may front) (below n))) (listings may n m)

-- a list whose entries pass is found
pub listings-find : (may : List ℕ → ℕ → Bool) (n m : ℕ) (xs : List ℕ) → m ≤ length xs → ((k : ℕ) → k < m → (get_or xs k 0 < n) × (may (take k xs) (get_or xs k 0) ≡ true)) → Contains (listings may n m) (take m xs)
listings-find may n zero xs size pass = (0, lit< tt, refl)
listings-find may n (suc m) xs size pass =
    let front = take m xs in
    let last = get_or xs m 0 in
    let earlier = listings-find may n m xs (omega (arith, size)) (λ k lt. pass k (omega (arith, lt))) in
    let here = pass m (omega arith) in
    let entry = Contains-map (λ c. front ++ c ∷ []) (filter (may front) (below n)) last (Contains-filter (may front) (below n) last (Contains-below n last here.0) here.1) in
    let found = Contains-flat_map (λ front. map (λ c. front ++ c ∷ []) (filter (may front) (below n))) (listings may n m) front (front ++ last ∷ []) earlier entry in
    subst (Contains (listings may n (suc m))) (sym (take_more xs m 0 (omega (arith, size))) ∙ ap (λ k. take k xs) (add-one m)) found
