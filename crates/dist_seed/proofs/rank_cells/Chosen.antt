-- Numbers that pass a test, one after another.
use Rattle.std.proofs.Common.{◌≡◌, ℕ, ◌+◌, Bool, true, false, cond, [], ◌∷◌, ◌++◌, ap, ◌∙◌, add-one}
use Rattle.std.specs.List.{filter}
use Rattle.std.proofs.lemmas.List.Elements.{filter-append}
use Rattle.std.proofs.lemmas.List.{append-nil}
use Rattle.plain_lists.specs.Lists.{below}

-- one number more
pub below-more : (n : ℕ) → below (n + 1) ≡ below n ++ n ∷ []
below-more n = ap below (add-one n)

-- it is chosen
pub chosen-yes : (p : ℕ → Bool) (n : ℕ) → p n ≡ true → filter p (below (n + 1)) ≡ filter p (below n) ++ n ∷ []
chosen-yes p n h = ap (filter p) (below-more n) ∙ filter-append p (below n) (n ∷ []) ∙ ap (λ b. filter p (below n) ++ cond b (n ∷ []) []) h

-- or not
pub chosen-no : (p : ℕ → Bool) (n : ℕ) → p n ≡ false → filter p (below (n + 1)) ≡ filter p (below n)
chosen-no p n h = ap (filter p) (below-more n) ∙ filter-append p (below n) (n ∷ []) ∙ ap (λ b. filter p (below n) ++ cond b (n ∷ []) []) h ∙ append-nil (filter p (below n))
