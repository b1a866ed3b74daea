-- Sets of numbers and of their images.
use Rattle.std.proofs.Common.{◌≡◌, ℕ, ◌<◌, ◌≤◌, Bool, true, false, cond, nat_le, List, [], ◌∷◌, map, ⊎_elim, refl, sym, ap, ap₂, ◌∙◌, arith}
use Rattle.std.specs.List.{AllByRecursion}
use Rattle.std.proofs.lemmas.Bool.{le-leb, lt-leb, cases_lt, cond-true, cond-false}
use Rattle.plain_lists.specs.Lists.{sorted, inserted}

inserted-low : (a y : ℕ) (ys : List ℕ) → a ≤ y → inserted a (y ∷ ys) ≡ a ∷ y ∷ ys
inserted-low a y ys h = cond-true (nat_le a y) (a ∷ y ∷ ys) (y ∷ inserted a ys) (le-leb a y h)

inserted-high : (a y : ℕ) (ys : List ℕ) → y < a → inserted a (y ∷ ys) ≡ y ∷ inserted a ys
inserted-high a y ys h = cond-false (nat_le a y) (a ∷ y ∷ ys) (y ∷ inserted a ys) (lt-leb a y h)

-- of two numbers the lower one may be put in first or last
inserted-lower : (a b : ℕ) (zs : List ℕ) → a ≤ b → inserted a (inserted b zs) ≡ inserted b (inserted a zs)
inserted-lower a b [] le = inserted-low a b [] le ∙ ⊎_elim
    (λ (h : a < b). sym (inserted-high b a [] h))
    (λ (h : b ≤ a). let same : a ≡ b = omega arith in ap₂ (λ x y. x ∷ y ∷ []) same (sym same) ∙ sym (inserted-low b a [] h))
    (cases_lt a b)
inserted-lower a b (z ∷ zs) le = ⊎_elim
    (λ (ha : z < a). ap (inserted a) (inserted-high b z zs (omega arith)) ∙ inserted-high a z (inserted b zs) ha ∙ ap (λ t. z ∷ t) (inserted-lower a b zs le) ∙ sym (inserted-high b z (inserted a zs) (omega arith)) ∙ ap (inserted b) (sym (inserted-high a z zs ha)))
    (λ (ha : a ≤ z). ⊎_elim
    (λ (hb : z < b). ap (inserted a) (inserted-high b z zs hb) ∙ inserted-low a z (inserted b zs) ha ∙ ap (λ t. a ∷ t) (sym (inserted-high b z zs hb)) ∙ sym (inserted-high b a (z ∷ zs) (omega arith)) ∙ ap (inserted b) (sym (inserted-low a z zs ha)))
    (λ (hb : b ≤ z). ap (inserted a) (inserted-low b z zs hb) ∙ inserted-low a b (z ∷ zs) le ∙ both ha hb ∙ ap (inserted b) (sym (inserted-low a z zs ha)))
    (cases_lt z b))
    (cases_lt z a)
  where
    both : a ≤ z → b ≤ z → a ∷ b ∷ z ∷ zs ≡ inserted b (a ∷ z ∷ zs)
    both ha hb = ⊎_elim
        (λ (h : a < b). ap (λ t. a ∷ t) (sym (inserted-low b z zs hb)) ∙ sym (inserted-high b a (z ∷ zs) h))
        (λ (h : b ≤ a). let same : a ≡ b = omega arith in ap₂ (λ x y. x ∷ y ∷ z ∷ zs) same (sym same) ∙ sym (inserted-low b a (z ∷ zs) h))
        (cases_lt a b)

-- two numbers may be put in in any order
inserted-swap : (a b : ℕ) (zs : List ℕ) → inserted a (inserted b zs) ≡ inserted b (inserted a zs)
inserted-swap a b zs = ⊎_elim (λ (h : a < b). inserted-lower a b zs (omega arith)) (λ (h : b ≤ a). sym (inserted-lower b a zs h)) (cases_lt a b)

image-inserted : (f : ℕ → ℕ) (x : ℕ) (ys : List ℕ) → sorted (map f (inserted x ys)) ≡ inserted (f x) (sorted (map f ys))
unfolding sorted
image-inserted f x [] = refl
image-inserted f x (y ∷ ys) = go (nat_le x y) (image-inserted f x ys)
  where
    go : (b : Bool) → sorted (map f (inserted x ys)) ≡ inserted (f x) (sorted (map f ys)) → sorted (map f (cond b (x ∷ y ∷ ys) (y ∷ inserted x ys))) ≡ inserted (f x) (inserted (f y) (sorted (map f ys)))
    go true r = refl
    go false r = ap (inserted (f y)) r ∙ inserted-swap (f y) (f x) (sorted (map f ys))

-- sorting before a map does not matter where one sorts after it
pub image-sorted : (f : ℕ → ℕ) (xs : List ℕ) → sorted (map f (sorted xs)) ≡ sorted (map f xs)
unfolding sorted
image-sorted f [] = refl
image-sorted f (x ∷ xs) = image-inserted f x (sorted xs) ∙ ap (inserted (f x)) (image-sorted f xs)

-- equal sets have equal images
pub images-same : (f : ℕ → ℕ) (xs ys : List ℕ) → sorted xs ≡ sorted ys → sorted (map f xs) ≡ sorted (map f ys)
images-same f xs ys h = sym (image-sorted f xs) ∙ ap (λ (zs : List ℕ). sorted (map f zs)) h ∙ image-sorted f ys

image-back : (f g : ℕ → ℕ) (xs : List ℕ) → AllByRecursion (λ x. g (f x) ≡ x) xs → map g (map f xs) ≡ xs
image-back f g [] all = refl
image-back f g (x ∷ xs) all = ap₂ (λ y ys. y ∷ ys) all.0 (image-back f g xs all.1)

-- images are equal sets only where the lists are, if the map can be undone
pub images-differ : (f g : ℕ → ℕ) (xs ys : List ℕ) → AllByRecursion (λ x. g (f x) ≡ x) xs → AllByRecursion (λ x. g (f x) ≡ x) ys → sorted (map f xs) ≡ sorted (map f ys) → sorted xs ≡ sorted ys
images-differ f g xs ys all_x all_y h = ap sorted (sym (image-back f g xs all_x)) ∙ images-same g (map f xs) (map f ys) h ∙ ap sorted (image-back f g ys all_y)
