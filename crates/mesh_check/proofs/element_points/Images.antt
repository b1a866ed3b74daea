-- Sets of numbers and of their images.
use Rattle.std.proofs.Common.{◌≡◌, ℕ, ◌<◌, ◌≤◌, Bool, true, false, cond, nat_le, List, [], ◌∷◌, map, ⊎_elim, refl, sym, ap, ap₂, ◌∙◌, subst, arith}
use Rattle.std.specs.List.{AllByRecursion}
use Rattle.std.specs.Cmp.Lexicographic.{same_text}
use Rattle.std.proofs.lemmas.Bool.{le-leb, lt-leb, cases_lt, cond-true, cond-false}
use Rattle.plain_lists.specs.Lists.{sorted, inserted, same_list, same_set}
use Rattle.plain_lists.proofs.Sorted.{same_list-self, all_sorted}
use Rattle.plain_lists.proofs.Each.{all_weaker, all_map, all_mapped}
use Rattle.plain_lists.proofs.Finding.{same_tests}

inserted-low : (a y : ℕ) (ys : List ℕ) → a ≤ y → inserted a (y ∷ ys) ≡ a ∷ y ∷ ys
inserted-low a y ys h = cond-true (nat_le a y) (a ∷ y ∷ ys) (y ∷ inserted a ys) (le-leb a y h)

inserted-high : (a y : ℕ) (ys : List ℕ) → y < a → inserted a (y ∷ ys) ≡ y ∷ inserted a ys
inserted-high a y ys h = cond-false (nat_le a y) (a ∷ y ∷ ys) (y ∷ inserted a ys) (lt-leb a y h)

-- of two numbers the lower one may be put in first or last
inserted-lower : (a b : ℕ) (zs : List ℕ) → a ≤ b → inserted a (inserted b zs) ≡ inserted b (inserted a zs)
inserted-lower a b [] le = inserted-low a b [] le ∙ ⊎_elim
    (λ (h : a < b). sym (inserted-high b a [] h))
    (λ (h : b ≤ a). let same : a ≡ b = omega arith in ap₂ (λ x y. x ∷ y ∷ []) same (sym same) ∙ sym (inserted-low b a [] h))
    (cases_lt a b)
inserted-lower a b (z ∷ zs) le = ⊎_elim
    (λ (ha : z < a). ap (inserted a) (inserted-high b z zs (omega arith)) ∙ inserted-high a z (inserted b zs) ha ∙ ap (λ t. z ∷ t) (inserted-lower a b zs le) ∙ sym (inserted-high b z (inserted a zs) (omega arith)) ∙ ap (inserted b) (sym (inserted-high a z zs ha)))
    (λ (ha : a ≤ z). ⊎_elim
    (λ (hb : z < b). ap (inserted a) (inserted-high b z zs hb) ∙ inserted-low a z (inserted b zs) ha ∙ ap (λ t. a ∷ t) (sym (inserted-high b z zs hb)) ∙ sym (inserted-high b a (z ∷ zs) (omega arith)) ∙ ap (inserted b) (sym (inserted-low a z zs ha)))
    (λ (hb : b ≤ z). ap (inserted a) (inserted-low b z zs hb) ∙ inserted-low a b (z ∷ zs) le ∙ both ha hb ∙ ap (inserted b) (sym (inserted-low a z zs ha)))
    (cases_lt z b))
    (cases_lt z a)
  where
    both : a ≤ z → b ≤ z → a ∷ b ∷ z ∷ zs ≡ inserted b (a ∷ z ∷ zs)
    both ha hb = ⊎_elim
        (λ (h : a < b). ap (λ t. a ∷ t) (sym (inserted-low b z zs hb)) ∙ sym (inserted-high b a (z ∷ zs) h))
        (λ (h : b ≤ a). let same : a ≡ b = omega arith in ap₂ (λ x y. x ∷ y ∷ z ∷ zs) same (sym same) ∙ sym (inserted-low b a (z ∷ zs) h))
        (cases_lt a b)

-- two numbers may be put in in any order
inserted-swap : (a b : ℕ) (zs : List ℕ) → inserted a (inserted b zs) ≡ inserted b (inserted a zs)
inserted-swap a b zs = ⊎_elim (λ (h : a < b). inserted-lower a b zs (omega arith)) (λ (h : b ≤ a). sym (inserted-lower b a zs h)) (cases_lt a b)

all_taken_out : (P : ℕ → Type 0) (x : ℕ) (ys : List ℕ) → AllByRecursion P (inserted x ys) → P x × AllByRecursion P ys
all_taken_out P x [] h = h
all_taken_out P x (y ∷ ys) h = go (nat_le x y) (all_taken_out P x ys) h
  where
    go : (b : Bool) → (AllByRecursion P (inserted x ys) → P x × AllByRecursion P ys) → AllByRecursion P (cond b (x ∷ y ∷ ys) (y ∷ inserted x ys)) → P x × AllByRecursion P (y ∷ ys)
    go true r h = h
    go false r h = let rest = r h.1 in (rest.0, (h.0, rest.1))

-- what all numbers have in order, they have
pub all_unsorted : (P : ℕ → Type 0) (xs : List ℕ) → AllByRecursion P (sorted xs) → AllByRecursion P xs
unfolding sorted
all_unsorted P [] h = tt
all_unsorted P (x ∷ xs) h = let both = all_taken_out P x (sorted xs) h in (both.0, all_unsorted P xs both.1)

image-inserted : (f : ℕ → ℕ) (x : ℕ) (ys : List ℕ) → sorted (map f (inserted x ys)) ≡ inserted (f x) (sorted (map f ys))
unfolding sorted
image-inserted f x [] = refl
image-inserted f x (y ∷ ys) = go (nat_le x y) (image-inserted f x ys)
  where
    go : (b : Bool) → sorted (map f (inserted x ys)) ≡ inserted (f x) (sorted (map f ys)) → sorted (map f (cond b (x ∷ y ∷ ys) (y ∷ inserted x ys))) ≡ inserted (f x) (inserted (f y) (sorted (map f ys)))
    go true r = refl
    go false r = ap (inserted (f y)) r ∙ inserted-swap (f y) (f x) (sorted (map f ys))

-- sorting before a map does not matter where one sorts after it
image-sorted : (f : ℕ → ℕ) (xs : List ℕ) → sorted (map f (sorted xs)) ≡ sorted (map f xs)
unfolding sorted
image-sorted f [] = refl
image-sorted f (x ∷ xs) = image-inserted f x (sorted xs) ∙ ap (inserted (f x)) (image-sorted f xs)

-- equal sets have equal images
images-same : (f : ℕ → ℕ) (xs ys : List ℕ) → sorted xs ≡ sorted ys → sorted (map f xs) ≡ sorted (map f ys)
images-same f xs ys h = sym (image-sorted f xs) ∙ ap (λ (zs : List ℕ). sorted (map f zs)) h ∙ image-sorted f ys

image-back : (f g : ℕ → ℕ) (xs : List ℕ) → AllByRecursion (λ x. g (f x) ≡ x) xs → map g (map f xs) ≡ xs
image-back f g [] all = refl
image-back f g (x ∷ xs) all = ap₂ (λ y ys. y ∷ ys) all.0 (image-back f g xs all.1)

-- images are equal sets only where the lists are, if the map can be undone
pub images-differ : (f g : ℕ → ℕ) (xs ys : List ℕ) → AllByRecursion (λ x. g (f x) ≡ x) xs → AllByRecursion (λ x. g (f x) ≡ x) ys → sorted (map f xs) ≡ sorted (map f ys) → sorted xs ≡ sorted ys
images-differ f g xs ys all_x all_y h = ap sorted (sym (image-back f g xs all_x)) ∙ images-same g (map f xs) (map f ys) h ∙ ap sorted (image-back f g ys all_y)

-- images are equal sets just where the lists are, if the map can be undone wherever it gives what it gives for the second
pub same_set-images : (f g : ℕ → ℕ) (P : ℕ → Type 0) (xs ys : List ℕ) → ((x : ℕ) → P (f x) → g (f x) ≡ x) → AllByRecursion (λ y. P (f y)) ys → same_set (map f xs) (map f ys) ≡ same_set xs ys
same_set-images f g P xs ys back all = same_tests (same_set (map f xs) (map f ys)) (same_set xs ys) there here
  where
    here : same_set xs ys ≡ true → same_set (map f xs) (map f ys) ≡ true
    here h = ap (λ l. same_list l (sorted (map f ys))) (images-same f xs ys (same_text (sorted xs) (sorted ys) (sym h))) ∙ same_list-self (sorted (map f ys))

    there : same_set (map f xs) (map f ys) ≡ true → same_set xs ys ≡ true
    there h =
        let same : sorted (map f xs) ≡ sorted (map f ys) = same_text (sorted (map f xs)) (sorted (map f ys)) (sym h) in
        let of_x : AllByRecursion (λ x. P (f x)) xs = all_mapped P f xs (all_unsorted P (map f xs) (subst (AllByRecursion P) (sym same) (all_sorted P (map f ys) (all_map P f ys all)))) in
        ap (λ l. same_list l (sorted ys)) (images-differ f g xs ys (all_weaker (λ x. P (f x)) (λ x. g (f x) ≡ x) back xs of_x) (all_weaker (λ x. P (f x)) (λ x. g (f x) ≡ x) back ys all) same) ∙ same_list-self (sorted ys)
