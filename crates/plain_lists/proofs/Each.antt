-- What each element of a list has.
use Rattle.std.proofs.Common.{◌≡◌, ℕ, zero, suc, ◌+◌, ◌<◌, Bool, true, false, cond, List, [], ◌∷◌, ◌++◌, map, length, get_or, subst, arith}
use Rattle.std.specs.Prelude.{flat_map, filter}
use Rattle.std.specs.List.{AllByRecursion, Contains, enumerate_from, list_all}
use Rattle.std.proofs.lemmas.Bool.{and_parts}

-- ---- one thing from others

-- what each element has follows from two things that it has
pub all_both : {X : Type 0} (P Q R : X → Type 0) → ((x : X) → P x → Q x → R x) → (xs : List X) → AllByRecursion P xs → AllByRecursion Q xs → AllByRecursion R xs
all_both P Q R f [] p q = tt
all_both P Q R f (x ∷ xs) p q = (f x p.0 q.0, all_both P Q R f xs p.1 q.1)

-- what each element has follows from one thing that it has
pub all_weaker : {X : Type 0} (P Q : X → Type 0) → ((x : X) → P x → Q x) → (xs : List X) → AllByRecursion P xs → AllByRecursion Q xs
all_weaker P Q f [] p = tt
all_weaker P Q f (x ∷ xs) p = (f x p.0, all_weaker P Q f xs p.1)

-- what everything has
pub all_from : {X : Type 0} (P : X → Type 0) → ((x : X) → P x) → (xs : List X) → AllByRecursion P xs
all_from P f [] = tt
all_from P f (x ∷ xs) = (f x, all_from P f xs)

-- a test that passes at each element
pub each_passes : {X : Type 0} (p : X → Bool) (xs : List X) → list_all p xs ≡ true → AllByRecursion (λ x. p x ≡ true) xs
each_passes p [] h = tt
each_passes p (x ∷ xs) h = let both = and_parts (p x) (list_all p xs) h in (both.0, each_passes p xs both.1)

-- ---- one element

-- the element at a place
pub all_at : {X : Type 0} (P : X → Type 0) (xs : List X) (k : ℕ) (d : X) → AllByRecursion P xs → k < length xs → P (get_or xs k d)
all_at P [] k d p h = absurd (omega arith)
all_at P (x ∷ xs) zero d p h = p.0
all_at P (x ∷ xs) (suc k) d p h = all_at P xs k d p.1 (omega arith)

-- an element of the list
pub all_contained : {X : Type 0} (P : X → Type 0) (xs : List X) (x : X) → AllByRecursion P xs → Contains xs x → P x
all_contained P [] x h c = absurd (omega (arith, c.1))
all_contained P (y ∷ ys) x h (zero, below, same) = subst P same h.0
all_contained P (y ∷ ys) x h (suc k, below, same) = all_contained P ys x h.1 (k, omega (arith, below), same)

-- ---- lists made of lists

-- two lists end to end
pub all_append : {X : Type 0} (P : X → Type 0) (xs ys : List X) → AllByRecursion P xs → AllByRecursion P ys → AllByRecursion P (xs ++ ys)
all_append P [] ys p q = q
all_append P (x ∷ xs) ys p q = (p.0, all_append P xs ys p.1 q)

-- the first of two lists end to end
pub all_append_first : {X : Type 0} (P : X → Type 0) (xs ys : List X) → AllByRecursion P (xs ++ ys) → AllByRecursion P xs
all_append_first P [] ys h = tt
all_append_first P (x ∷ xs) ys h = (h.0, all_append_first P xs ys h.1)

-- the second of two lists end to end
pub all_append_second : {X : Type 0} (P : X → Type 0) (xs ys : List X) → AllByRecursion P (xs ++ ys) → AllByRecursion P ys
all_append_second P [] ys h = h
all_append_second P (x ∷ xs) ys h = all_append_second P xs ys h.1

-- the images of a list
pub all_map : {X Y : Type 0} (P : Y → Type 0) (f : X → Y) (xs : List X) → AllByRecursion (λ x. P (f x)) xs → AllByRecursion P (map f xs)
all_map P f [] p = tt
all_map P f (x ∷ xs) p = (p.0, all_map P f xs p.1)

-- what all images have, read at what they are images of
pub all_mapped : {X Y : Type 0} (P : Y → Type 0) (f : X → Y) (xs : List X) → AllByRecursion P (map f xs) → AllByRecursion (λ x. P (f x)) xs
all_mapped P f [] p = tt
all_mapped P f (x ∷ xs) p = (p.0, all_mapped P f xs p.1)

-- a flat map
pub all_flat_map : {X Y : Type 0} (P : Y → Type 0) (f : X → List Y) (xs : List X) → AllByRecursion (λ x. AllByRecursion P (f x)) xs → AllByRecursion P (flat_map f xs)
all_flat_map P f [] p = tt
all_flat_map P f (x ∷ xs) p = all_append P (f x) (flat_map f xs) p.0 (all_flat_map P f xs p.1)

-- the part of each element in a flat map
pub all_in_flat_map : {X Y : Type 0} (P : Y → Type 0) (f : X → List Y) (xs : List X) → AllByRecursion P (flat_map f xs) → AllByRecursion (λ x. AllByRecursion P (f x)) xs
all_in_flat_map P f [] h = tt
all_in_flat_map P f (x ∷ xs) h = (all_append_first P (f x) (flat_map f xs) h, all_in_flat_map P f xs (all_append_second P (f x) (flat_map f xs) h))

-- what a filter keeps
pub all_filter : {X : Type 0} (P : X → Type 0) (p : X → Bool) (xs : List X) → AllByRecursion P xs → AllByRecursion P (filter p xs)
all_filter P p [] h = tt
all_filter P p (x ∷ xs) h = go (p x) (all_filter P p xs h.1)
  where
    go : (b : Bool) → AllByRecursion P (filter p xs) → AllByRecursion P (cond b (x ∷ filter p xs) (filter p xs))
    go true r = (h.0, r)
    go false r = r

-- elements with their places
pub all_enumerated : {X : Type 0} (P : X → Type 0) (n : ℕ) (xs : List X) → AllByRecursion P xs → AllByRecursion (λ (c : ℕ × X). P c.1) (enumerate_from n xs)
all_enumerated P n [] h = tt
all_enumerated P n (x ∷ xs) h = (h.0, all_enumerated P (n + 1) xs h.1)
