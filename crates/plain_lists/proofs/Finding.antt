-- Whether some element passes a test, the first that does, and its place.
use Rattle.std.proofs.Common.{◌≡◌, ℕ, ◌+◌, ◌<◌, Bool, true, false, cond, not, ◌&&◌, ◌||◌, List, [], ◌∷◌, ◌++◌, map, length, Some, None, refl, sym, ap, ap₂, ◌∙◌, subst, inl, inr, ◌⊎◌, ⊎_elim, arith}
use Rattle.std.specs.Prelude.{find, filter, option_map}
use Rattle.std.specs.List.{AllByRecursion, enumerate_from, list_any, position_or_len}
use Rattle.std.proofs.lemmas.Bool.{or_parts, or_left, or_right, or_cases, both_ways, cond-true, cond-false}
use Rattle.plain_lists.proofs.Each.{all_from}

-- ---- some element

-- two tests that imply each other are equal
pub same_tests : (b c : Bool) → (b ≡ true → c ≡ true) → (c ≡ true → b ≡ true) → b ≡ c
same_tests true c f g = sym (f refl)
same_tests false true f g = g refl
same_tests false false f g = refl

-- nothing passes, where no element does
pub each_fails : {X : Type 0} (p : X → Bool) (xs : List X) → list_any p xs ≡ false → AllByRecursion (λ x. p x ≡ false) xs
each_fails p [] h = tt
each_fails p (x ∷ xs) h = let both = or_parts (p x) (list_any p xs) h in (both.0, each_fails p xs both.1)

-- no element passes, where each fails
pub none_passes : {X : Type 0} (p : X → Bool) (xs : List X) → AllByRecursion (λ x. p x ≡ false) xs → list_any p xs ≡ false
none_passes p [] h = refl
none_passes p (x ∷ xs) h = rw h.0 (none_passes p xs h.1)

-- some element passes the one just where some passes the other
pub any_agree : {X : Type 0} (p q : X → Bool) (xs : List X) → AllByRecursion (λ x. p x ≡ q x) xs → list_any p xs ≡ list_any q xs
any_agree p q [] h = refl
any_agree p q (x ∷ xs) h = ap₂ (λ a b. a || b) h.0 (any_agree p q xs h.1)

-- tests that agree everywhere
pub any_same : {X : Type 0} (p q : X → Bool) → ((x : X) → p x ≡ q x) → (xs : List X) → list_any p xs ≡ list_any q xs
any_same p q f xs = any_agree p q xs (all_from (λ x. p x ≡ q x) f xs)

-- some element passes a test that each passes which passes the other
pub any_implied : {X : Type 0} (p q : X → Bool) (xs : List X) → AllByRecursion (λ x. p x ≡ true → q x ≡ true) xs → list_any p xs ≡ true → list_any q xs ≡ true
any_implied p q [] f h = h
any_implied p q (x ∷ xs) f h = ⊎_elim (λ a. or_left (q x) (list_any q xs) (f.0 a)) (λ a. or_right (q x) (list_any q xs) (any_implied p q xs f.1 a)) (or_cases (p x) (list_any p xs) h)

-- some element passes a weaker test
pub any_weaker : {X : Type 0} (p q : X → Bool) → ((x : X) → p x ≡ true → q x ≡ true) → (xs : List X) → list_any p xs ≡ true → list_any q xs ≡ true
any_weaker p q f xs h = any_implied p q xs (all_from (λ x. p x ≡ true → q x ≡ true) f xs) h

-- a test of an image
pub any_map : {X Y : Type 0} (p : Y → Bool) (f : X → Y) (xs : List X) → list_any p (map f xs) ≡ list_any (λ x. p (f x)) xs
any_map p f [] = refl
any_map p f (x ∷ xs) = ap (λ t. p (f x) || t) (any_map p f xs)

-- a test that does not read the places
pub any_enumerated : {X : Type 0} (q : X → Bool) (n : ℕ) (xs : List X) → list_any (λ (c : ℕ × X). q c.1) (enumerate_from n xs) ≡ list_any q xs
any_enumerated q n [] = refl
any_enumerated q n (x ∷ xs) = ap (λ t. q x || t) (any_enumerated q (n + 1) xs)

-- some element of a filter passes
pub any_filter : {X : Type 0} (p q : X → Bool) (xs : List X) → list_any p (filter q xs) ≡ list_any (λ x. q x && p x) xs
any_filter p q [] = refl
any_filter p q (x ∷ xs) = go (q x) (any_filter p q xs)
  where
    go : (b : Bool) → list_any p (filter q xs) ≡ list_any (λ x. q x && p x) xs → list_any p (cond b (x ∷ filter q xs) (filter q xs)) ≡ ((b && p x) || list_any (λ x. q x && p x) xs)
    go true r = ap (λ t. p x || t) r
    go false r = r

-- each element of a list stands in it
pub stands : {X : Type 0} (xs : List X) → AllByRecursion (λ x. (p : X → Bool) → p x ≡ true → list_any p xs ≡ true) xs
stands [] = tt
stands {X} (x ∷ xs) = ((λ p h. or_left (p x) (list_any p xs) h), later xs (λ p h. or_right (p x) (list_any p xs) h))
  where
    later : (ys : List X) → ((p : X → Bool) → list_any p ys ≡ true → list_any p (x ∷ xs) ≡ true) → AllByRecursion (λ y. (p : X → Bool) → p y ≡ true → list_any p (x ∷ xs) ≡ true) ys
    later [] f = tt
    later (y ∷ ys) f = ((λ p h. f p (or_left (p y) (list_any p ys) h)), later ys (λ p h. f p (or_right (p y) (list_any p ys) h)))

-- what all elements have, the one that passes has
pub among : {X : Type 0} (P : X → Type 0) (p : X → Bool) (xs : List X) → AllByRecursion P xs → list_any p xs ≡ true → (x : X) × P x × (p x ≡ true)
among P p [] h e = absurd (cc e)
among {X} P p (x ∷ xs) h e = go (p x) refl e (among P p xs h.1)
  where
    go : (b : Bool) → p x ≡ b → (b || list_any p xs) ≡ true → (list_any p xs ≡ true → (y : X) × P y × (p y ≡ true)) → (y : X) × P y × (p y ≡ true)
    go true f g r = (x, h.0, f)
    go false f g r = r g

-- ---- the first element

-- found in the first of two lists
pub find-append_found : {X : Type 0} (p : X → Bool) (xs ys : List X) → list_any p xs ≡ true → find p (xs ++ ys) ≡ find p xs
find-append_found p [] ys h = absurd (cc h)
find-append_found p (x ∷ xs) ys h = go (p x) refl (find-append_found p xs ys)
  where
    go : (b : Bool) → p x ≡ b → (list_any p xs ≡ true → find p (xs ++ ys) ≡ find p xs) → cond b (Some x) (find p (xs ++ ys)) ≡ cond b (Some x) (find p xs)
    go true e r = refl
    go false e r = r (ap (λ t. t || list_any p xs) (sym e) ∙ h)

-- not found in the first of two lists
pub find-append_none : {X : Type 0} (p : X → Bool) (xs ys : List X) → list_any p xs ≡ false → find p (xs ++ ys) ≡ find p ys
find-append_none p [] ys h = refl
find-append_none p (x ∷ xs) ys h =
    let both = or_parts (p x) (list_any p xs) h in
    cond-false (p x) (Some x) (find p (xs ++ ys)) both.0 ∙ find-append_none p xs ys both.1

-- nothing is found where nothing passes
pub find-none : {X : Type 0} (p : X → Bool) (xs : List X) → list_any p xs ≡ false → find p xs ≡ None
find-none p [] h = refl
find-none p (x ∷ xs) h = let both = or_parts (p x) (list_any p xs) h in cond-false (p x) (Some x) (find p xs) both.0 ∙ find-none p xs both.1

-- something is found, or nothing passes
pub find-cases : {X : Type 0} (p : X → Bool) (xs : List X) → ((x : X) × (find p xs ≡ Some x)) ⊎ (list_any p xs ≡ false)
find-cases p [] = inr refl
find-cases p (x ∷ xs) = go (p x) (find-cases p xs)
  where
    go : (b : Bool) → ((y : _) × (find p xs ≡ Some y)) ⊎ (list_any p xs ≡ false) → ((y : _) × (cond b (Some x) (find p xs) ≡ Some y)) ⊎ ((b || list_any p xs) ≡ false)
    go true r = inl (x, refl)
    go false r = r

-- what a search finds passes the test
pub find-passes : {X : Type 0} (p : X → Bool) (xs : List X) (x : X) → find p xs ≡ Some x → p x ≡ true
find-passes p [] x h = absurd (cc h)
find-passes p (y ∷ ys) x h = go (p y) refl h (find-passes p ys x)
  where
    go : (b : Bool) → p y ≡ b → cond b (Some y) (find p ys) ≡ Some x → (find p ys ≡ Some x → p x ≡ true) → p x ≡ true
    go true e f r = let same : y ≡ x = cc f in subst (λ z. p z ≡ true) same e
    go false e f r = r f

-- what is found has what all have
pub find-has : {X : Type 0} (P : X → Type 0) (p : X → Bool) (xs : List X) (x : X) → AllByRecursion P xs → find p xs ≡ Some x → P x
find-has P p [] x h e = absurd (cc e)
find-has P p (y ∷ ys) x h e = go (p y) e (find-has P p ys x h.1)
  where
    go : (b : Bool) → cond b (Some y) (find p ys) ≡ Some x → (find p ys ≡ Some x → P x) → P x
    go true f r = let same : y ≡ x = cc f in subst P same h.0
    go false f r = r f

-- where something is found, something passes
pub found-any : {X : Type 0} (p : X → Bool) (xs : List X) (x : X) → find p xs ≡ Some x → list_any p xs ≡ true
found-any p [] x e = absurd (cc e)
found-any p (y ∷ ys) x e = go (p y) e (found-any p ys x)
  where
    go : (b : Bool) → cond b (Some y) (find p ys) ≡ Some x → (find p ys ≡ Some x → list_any p ys ≡ true) → (b || list_any p ys) ≡ true
    go true f r = refl
    go false f r = r f

-- the first element is one
pub find_agree : {X : Type 0} (p q : X → Bool) (xs : List X) → AllByRecursion (λ x. p x ≡ q x) xs → find p xs ≡ find q xs
find_agree p q [] h = refl
find_agree p q (x ∷ xs) h = ap₂ (λ a r. cond a (Some x) r) h.0 (find_agree p q xs h.1)

-- what is found among images
pub find-map : {X Y : Type 0} (p : Y → Bool) (f : X → Y) (xs : List X) → find p (map f xs) ≡ option_map f (find (λ x. p (f x)) xs)
find-map p f [] = refl
find-map p f (x ∷ xs) = go (p (f x)) (find-map p f xs)
  where
    go : (b : Bool) → find p (map f xs) ≡ option_map f (find (λ y. p (f y)) xs) → cond b (Some (f x)) (find p (map f xs)) ≡ option_map f (cond b (Some x) (find (λ y. p (f y)) xs))
    go true r = refl
    go false r = r

-- a search does not see what a filter drops, where all that passes the one passes the other
pub find-filter : {X : Type 0} (p q : X → Bool) → ((x : X) → p x ≡ true → q x ≡ true) → (xs : List X) → find p (filter q xs) ≡ find p xs
find-filter p q f [] = refl
find-filter p q f (x ∷ xs) = go (q x) refl (p x) refl (find-filter p q f xs)
  where
    go : (b : Bool) → q x ≡ b → (c : Bool) → p x ≡ c → find p (filter q xs) ≡ find p xs → find p (cond b (x ∷ filter q xs) (filter q xs)) ≡ cond c (Some x) (find p xs)
    go true e true k r = cond-true (p x) (Some x) (find p (filter q xs)) k
    go true e false k r = cond-false (p x) (Some x) (find p (filter q xs)) k ∙ r
    go false e true k r = absurd (both_ways (q x) e (f x k))
    go false e false k r = r

-- ---- the first place

-- the place of what is found in the first of two lists
pub position-append_found : {X : Type 0} (p : X → Bool) (xs ys : List X) → list_any p xs ≡ true → position_or_len p (xs ++ ys) ≡ position_or_len p xs
position-append_found p [] ys h = absurd (cc h)
position-append_found p (x ∷ xs) ys h = go (p x) refl (position-append_found p xs ys)
  where
    go : (b : Bool) → p x ≡ b → (list_any p xs ≡ true → position_or_len p (xs ++ ys) ≡ position_or_len p xs) → cond (not b) (1 + position_or_len p (xs ++ ys)) 0 ≡ cond (not b) (1 + position_or_len p xs) 0
    go true e r = refl
    go false e r = ap (λ n. 1 + n) (r (ap (λ t. t || list_any p xs) (sym e) ∙ h))

-- the place of what is not found in the first of two lists
pub position-append_none : {X : Type 0} (p : X → Bool) (xs ys : List X) → list_any p xs ≡ false → position_or_len p (xs ++ ys) ≡ length xs + position_or_len p ys
position-append_none p [] ys h = omega arith
position-append_none p (x ∷ xs) ys h =
    let both = or_parts (p x) (list_any p xs) h in
    let here : position_or_len p ((x ∷ xs) ++ ys) ≡ 1 + position_or_len p (xs ++ ys) = ap (λ b. cond (not b) (1 + position_or_len p (xs ++ ys)) 0) both.0 in
    let rest = position-append_none p xs ys both.1 in
    omega arith

-- the place of what stands nowhere is the length
pub position-none : {X : Type 0} (p : X → Bool) (xs : List X) → list_any p xs ≡ false → position_or_len p xs ≡ length xs
position-none p [] h = refl
position-none p (x ∷ xs) h =
    let both = or_parts (p x) (list_any p xs) h in
    ap (λ b. cond (not b) (1 + position_or_len p xs) 0) both.0 ∙ ap (λ n. 1 + n) (position-none p xs both.1) ∙ omega arith

-- the place of what stands somewhere is below the length
pub position-within : {X : Type 0} (p : X → Bool) (xs : List X) → list_any p xs ≡ true → position_or_len p xs < length xs
position-within p [] h = absurd (cc h)
position-within p (x ∷ xs) h = go (p x) refl (position-within p xs)
  where
    go : (b : Bool) → p x ≡ b → (list_any p xs ≡ true → position_or_len p xs < length xs) → cond (not b) (1 + position_or_len p xs) 0 < length (x ∷ xs)
    go true e r = omega arith
    go false e r = let below = r (ap (λ t. t || list_any p xs) (sym e) ∙ h) in omega arith

-- the first place is one
pub position_agree : {X : Type 0} (p q : X → Bool) (xs : List X) → AllByRecursion (λ x. p x ≡ q x) xs → position_or_len p xs ≡ position_or_len q xs
position_agree p q [] h = refl
position_agree p q (x ∷ xs) h = ap₂ (λ a n. cond (not a) (1 + n) 0) h.0 (position_agree p q xs h.1)

-- the first place among images
pub position_map : {X Y : Type 0} (p : Y → Bool) (f : X → Y) (xs : List X) → position_or_len p (map f xs) ≡ position_or_len (λ x. p (f x)) xs
position_map p f [] = refl
position_map p f (x ∷ xs) = ap (λ n. cond (not (p (f x))) (1 + n) 0) (position_map p f xs)
