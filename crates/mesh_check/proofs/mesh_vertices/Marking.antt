-- Flags of numbers, by the places of the numbers.
use Rattle.std.proofs.Common.{◌≡◌, ℕ, suc, ◌+◌, ◌<◌, Bool, true, false, cond, not, ◌||◌, ◌==◌, List, [], ◌∷◌, map, length, get_or, set, take, refl, sym, ap, ap₂, ◌∙◌, arith}
use Rattle.std.specs.Prelude.{nat_eq, nat_lt, position, Option, Some, None, IfSome}
use Rattle.std.specs.List.{list_any, position_or_len, AllByRecursion, IsDistinct}
use Rattle.std.proofs.lemmas.Bool.{eqb-true, eq-eqb, or_parts, cond-true, lt-ltb, ltb-true}
use Rattle.std.proofs.lemmas.List.{length-map}
use Rattle.std.proofs.lemmas.List.Folds.{list_any_more}
use Rattle.std.proofs.lemmas.Map.Keys.{IsDistinct-head, IsDistinct-tail}
use Rattle.plain_lists.proofs.Finding.{same_tests, position-within, position_map}
use Rattle.plain_lists.proofs.Filters.{map_same}
use Rattle.plain_lists.proofs.Each.{all_weaker, all_from}
use Rattle.input_defs.specs.Sections.{has_number}

-- equality of numbers either way round
pub eqb-turn : (a b : ℕ) → (a == b) ≡ (b == a)
eqb-turn a b = same_tests (a == b) (b == a) (λ h. eq-eqb b a (sym (eqb-true a b h))) (λ h. eq-eqb a b (sym (eqb-true b a h)))

or-false : (a : Bool) → (a || false) ≡ a
or-false true = refl
or-false false = refl

or-true : (a : Bool) → (a || true) ≡ true
or-true true = refl
or-true false = refl

-- a number that stands nowhere flags nothing
pub flagged_nowhere : (test : ℕ → Bool) (m : ℕ) (xs : List ℕ) → list_any (λ x. x == m) xs ≡ false → map test xs ≡ map (λ n. test n || (m == n)) xs
flagged_nowhere test m [] h = refl
flagged_nowhere test m (x ∷ xs) h =
    let both = or_parts (x == m) (list_any (λ y. y == m) xs) h in
    ap₂ (λ b bs. b ∷ bs) (sym (ap (λ t. test x || t) (eqb-turn m x ∙ both.0) ∙ or-false (test x))) (flagged_nowhere test m xs both.1)

-- the flag at the place of a number is that of the number
pub flagged_at : (test : ℕ → Bool) (m : ℕ) (xs : List ℕ) → IsDistinct nat_eq xs → set (map test xs) (position_or_len (λ x. x == m) xs) true ≡ map (λ n. test n || (m == n)) xs
flagged_at test m [] d = refl
flagged_at test m (x ∷ xs) d = go (x == m) refl (flagged_at test m xs (IsDistinct-tail nat_eq x xs d))
  where
    P : ℕ
    P = position_or_len (λ y. y == m) xs

    others : (x == m) ≡ true → AllByRecursion (λ y. test y ≡ (test y || (m == y))) xs
    others e = all_weaker (λ y. nat_eq x y ≡ false) (λ y. test y ≡ (test y || (m == y))) (λ y h. sym (ap (λ t. test y || t) (ap (λ z. z == y) (sym (eqb-true x m e)) ∙ h) ∙ or-false (test y))) xs (IsDistinct-head nat_eq x xs d)

    go : (b : Bool) → (x == m) ≡ b → set (map test xs) P true ≡ map (λ n. test n || (m == n)) xs → set (test x ∷ map test xs) (cond (not b) (1 + P) 0) true ≡ (test x || (m == x)) ∷ map (λ n. test n || (m == n)) xs
    go true e r = ap₂ (λ b bs. b ∷ bs) (sym (ap (λ t. test x || t) (eqb-turn m x ∙ e) ∙ or-true (test x))) (map_same test (λ n. test n || (m == n)) xs (others e))
    go false e r =
        let one : 1 + P ≡ suc P = omega arith in
        ap (λ k. set (test x ∷ map test xs) k true) one ∙ ap₂ (λ b bs. b ∷ bs) (sym (ap (λ t. test x || t) (eqb-turn m x ∙ e) ∙ or-false (test x))) r

-- ---- places

-- a place that is found
pub position-found : {X : Type 0} (p : X → Bool) (xs : List X) (k : ℕ) → position p xs ≡ Some k → position_or_len p xs ≡ k
position-found p xs k h = go (nat_lt (position_or_len p xs) (length xs)) h
  where
    go : (b : Bool) → cond b (Some (position_or_len p xs)) None ≡ Some k → position_or_len p xs ≡ k
    go true e = cc e
    go false e = absurd (cc e)

-- where none is found nothing passes
pub position-missing : {X : Type 0} (p : X → Bool) (xs : List X) → position p xs ≡ None → list_any p xs ≡ false
position-missing p xs h = go (list_any p xs) refl
  where
    go : (b : Bool) → list_any p xs ≡ b → b ≡ false
    go false e = refl
    go true e = absurd (cc (sym h ∙ cond-true (nat_lt (position_or_len p xs) (length xs)) (Some (position_or_len p xs)) None (lt-ltb (position_or_len p xs) (length xs) (position-within p xs e))))

-- ---- a loop over the numbers to flag

-- these are the flags of numbers that had some, after these numbers are flagged
abbrev pub AreFlags : (ℕ → Bool) → List ℕ → List ℕ → List Bool → Type 0
AreFlags test xs ms flags = flags ≡ map (λ n. test n || has_number ms n) xs

or-assoc : (a b c : Bool) → ((a || b) || c) ≡ (a || (b || c))
or-assoc true b c = refl
or-assoc false b c = refl

-- one more of the numbers
one_more : (test : ℕ → Bool) (xs ms : List ℕ) (i : ℕ) → i < length ms → map (λ n. (test n || has_number (take i ms) n) || (get_or ms i 0 == n)) xs ≡ map (λ n. test n || has_number (take (i + 1) ms) n) xs
one_more test xs ms i low = map_same (λ n. (test n || has_number (take i ms) n) || (get_or ms i 0 == n)) (λ n. test n || has_number (take (i + 1) ms) n) xs
    (all_from (λ n. ((test n || has_number (take i ms) n) || (get_or ms i 0 == n)) ≡ (test n || has_number (take (i + 1) ms) n))
    (λ n. or-assoc (test n) (has_number (take i ms) n) (get_or ms i 0 == n) ∙ ap (λ t. test n || t) (sym (list_any_more (λ m. m == n) ms i 0 low))) xs)

pub flags-none : (test : ℕ → Bool) (xs : List ℕ) (flags : List Bool) → flags ≡ map test xs → AreFlags test xs [] flags
flags-none test xs flags h = h ∙ map_same test (λ n. test n || false) xs (all_from (λ n. test n ≡ (test n || false)) (λ n. sym (or-false (test n))) xs)

pub flags-known : (test : ℕ → Bool) (xs ms : List ℕ) (i k : ℕ) (flags : List Bool) → IsDistinct nat_eq xs → i < length ms → position (λ x. x == get_or ms i 0) xs ≡ Some k → AreFlags test xs (take i ms) flags → AreFlags test xs (take (i + 1) ms) (set flags k true)
flags-known test xs ms i k flags d low at h =
    ap₂ (λ f p. set f p true) h (sym (position-found (λ x. x == get_or ms i 0) xs k at)) ∙ flagged_at (λ n. test n || has_number (take i ms) n) (get_or ms i 0) xs d ∙ one_more test xs ms i low

pub flags-unknown : (test : ℕ → Bool) (xs ms : List ℕ) (i : ℕ) (flags : List Bool) → i < length ms → position (λ x. x == get_or ms i 0) xs ≡ None → AreFlags test xs (take i ms) flags → AreFlags test xs (take (i + 1) ms) flags
flags-unknown test xs ms i flags low at h =
    h ∙ flagged_nowhere (λ n. test n || has_number (take i ms) n) (get_or ms i 0) xs (position-missing (λ x. x == get_or ms i 0) xs at) ∙ one_more test xs ms i low

-- ---- places among images

pub position-of_map : {X Y : Type 0} (p : Y → Bool) (f : X → Y) (xs : List X) → position p (map f xs) ≡ position (λ x. p (f x)) xs
position-of_map p f xs = ap₂ (λ k n. cond (nat_lt k n) (Some k) None) (position_map p f xs) (length-map xs f)

-- a place that is found is the first one, and there is an element there
pub position-is : {X : Type 0} (p : X → Bool) (xs : List X) (o : Option ℕ) → o ≡ position p xs → IfSome o (λ k. (k ≡ position_or_len p xs) × (k < length xs))
position-is p xs None h = tt
position-is p xs (Some k) h = let at = position-found p xs k (sym h) in let low = (within (nat_lt (position_or_len p xs) (length xs)) refl (sym h)) in (sym at, omega (arith, at, low))
  where
    within : (b : Bool) → nat_lt (position_or_len p xs) (length xs) ≡ b → cond b (Some (position_or_len p xs)) None ≡ Some k → position_or_len p xs < length xs
    within true e g = ltb-true (position_or_len p xs) (length xs) e
    within false e g = absurd (cc g)
