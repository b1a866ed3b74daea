-- The number that stands at the place of an owned point.
use Rattle.std.proofs.Common.{◌≡◌, ℕ, zero, suc, ◌+◌, ◌<◌, Bool, true, false, cond, not, ◌||◌, ◌==◌, List, [], ◌∷◌, map, length, get_or, refl, sym, ap, ◌∙◌, arith}
use Rattle.std.specs.Prelude.{find, Option, Some, None}
use Rattle.std.specs.List.{list_any, position_or_len, AllByRecursion, filter, enumerate_from}
use Rattle.std.proofs.lemmas.Bool.{both_ways, and_parts, not-true, eq-eqb, ne_eqb, cond-true, cond-false}
use Rattle.plain_lists.proofs.Each.{all_at, all_filter}
use Rattle.plain_lists.proofs.Finding.{each_fails}
use Rattle.mesh_defs.specs.Sights.{points_differ}
use Rattle.mesh_defs.specs.Points.{Sight, point_of, shows}
use Rattle.mesh_defs.specs.Diagram.{place_in}
use Rattle.mesh_laws.proofs.Firsts.{shows-own, same_point-sym}
use Rattle.dist_number.specs.Places.{own_numbers}

-- as many numbers as points
pub length-own_numbers : (rank next : ℕ) (owners : List ℕ) → length (own_numbers rank next owners) ≡ length owners
length-own_numbers rank next [] = refl
length-own_numbers rank next (o ∷ owners) = go (o == rank) (length-own_numbers rank (next + 1) owners) (length-own_numbers rank next owners)
  where
    go : (b : Bool) → length (own_numbers rank (next + 1) owners) ≡ length owners → length (own_numbers rank next owners) ≡ length owners
        → length (cond b (next ∷ own_numbers rank (next + 1) owners) (0 ∷ own_numbers rank next owners)) ≡ suc (length owners)
    go true counted skipped = ap suc counted
    go false counted skipped = ap suc skipped

-- what stands one place further
at_next : (x : ℕ) (xs : List ℕ) (k : ℕ) → get_or (x ∷ xs) (1 + k) 0 ≡ get_or xs k 0
at_next x xs k = let further : 1 + k ≡ suc k = omega arith in ap (λ n. get_or (x ∷ xs) n 0) further

-- The first thing that passes a test, where what passes is owned: its number is the next one and its place among what is owned.
pub own-number : {X : Type 0} (own : X → ℕ) (test : X → Bool) (rank : ℕ) → ((x : X) → test x ≡ true → (own x == rank) ≡ true) → (next : ℕ) (xs : List X) → list_any test xs ≡ true
    → get_or (own_numbers rank next (map own xs)) (position_or_len test xs) 0 ≡ next + position_or_len test (filter (λ x. own x == rank) xs)
own-number own test rank owned next [] h = absurd (cc h)
own-number {X} own test rank owned next (x ∷ xs) h = go (test x) (own x == rank) (owned x) h (λ n g. own-number own test rank owned n xs g) ∙ sym (ap (λ n. next + n) (first (own x == rank)))
  where
    mine : List X
    mine = filter (λ y. own y == rank) xs

    rest : ℕ
    rest = position_or_len test mine

    first : (c : Bool) → position_or_len test (cond c (x ∷ mine) mine) ≡ cond c (cond (not (test x)) (1 + rest) 0) rest
    first true = refl
    first false = refl

    go : (b c : Bool) → (b ≡ true → c ≡ true) → (b || list_any test xs) ≡ true
        → ((n : ℕ) → list_any test xs ≡ true → get_or (own_numbers rank n (map own xs)) (position_or_len test xs) 0 ≡ n + rest)
        → get_or (cond c (next ∷ own_numbers rank (next + 1) (map own xs)) (0 ∷ own_numbers rank next (map own xs))) (cond (not b) (1 + position_or_len test xs) 0) 0
        ≡ next + cond c (cond (not b) (1 + rest) 0) rest
    go true true o g later = omega arith
    go true false o g later = absurd (both_ways false refl (o refl))
    go false true o g later = at_next next (own_numbers rank (next + 1) (map own xs)) (position_or_len test xs) ∙ (later (next + 1) g ∙ omega arith)
    go false false o g later = at_next 0 (own_numbers rank next (map own xs)) (position_or_len test xs) ∙ later next g

-- a point of a part of different points has its place there
pub placed : (q : Sight → Bool) (ss : List Sight) → points_differ ss ≡ true → (p : ℕ) (d : Sight) → p < length (filter q ss) → place_in (filter q ss) (point_of (get_or (filter q ss) p d)) ≡ p
placed q [] h p d low = absurd (omega (arith, low))
placed q (s ∷ ss) h p d low = go (q s) (placed q ss both.1) p low
  where
    rest : List Sight
    rest = filter q ss

    both : (not (list_any (shows (point_of s)) ss) ≡ true) × (points_differ ss ≡ true)
    both = and_parts (not (list_any (shows (point_of s)) ss)) (points_differ ss) h

    others : AllByRecursion (λ t. shows (point_of s) t ≡ false) rest
    others = all_filter (λ t. shows (point_of s) t ≡ false) q ss (each_fails (shows (point_of s)) ss (not-true (list_any (shows (point_of s)) ss) both.0))

    go : (b : Bool) → ((k : ℕ) (e : Sight) → k < length rest → place_in rest (point_of (get_or rest k e)) ≡ k)
        → (k : ℕ) → k < length (cond b (s ∷ rest) rest) → place_in (cond b (s ∷ rest) rest) (point_of (get_or (cond b (s ∷ rest) rest) k d)) ≡ k
    go false later k h = later k d h
    go true later zero h = ap (λ b. cond (not b) (1 + place_in rest (point_of s)) 0) (shows-own s)
    go true later (suc k) h =
        let x = get_or rest k d in
        let other : shows (point_of x) s ≡ false = same_point-sym (point_of x) (point_of s) ∙ all_at (λ t. shows (point_of s) t ≡ false) rest k d others (omega (arith, h)) in
        let place = later k d (omega (arith, h)) in
        ap (λ b. cond (not b) (1 + place_in rest (point_of x)) 0) other ∙ omega (arith, place)

-- ---- things that are numbered from n on

-- none has a lower number
pub find-below : {X : Type 0} (test : X → Bool) (n key : ℕ) (xs : List X) → key < n → find (λ (x : ℕ × X). x.0 == key) (filter (λ (x : ℕ × X). test x.1) (enumerate_from n xs)) ≡ None
find-below test n key [] low = refl
find-below {X} test n key (x ∷ xs) low = go (test x) (find-below test (n + 1) key xs (omega (arith, low)))
  where
    rest : List (ℕ × X)
    rest = filter (λ (y : ℕ × X). test y.1) (enumerate_from (n + 1) xs)

    go : (b : Bool) → find (λ (y : ℕ × X). y.0 == key) rest ≡ None → find (λ (y : ℕ × X). y.0 == key) (cond b ((n, x) ∷ rest) rest) ≡ None
    go true later = cond-false (n == key) (Some (n, x)) (find (λ (y : ℕ × X). y.0 == key) rest) (ne_eqb n key (λ same. absurd (omega (arith, same, low)))) ∙ later
    go false later = later

-- of those that pass a test, the one with this number is found where it passes
pub find-numbered : {X : Type 0} (test : X → Bool) (n key p : ℕ) (xs : List X) (d : X) → p < length xs → key ≡ n + p
    → find (λ (x : ℕ × X). x.0 == key) (filter (λ (x : ℕ × X). test x.1) (enumerate_from n xs)) ≡ cond (test (get_or xs p d)) (Some (key, get_or xs p d)) None
find-numbered test n key p [] d low is = absurd (omega (arith, low))
find-numbered {X} test n key zero (x ∷ xs) d low is = go (test x)
  where
    rest : List (ℕ × X)
    rest = filter (λ (y : ℕ × X). test y.1) (enumerate_from (n + 1) xs)

    go : (b : Bool) → find (λ (y : ℕ × X). y.0 == key) (cond b ((n, x) ∷ rest) rest) ≡ cond b (Some (key, x)) None
    go true = let same : n ≡ key = omega (arith, is) in cond-true (n == key) (Some (n, x)) (find (λ (y : ℕ × X). y.0 == key) rest) (eq-eqb n key same) ∙ (λ i. Some (same i, x))
    go false = find-below test (n + 1) key xs (omega (arith, is))
find-numbered {X} test n key (suc p) (x ∷ xs) d low is = go (test x) (find-numbered test (n + 1) key p xs d (omega (arith, low)) (omega (arith, is)))
  where
    rest : List (ℕ × X)
    rest = filter (λ (y : ℕ × X). test y.1) (enumerate_from (n + 1) xs)

    found : Option (ℕ × X)
    found = cond (test (get_or xs p d)) (Some (key, get_or xs p d)) None

    go : (b : Bool) → find (λ (y : ℕ × X). y.0 == key) rest ≡ found → find (λ (y : ℕ × X). y.0 == key) (cond b ((n, x) ∷ rest) rest) ≡ found
    go true later = cond-false (n == key) (Some (n, x)) (find (λ (y : ℕ × X). y.0 == key) rest) (ne_eqb n key (λ same. absurd (omega (arith, same, is)))) ∙ later
    go false later = later
