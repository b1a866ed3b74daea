-- Points that are reached by entries of cones, and lists that rise.
use Rattle.std.proofs.Common.{◌≡◌, ◌≢◌, ℕ, zero, suc, ◌+◌, ◌<◌, ◌≤◌, Bool, true, false, List, [], ◌∷◌, ◌++◌, length, get_or, drop, refl, sym, ap, ap₂, ◌∙◌, subst, inl, inr, arith, add-one}
use Rattle.std.specs.Prelude.{◌||◌, ◌==◌, ◌↔◌, filter, flat_map}
use Rattle.std.specs.List.{All, AllByRecursion, AllPairs, Contains, list_any}
use Rattle.std.specs.List.Sorted.{IsStrictlyIncreasing}
use Rattle.std.proofs.lemmas.Bool.{cases_Bool, cases_eq, cases_lt, cases_order, eqb-true, eq-eqb, ne_eqb}
use Rattle.std.proofs.lemmas.List.Folds.{list_any-append, list_any_at, Any-from_list_any}
use Rattle.std.proofs.lemmas.List.Elements.{filter-append, All-from_recursion, recursion_from_All, All-filter, All-drop}
use Rattle.std.proofs.Math.Seq.{drop-append_seam}
use Rattle.std.proofs.lemmas.List.{length-map}
use Rattle.plain_lists.proofs.Below.{length-below, below-all, get_or-map-below, get_or-below}
use Rattle.std.proofs.lemmas.List.Concat.{flat_map-cons}
use Rattle.mesh_defs.specs.declared.ConeEntry.{ConeEntry}
use Rattle.plain_lists.specs.Lists.{below}
use Rattle.std.proofs.lemmas.List.{get_or_past}
use Rattle.mesh_defs.specs.declared.Poly.TheVariants.{Vertex}
use Rattle.mesh_defs.specs.Diagram.{Covering, Diagram}
use Rattle.plex_defs.specs.Closure.{point_in, covers, support, list_of}
use Rattle.walk_defs.specs.Cones.{reaches}
use Rattle.plex_walk.specs.Supports.{supports_of}

-- the list has this number
abbrev pub has : List ℕ → ℕ → Bool
has xs q = list_any (λ r. r == q) xs

-- point p is reached from point q by just n entries of cones, one after another
abbrev pub walks : Diagram → ℕ → ℕ → ℕ → Bool
walks x zero p q = q == p
walks x (suc n) p q = list_any (λ (e : ConeEntry). walks x n p e.point) (point_in x q).covers

-- ---- tests

any-same : {X : Type 0} (f g : X → Bool) (xs : List X) → ((a : X) → f a ≡ g a) → list_any f xs ≡ list_any g xs
any-same f g [] same = refl
any-same f g (a ∷ xs) same = ap₂ (λ b c. b || c) (same a) (any-same f g xs same)

or-swapped : (a b c d : Bool) → ((a || b) || (c || d)) ≡ ((a || c) || (b || d))
or-swapped true b c d = refl
or-swapped false true true d = refl
or-swapped false true false d = refl
or-swapped false false c d = refl

-- one of them passes the one test or the other
any-or : {X : Type 0} (f g : X → Bool) (xs : List X) → list_any (λ a. f a || g a) xs ≡ (list_any f xs || list_any g xs)
any-or f g [] = refl
any-or f g (a ∷ xs) = ap (λ b. (f a || g a) || b) (any-or f g xs) ∙ or-swapped (f a) (g a) (list_any f xs) (list_any g xs)

any-none : {X : Type 0} (xs : List X) → list_any (λ a. false) xs ≡ false
any-none [] = refl
any-none (a ∷ xs) = any-none xs

-- some pair of the two lists passes, whichever list is gone through first
any-swapped : {X Y : Type 0} (f : X → Y → Bool) (xs : List X) (ys : List Y) → list_any (λ a. list_any (f a) ys) xs ≡ list_any (λ b. list_any (λ a. f a b) xs) ys
any-swapped f [] ys = sym (any-none ys)
any-swapped f (a ∷ xs) ys = ap (λ b. list_any (f a) ys || b) (any-swapped f xs ys) ∙ sym (any-or (f a) (λ b. list_any (λ c. f c b) xs) ys)

any-flat : {X Y : Type 0} (test : Y → Bool) (F : X → List Y) (xs : List X) → list_any test (flat_map F xs) ≡ list_any (λ a. list_any test (F a)) xs
any-flat test F [] = refl
any-flat test F (a ∷ xs) = ap (list_any test) (flat_map-cons F a xs) ∙ list_any-append test (F a) (flat_map F xs) ∙ ap (λ b. list_any test (F a) || b) (any-flat test F xs)

-- ---- reached by so many entries

or-assoc : (a b c : Bool) → (a || (b || c)) ≡ ((a || b) || c)
or-assoc true b c = refl
or-assoc false b c = refl

pub reaches-more : (x : Diagram) (n p q : ℕ) → reaches x (suc n) p q ≡ (reaches x n p q || walks x (suc n) p q)
reaches-more x zero p q = refl
reaches-more x (suc n) p q =
    ap (λ b. (q == p) || b) (any-same _ _ (point_in x q).covers (λ (e : ConeEntry). reaches-more x n p e.point) ∙ any-or (λ (e : ConeEntry). reaches x n p e.point) (λ (e : ConeEntry). walks x (suc n) p e.point) (point_in x q).covers)
    ∙ or-assoc (q == p) (list_any (λ (e : ConeEntry). reaches x n p e.point) (point_in x q).covers) (walks x (suc (suc n)) p q)

-- ---- one level more

or-false : (b : Bool) → (b || false) ≡ b
or-false true = refl
or-false false = refl

-- one number, if it passes a test
single-here : (test : ℕ → Bool) (n q : ℕ) → n ≡ q → has (filter test (n ∷ [])) q ≡ test q
single-here test n q e = elim (cases_Bool (test n)) as (λ _. has (filter test (n ∷ [])) q ≡ test q) [
  | inl h ↦ rw h (rw (eq-eqb n q e) (sym (ap test (sym e) ∙ h)))
  | inr h ↦ rw h (sym (ap test (sym e) ∙ h))
]

single-other : (test : ℕ → Bool) (n q : ℕ) → n ≢ q → has (filter test (n ∷ [])) q ≡ false
single-other test n q ne = elim (cases_Bool (test n)) as (λ _. has (filter test (n ∷ [])) q ≡ false) [
  | inl h ↦ rw h (rw (ne_eqb n q ne) refl)
  | inr h ↦ rw h refl
]

has-filter-more : (test : ℕ → Bool) (n q : ℕ) → has (filter test (below (suc n))) q ≡ (has (filter test (below n)) q || has (filter test (n ∷ [])) q)
has-filter-more test n q = ap (λ (l : List ℕ). has l q) (filter-append test (below n) (n ∷ [])) ∙ list_any-append (λ r. r == q) (filter test (below n)) (filter test (n ∷ []))

-- the numbers below n that pass a test: none from n on, and of the others just those
pub has-filter-past : (test : ℕ → Bool) (n q : ℕ) → n ≤ q → has (filter test (below n)) q ≡ false
has-filter-past test zero q h = refl
has-filter-past test (suc n) q h =
    let apart : n ≢ q = λ (e : n ≡ q). absurd (omega (arith, e, h)) in
    has-filter-more test n q ∙ ap₂ (λ a b. a || b) (has-filter-past test n q (omega arith)) (single-other test n q apart)

pub has-filter : (test : ℕ → Bool) (n q : ℕ) → q < n → has (filter test (below n)) q ≡ test q
has-filter test zero q h = absurd (omega arith)
has-filter test (suc n) q h = elim (cases_lt q n) as (λ _. has (filter test (below (suc n))) q ≡ test q) [
  | inl lt ↦
      let apart : n ≢ q = λ (e : n ≡ q). absurd (omega (arith, e, lt)) in
      has-filter-more test n q ∙ ap₂ (λ a b. a || b) (has-filter test n q lt) (single-other test n q apart) ∙ or-false (test q)
  | inr ge ↦
      let same : n ≡ q = omega arith in
      has-filter-more test n q ∙ ap₂ (λ a b. a || b) (has-filter-past test n q ge) (single-here test n q same)
]

-- a point is in the supports of the points that its cone names
has-support : (x : Diagram) (r q : ℕ) → has (support x r) q ≡ covers (point_in x q).covers r
unfolding support
has-support x r q = elim (cases_lt q (length x.points)) as (λ _. has (support x r) q ≡ covers (point_in x q).covers r) [
  | inl lt ↦ has-filter (λ s. covers (point_in x s).covers r) (length x.points) q lt
  | inr ge ↦
      let none : covers (point_in x q).covers r ≡ false = ap (λ (c : Covering). covers c.covers r) (get_or_past x.points q (record { poly = Vertex; covers = [] }) ge) in
      has-filter-past (λ s. covers (point_in x s).covers r) (length x.points) q ge ∙ sym none
]

pub walks-more : (x : Diagram) (n p : ℕ) (level : List ℕ) → ((q : ℕ) → has level q ≡ walks x n p q) → (q : ℕ) → has (flat_map (support x) level) q ≡ walks x (suc n) p q
walks-more x n p level h q =
    any-flat (λ r. r == q) (support x) level
    ∙ any-same _ _ level (λ r. has-support x r q)
    ∙ any-swapped (λ r (e : ConeEntry). e.point == r) level (point_in x q).covers
    ∙ any-same _ _ (point_in x q).covers (λ (e : ConeEntry). any-same _ _ level (λ r. eq-turned e.point r) ∙ h e.point)
  where
    eq-turned : (a b : ℕ) → (a == b) ≡ (b == a)
    eq-turned a b = elim (cases_eq a b) as (λ _. (a == b) ≡ (b == a)) [
      | inl e ↦ eq-eqb a b e ∙ sym (eq-eqb b a (sym e))
      | inr ne ↦ ne_eqb a b ne ∙ sym (ne_eqb b a (λ (e : b ≡ a). ne (sym e)))
    ]

-- ---- lists that rise

-- each number is below all later ones
abbrev rises : List ℕ → Type 0
rises [] = Unit {0}
rises (x ∷ xs) = AllByRecursion (λ y. x < y) xs × rises xs

all-above : (x : ℕ) (xs : List ℕ) → ((k : ℕ) → k < length xs → x < get_or xs k 0) → AllByRecursion (λ y. x < y) xs
all-above x [] h = tt
all-above x (y ∷ ys) h = (h 0 (omega arith), all-above x ys (λ k within. h (suc k) (omega arith)))

pub rises-from : (xs : List ℕ) → AllPairs (λ x y. x < y) xs → rises xs
rises-from [] h = tt
rises-from (x ∷ xs) h = (all-above x xs (λ k within. h 0 (suc k) 0 (omega arith) (omega arith)), rises-from xs (λ i j d lt within. h (suc i) (suc j) d (omega arith) (omega arith)))

none-below : (x : ℕ) (xs : List ℕ) → AllByRecursion (λ y. x < y) xs → has xs x ≡ false
none-below x [] h = refl
none-below x (y ∷ ys) h =
    let apart : y ≢ x = λ (e : y ≡ x). absurd (omega (arith, h.0, e)) in
    rw (ne_eqb y x apart) (none-below x ys h.1)

all-weaker : (x y : ℕ) (xs : List ℕ) → x < y → AllByRecursion (λ z. y < z) xs → AllByRecursion (λ z. x < z) xs
all-weaker x y [] lt h = tt
all-weaker x y (z ∷ zs) lt h = (omega (arith, h.0, lt), all-weaker x y zs lt h.1)

has-first : (x : ℕ) (xs : List ℕ) → has (x ∷ xs) x ≡ true
has-first x xs = rw (eq-eqb x x refl) refl

true≢false : (b : Bool) → b ≡ true → b ≡ false → ⊥
true≢false b t f = let both : true ≡ false = sym t ∙ f in cc

-- rising lists with the same numbers are one
pub rising-same : (xs ys : List ℕ) → rises xs → rises ys → ((q : ℕ) → has xs q ≡ has ys q) → xs ≡ ys
rising-same [] [] rise_x rise_y same = refl
rising-same [] (y ∷ ys) rise_x rise_y same = absurd (true≢false (has (y ∷ ys) y) (has-first y ys) (sym (same y)))
rising-same (x ∷ xs) [] rise_x rise_y same = absurd (true≢false (has (x ∷ xs) x) (has-first x xs) (same x))
rising-same (x ∷ xs) (y ∷ ys) rise_x rise_y same = elim (cases_order x y) as (λ _. (x ∷ xs) ≡ (y ∷ ys)) [
  | inl e ↦ ap₂ (λ a (b : List ℕ). a ∷ b) e (rising-same xs ys rise_x.1 rise_y.1 (λ q. rest q e))
  | inr (inl lt) ↦ absurd (true≢false (has (y ∷ ys) x) (sym (same x) ∙ has-first x xs) (none-below x (y ∷ ys) (lt, all-weaker x y ys lt rise_y.0)))
  | inr (inr gt) ↦ absurd (true≢false (has (x ∷ xs) y) (same y ∙ has-first y ys) (none-below y (x ∷ xs) (gt, all-weaker y x xs gt rise_x.0)))
]
  where
    rest : (q : ℕ) → x ≡ y → has xs q ≡ has ys q
    rest q e = elim (cases_eq x q) as (λ _. has xs q ≡ has ys q) [
      | inl here ↦
          let none_x : has xs q ≡ false = ap (has xs) (sym here) ∙ none-below x xs rise_x.0 in
          let none_y : has ys q ≡ false = ap (has ys) (sym here ∙ e) ∙ none-below y ys rise_y.0 in
          none_x ∙ sym none_y
      | inr other ↦
          let other_y : y ≢ q = λ (f : y ≡ q). other (e ∙ f) in
          let first_x : has (x ∷ xs) q ≡ has xs q = rw (ne_eqb x q other) refl in
          let first_y : has (y ∷ ys) q ≡ has ys q = rw (ne_eqb y q other_y) refl in
          sym first_x ∙ same q ∙ first_y
    ]

-- ---- numbers that a list has

has-contains : (xs : List ℕ) (q : ℕ) → has xs q ≡ true → Contains xs q
has-contains xs q h =
    let (k, r, within, at, is) = Any-from_list_any (λ r. r == q) xs h in
    let same : r ≡ q = eqb-true r q is in
    subst (λ s. Contains xs s) same (k, within, at)

contains-has : (xs : List ℕ) (q : ℕ) → Contains xs q → has xs q ≡ true
contains-has xs q (k, within, at) = list_any_at (λ r. r == q) xs k q within (eq-eqb (get_or xs k q) q at)

both-ways : (a b : Bool) → (a ≡ true → b ≡ true) → (b ≡ true → a ≡ true) → a ≡ b
both-ways true b f g = sym (f refl)
both-ways false true f g = g refl
both-ways false false f g = refl

-- lists with the same elements have the same numbers
pub has-same : (xs ys : List ℕ) (q : ℕ) → (Contains xs q ↔ Contains ys q) → has xs q ≡ has ys q
has-same xs ys q same = both-ways (has xs q) (has ys q) (λ h. contains-has ys q (same.0 (has-contains xs q h))) (λ h. contains-has xs q (same.1 (has-contains ys q h)))

-- ---- supports of points that are there

pub has-past : (n : ℕ) (xs : List ℕ) (q : ℕ) → All (λ r. r < n) xs → n ≤ q → has xs q ≡ false
has-past n xs q all past = elim (cases_Bool (has xs q)) as (λ _. has xs q ≡ false) [
  | inl h ↦ let (k, within, at) = has-contains xs q h in let low : get_or xs k q < n = all k q within in absurd (omega (arith, low, at, past))
  | inr h ↦ h
]

pub length-supports : (x : Diagram) → length (supports_of x) ≡ length x.points
unfolding supports_of
length-supports x = length-map (below (length x.points)) (support x) ∙ length-below (length x.points)

support-at : (x : Diagram) (q : ℕ) (d : List ℕ) → q < length x.points → get_or (supports_of x) q d ≡ support x q
unfolding supports_of
support-at x q d low = get_or-map-below (support x) (length x.points) q d low

support-below : (x : Diagram) (q : ℕ) → All (λ r. r < length x.points) (support x q)
unfolding support
support-below x q = All-filter (λ s. covers (point_in x s).covers q) (λ r. r < length x.points) (below (length x.points)) (All-from_recursion (λ r. r < length x.points) (below (length x.points)) (below-all (length x.points)))

pub supports-below : (x : Diagram) → All (λ (l : List ℕ). All (λ q. q < length (supports_of x)) l) (supports_of x)
supports-below x k d within =
    let low : k < length x.points = omega (arith, within, length-supports x) in
    rw (support-at x k d low, length-supports x) (support-below x k)

flat-same : (x : Diagram) (F : List ℕ) → AllByRecursion (λ q. q < length x.points) F → flat_map (list_of (supports_of x)) F ≡ flat_map (support x) F
flat-same x [] all = refl
flat-same x (q ∷ F) all = flat_map-cons (list_of (supports_of x)) q F ∙ ap₂ (λ (a b : List ℕ). a ++ b) (support-at x q [] all.0) (flat-same x F all.1) ∙ sym (flat_map-cons (support x) q F)

-- one level more: the points that it adds, and all points so far
pub level-more : (x : Diagram) (n p last : ℕ) (star : List ℕ) → ((q : ℕ) → has (drop last star) q ≡ walks x n p q) → ((q : ℕ) → has star q ≡ reaches x n p q) → All (λ q. q < length x.points) star
    → (new : List ℕ) → new ≡ star ++ flat_map (list_of (supports_of x)) (drop last star)
    → ((q : ℕ) → has (drop (length star) new) q ≡ walks x (n + 1) p q) × ((q : ℕ) → has new q ≡ reaches x (n + 1) p q)
level-more x n p last star level all within new is =
    let F : List ℕ = drop last star in
    let added : flat_map (list_of (supports_of x)) F ≡ flat_map (support x) F = flat-same x F (recursion_from_All (λ q. q < length x.points) F (All-drop (λ q. q < length x.points) last star within)) in
    let now : new ≡ star ++ flat_map (support x) F = is ∙ ap (λ (l : List ℕ). star ++ l) added in (
      λ q. rw (now, add-one, drop-append_seam) (walks-more x n p F level q),
      λ q. rw (now, add-one, reaches-more x n p q) (list_any-append (λ r. r == q) star (flat_map (support x) F) ∙ ap₂ (λ a b. a || b) (all q) (walks-more x n p F level q)),
    )

-- the numbers below n rise
pub below-rises : (n : ℕ) → IsStrictlyIncreasing (below n)
below-rises n k within =
    let first : k < n = omega (arith, within, length-below n) in
    let next : k + 1 < n = omega (arith, within, length-below n) in
    omega (arith, get_or-below n k 0 first, get_or-below n (k + 1) 0 next)
