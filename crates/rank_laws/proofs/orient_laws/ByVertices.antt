-- Points of one dimension in the order of their vertices: one order, whatever way they are sorted.
use Rattle.std.proofs.Common.{◌≡◌, ℕ, ◌<◌, ◌≤◌, Bool, true, false, cond, ◌&&◌, ◌||◌, ◌==◌, nat_lt, List, [], ◌∷◌, refl, sym, ap, ◌∙◌, ⊎_elim, arith}
use Rattle.std.specs.List.{list_any, AllByRecursion}
use Rattle.std.proofs.lemmas.Bool.{eq-eqb, ne_eqb, both_ways, or_left, lt-ltb, le-ltb, cases_lt, and_left}
use Rattle.plain_lists.proofs.Each.{all_weaker, all_from}
use Rattle.mesh_defs.specs.Points.{Point, same_point}
use Rattle.mesh_laws.proofs.Firsts.{same_point-true, same_point-self}
use Rattle.rank_defs.specs.Home.{precedes, put_in_order, by_vertices}
use Rattle.rank_laws.specs.orient_laws.Named.{StandInOrder}
use Rattle.rank_laws.proofs.orient_laws.Rising.{Ordered, ordered-one}

-- ---- the order of lists

-- the order of two lists with first numbers
first-lower : (x y : ℕ) (xs ys : List ℕ) → x < y → precedes (x ∷ xs) (y ∷ ys) ≡ true
first-lower x y xs ys h = or_left (nat_lt x y) ((x == y) && precedes xs ys) (lt-ltb x y h)

first-higher : (x y : ℕ) (xs ys : List ℕ) → y < x → precedes (x ∷ xs) (y ∷ ys) ≡ false
first-higher x y xs ys h = ap (λ b. b || ((x == y) && precedes xs ys)) (le-ltb x y (omega (arith, h))) ∙ and_left (x == y) (precedes xs ys) (ne_eqb x y (λ e. absurd (omega (arith, e, h))))

first-same : (x y : ℕ) (xs ys : List ℕ) → x ≡ y → precedes (x ∷ xs) (y ∷ ys) ≡ precedes xs ys
first-same x y xs ys e = ap (λ b. b || ((x == y) && precedes xs ys)) (le-ltb x y (omega (arith, e))) ∙ ap (λ b. b && precedes xs ys) (eq-eqb x y e)

-- of two lists one stands before the other, or they are one
pub precedes-total : (xs ys : List ℕ) → precedes xs ys ≡ false → precedes ys xs ≡ true
precedes-total [] ys h = absurd (cc h)
precedes-total (x ∷ xs) [] h = refl
precedes-total (x ∷ xs) (y ∷ ys) h = ⊎_elim
    (λ lt. absurd (both_ways (precedes (x ∷ xs) (y ∷ ys)) h (first-lower x y xs ys lt)))
    (λ ge. ⊎_elim (λ lt. first-lower y x ys xs lt) (λ le. let same : x ≡ y = omega (arith, ge, le) in first-same y x ys xs (sym same) ∙ precedes-total xs ys (sym (first-same x y xs ys same) ∙ h)) (cases_lt y x))
    (cases_lt x y)

-- two lists that stand before each other are one
pub precedes-both : (xs ys : List ℕ) → precedes xs ys ≡ true → precedes ys xs ≡ true → xs ≡ ys
precedes-both [] [] h k = refl
precedes-both [] (y ∷ ys) h k = absurd (cc k)
precedes-both (x ∷ xs) [] h k = absurd (cc h)
precedes-both (x ∷ xs) (y ∷ ys) h k = ⊎_elim
    (λ lt. absurd (both_ways (precedes (y ∷ ys) (x ∷ xs)) (first-higher y x ys xs lt) k))
    (λ ge. ⊎_elim
    (λ lt. absurd (both_ways (precedes (x ∷ xs) (y ∷ ys)) (first-higher x y xs ys lt) h))
    (λ le. let same : x ≡ y = omega (arith, ge, le) in λ i. same i ∷ precedes-both xs ys (sym (first-same x y xs ys same) ∙ h) (sym (first-same y x ys xs (sym same)) ∙ k) i)
    (cases_lt y x))
    (cases_lt x y)

-- what stands before a list that stands before a third stands before the third
pub precedes-through : (xs ys zs : List ℕ) → precedes xs ys ≡ true → precedes ys zs ≡ true → precedes xs zs ≡ true
precedes-through [] ys zs h k = refl
precedes-through (x ∷ xs) [] zs h k = absurd (cc h)
precedes-through (x ∷ xs) (y ∷ ys) [] h k = absurd (cc k)
precedes-through (x ∷ xs) (y ∷ ys) (z ∷ zs) h k = ⊎_elim
    (λ (lt : x < y). ⊎_elim
    (λ (l : z < y). absurd (both_ways (precedes (y ∷ ys) (z ∷ zs)) (first-higher y z ys zs l) k))
    (λ (g : y ≤ z). first-lower x z xs zs (omega (arith, lt, g)))
    (cases_lt z y))
    (λ (ge : y ≤ x). ⊎_elim
    (λ (l : y < x). absurd (both_ways (precedes (x ∷ xs) (y ∷ ys)) (first-higher x y xs ys l) h))
    (λ (le : x ≤ y).
    let same : x ≡ y = omega (arith, ge, le) in
    ⊎_elim
    (λ (l : y < z). first-lower x z xs zs (omega (arith, same, l)))
    (λ (g : z ≤ y). ⊎_elim
    (λ (l : z < y). absurd (both_ways (precedes (y ∷ ys) (z ∷ zs)) (first-higher y z ys zs l) k))
    (λ (m : y ≤ z).
    let also : y ≡ z = omega (arith, g, m) in
    first-same x z xs zs (same ∙ also) ∙ precedes-through xs ys zs (sym (first-same x y xs ys same) ∙ h) (sym (first-same y z ys zs also) ∙ k))
    (cases_lt z y))
    (cases_lt y z))
    (cases_lt y x))
    (cases_lt x y)

-- ---- points in order

-- a point stands before another one of its dimension, and is not it
abbrev pub Before : Point → Point → Type 0
Before p q = precedes q.vertices p.vertices ≡ false

-- where one stands before the other, the other does not
before-once : (p q : Point) → Before p q → Before q p → ⊥
before-once p q h k = both_ways (precedes p.vertices q.vertices) k (precedes-total q.vertices p.vertices h)

-- different points of one dimension that are in order stand before one another
before-from : (p q : Point) → p.dim ≡ q.dim → same_point p q ≡ false → precedes p.vertices q.vertices ≡ true → Before p q
before-from p q same other h = go (precedes q.vertices p.vertices) refl
  where
    go : (b : Bool) → precedes q.vertices p.vertices ≡ b → Before p q
    go true e =
        let vertices = precedes-both p.vertices q.vertices h e in
        let equal : p ≡ q = λ i. record { dim = same i; vertices = vertices i } in
        absurd (both_ways (same_point p q) other (ap (same_point p) (sym equal) ∙ same_point-self p))
    go false e = e

before-through : (p q r : Point) → Before p q → Before q r → Before p r
before-through p q r h k = go (precedes r.vertices p.vertices) refl
  where
    go : (b : Bool) → precedes r.vertices p.vertices ≡ b → Before p r
    go true e = absurd (both_ways (precedes q.vertices p.vertices) h (precedes-through q.vertices r.vertices p.vertices (precedes-total r.vertices q.vertices k) e))
    go false e = e

-- ---- sorting

-- no two of these are one point
abbrev pub Differ : List Point → Type 0
Differ [] = Unit {0}
Differ (p ∷ ps) = AllByRecursion (λ q. same_point p q ≡ false) ps × Differ ps

-- what all points in order have
put-all : (P : Point → Type 0) (p : Point) (qs : List Point) → P p → AllByRecursion P qs → AllByRecursion P (put_in_order p qs)
put-all P p [] f h = (f, tt)
put-all P p (q ∷ qs) f h = go (precedes p.vertices q.vertices) (put-all P p qs f h.1)
  where
    go : (b : Bool) → AllByRecursion P (put_in_order p qs) → AllByRecursion P (cond b (p ∷ q ∷ qs) (q ∷ put_in_order p qs))
    go true r = (f, h)
    go false r = (h.0, r)

pub sorted-all : (P : Point → Type 0) (ps : List Point) → AllByRecursion P ps → AllByRecursion P (by_vertices ps)
unfolding by_vertices
sorted-all P [] h = tt
sorted-all P (p ∷ ps) h = put-all P p (by_vertices ps) h.0 (sorted-all P ps h.1)

-- sorting keeps the points
put-any : (f : Point → Bool) (p : Point) (qs : List Point) → list_any f (put_in_order p qs) ≡ (f p || list_any f qs)
put-any f p [] = refl
put-any f p (q ∷ qs) = go (precedes p.vertices q.vertices) (put-any f p qs)
  where
    turned : (a b c : Bool) → (b || (a || c)) ≡ (a || (b || c))
    turned true true c = refl
    turned true false c = refl
    turned false b c = refl

    go : (b : Bool) → list_any f (put_in_order p qs) ≡ (f p || list_any f qs) → list_any f (cond b (p ∷ q ∷ qs) (q ∷ put_in_order p qs)) ≡ (f p || (f q || list_any f qs))
    go true r = refl
    go false r = ap (λ b. f q || b) r ∙ turned (f p) (f q) (list_any f qs)

pub sorted-any : (f : Point → Bool) (ps : List Point) → list_any f (by_vertices ps) ≡ list_any f ps
unfolding by_vertices
sorted-any f [] = refl
sorted-any f (p ∷ ps) = put-any f p (by_vertices ps) ∙ ap (λ b. f p || b) (sorted-any f ps)

-- a point put at its place
put-ordered : (p : Point) (qs : List Point) → AllByRecursion (λ (q : Point). p.dim ≡ q.dim) qs → AllByRecursion (λ q. same_point p q ≡ false) qs → Ordered Before qs → Ordered Before (put_in_order p qs)
put-ordered p [] dims other h = (tt, tt)
put-ordered p (q ∷ qs) dims other h = go (precedes p.vertices q.vertices) refl (put-ordered p qs dims.1 other.1 h.1)
  where
    go : (b : Bool) → precedes p.vertices q.vertices ≡ b → Ordered Before (put_in_order p qs) → Ordered Before (cond b (p ∷ q ∷ qs) (q ∷ put_in_order p qs))
    go true e r =
        let first = before-from p q dims.0 other.0 e in
        ((first, all_weaker (Before q) (Before p) (λ t k. before-through p q t first k) qs h.0), h)
    go false e r = (put-all (Before q) p qs e h.0, r)

-- sorted points of one dimension that differ are in order
pub sorted-ordered : (d : ℕ) (ps : List Point) → AllByRecursion (λ (p : Point). p.dim ≡ d) ps → Differ ps → Ordered Before (by_vertices ps)
unfolding by_vertices
sorted-ordered d [] dims differ = tt
sorted-ordered d (p ∷ ps) dims differ = put-ordered p (by_vertices ps)
    (sorted-all (λ (q : Point). p.dim ≡ q.dim) ps (all_weaker (λ (q : Point). q.dim ≡ d) (λ (q : Point). p.dim ≡ q.dim) (λ q e. dims.0 ∙ sym e) ps dims.1))
    (sorted-all (λ q. same_point p q ≡ false) ps differ.0) (sorted-ordered d ps dims.1 differ.1)

-- whatever list in order has the same points is the sorted one
pub sorted-one : (d : ℕ) (ps qs : List Point) → AllByRecursion (λ (p : Point). p.dim ≡ d) ps → Differ ps → StandInOrder qs → ((p : Point) → list_any (same_point p) qs ≡ list_any (same_point p) ps) → qs ≡ by_vertices ps
sorted-one d ps qs dims differ order same =
    ordered-one Before before-once (λ p. p) same_point same_point-self (λ p q e. same_point-true p q e) (λ p. Unit {0}) (λ p q a b e. e) qs (by_vertices ps)
    (all_from (λ p. Unit {0}) (λ p. tt) qs) (all_from (λ p. Unit {0}) (λ p. tt) (by_vertices ps))
    order (sorted-ordered d ps dims differ) (λ p. same p ∙ sym (sorted-any (same_point p) ps))
