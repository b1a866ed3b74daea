-- Places among sights of different points, and leaves by their places.
use Rattle.std.proofs.Common.{◌≡◌, ℕ, zero, suc, ◌+◌, ◌<◌, ◌≤◌, Bool, true, false, cond, not, ◌||◌, ◌==◌, List, [], ◌∷◌, map, length, get_or, sum_by, Option, Some, None, refl, sym, ap, ◌∙◌, subst, arith}
use Rattle.std.specs.Prelude.{filter, find}
use Rattle.std.specs.List.{list_any, AllByRecursion, enumerate_from}
use Rattle.std.proofs.lemmas.Bool.{and_parts, not-true, eq-eqb, ne_eqb, cond-true, cond-false}
use Rattle.std.proofs.lemmas.List.Sums.{sum_by-cons}
use Rattle.plain_lists.proofs.Finding.{each_fails, find-none, none_passes, stands}
use Rattle.plain_lists.proofs.Each.{all_at, all_filter, all_map, all_weaker}
use Rattle.mesh_defs.specs.Points.{Point, Sight, point_of, shows}
use Rattle.mesh_defs.specs.Sights.{points_differ}
use Rattle.mesh_defs.specs.Diagram.{place_in}
use Rattle.mesh_laws.proofs.Firsts.{shows-true}
use Rattle.sf_defs.specs.declared.Leaf.{Leaf}
use Rattle.sf_defs.specs.Forest.{leaf}
use Rattle.rank_chart_laws.proofs.field_laws.Sums.{sum-zeros}

-- a point that is shown stands at the one place where it is shown
pub place-is : (p : Point) (ss : List Sight) (d : Sight) → points_differ ss ≡ true → (k : ℕ) → k < length ss → shows p (get_or ss k d) ≡ true → place_in ss p ≡ k
place-is p [] d h k low e = absurd (omega arith)
place-is p (s ∷ ss) d h zero low e = rw e refl
place-is p (s ∷ ss) d h (suc k) low e = go (shows p s) refl (place-is p ss d both.1 k (omega arith) e)
  where
    both : (not (list_any (shows (point_of s)) ss) ≡ true) × (points_differ ss ≡ true)
    both = and_parts (not (list_any (shows (point_of s)) ss)) (points_differ ss) h

    later : list_any (shows p) ss ≡ true
    later = all_at (λ t. (q : Sight → Bool) → q t ≡ true → list_any q ss ≡ true) ss k d (stands ss) (omega arith) (shows p) e

    go : (b : Bool) → shows p s ≡ b → place_in ss p ≡ k → cond (not b) (1 + place_in ss p) 0 ≡ suc k
    go true f r = absurd (cc (sym later ∙ subst (λ q. list_any (shows q) ss ≡ false) (sym (shows-true p s f)) (not-true _ both.0)))
    go false f r = omega arith

-- it is shown at the place where it stands
pub shown-there : (p : Point) (ss : List Sight) (d : Sight) → list_any (shows p) ss ≡ true → (place_in ss p < length ss) × (shows p (get_or ss (place_in ss p) d) ≡ true)
shown-there p [] d h = absurd (cc h)
shown-there p (s ∷ ss) d h = go (shows p s) refl h (shown-there p ss d)
  where
    go : (b : Bool) → shows p s ≡ b → (b || list_any (shows p) ss) ≡ true → (list_any (shows p) ss ≡ true → (place_in ss p < length ss) × (shows p (get_or ss (place_in ss p) d) ≡ true)) → (cond (not b) (1 + place_in ss p) 0 < length (s ∷ ss)) × (shows p (get_or (s ∷ ss) (cond (not b) (1 + place_in ss p) 0) d) ≡ true)
    go true e f r = (omega arith, e)
    go false e f r = let there = r f in let step : 1 + place_in ss p ≡ suc (place_in ss p) = omega arith in (let low = there.0 in omega arith, subst (λ n. shows p (get_or (s ∷ ss) n d) ≡ true) (sym step) there.1)

-- a number for the sight that shows a point, added up
pub shown-sum : (p : Point) (ss : List Sight) → points_differ ss ≡ true → (x : ℕ) → (list_any (shows p) ss ≡ false → x ≡ 0) → sum_by (λ s. cond (shows p s) x 0) ss ≡ x
shown-sum p [] h x none = sym (none refl)
shown-sum p (s ∷ ss) h x none = sum_by-cons (λ t. cond (shows p t) x 0) s ss ∙ go (shows p s) refl none (shown-sum p ss both.1 x)
  where
    both : (not (list_any (shows (point_of s)) ss) ≡ true) × (points_differ ss ≡ true)
    both = and_parts (not (list_any (shows (point_of s)) ss)) (points_differ ss) h

    others : shows p s ≡ true → AllByRecursion (λ t. cond (shows p t) x 0 ≡ 0) ss
    others e = all_weaker (λ t. shows p t ≡ false) (λ t. cond (shows p t) x 0 ≡ 0) (λ t f. ap (λ b. cond b x 0) f) ss (each_fails (shows p) ss (subst (λ q. list_any (shows q) ss ≡ false) (sym (shows-true p s e)) (not-true _ both.0)))

    go : (b : Bool) → shows p s ≡ b → ((b || list_any (shows p) ss) ≡ false → x ≡ 0) → ((list_any (shows p) ss ≡ false → x ≡ 0) → sum_by (λ t. cond (shows p t) x 0) ss ≡ x) → cond b x 0 + sum_by (λ t. cond (shows p t) x 0) ss ≡ x
    go true e none r = let rest = sum-zeros (λ t. cond (shows p t) x 0) ss (others e) in omega arith
    go false e none r = let rest = r none in omega arith

-- enumerated things have numbers from n on
numbers-from : {X : Type 0} (n : ℕ) (xs : List X) → AllByRecursion (λ (x : ℕ × X). n ≤ x.0) (enumerate_from n xs)
numbers-from n [] = tt
numbers-from n (x ∷ xs) = (omega arith, all_weaker (λ (y : ℕ × _). n + 1 ≤ y.0) (λ (y : ℕ × _). n ≤ y.0) (λ y h. omega arith) (enumerate_from (n + 1) xs) (numbers-from (n + 1) xs))

-- a list of chosen elements as leaves has the leaf of each of them at its place, and no other
pub leaf-at : {X : Type 0} (test : X → Bool) (root : X → ℕ × ℕ) (base : ℕ) (xs : List X) (p : ℕ) (d : X) → p < length xs
    → find (λ (l : Leaf). l.local == base + p) (map (λ (x : ℕ × X). leaf x.0 (root x.1)) (filter (λ (x : ℕ × X). test x.1) (enumerate_from base xs))) ≡ cond (test (get_or xs p d)) (Some (leaf (base + p) (root (get_or xs p d)))) None
leaf-at test root base [] p d lt = absurd (omega (arith, lt))
leaf-at {X = X} test root base (x ∷ xs) zero d lt = go (test x)
  where
    rest : List (ℕ × X)
    rest = filter (λ (y : ℕ × X). test y.1) (enumerate_from (base + 1) xs)

    later : AllByRecursion (λ (l : Leaf). (l.local == base + 0) ≡ false) (map (λ (y : ℕ × X). leaf y.0 (root y.1)) rest)
    later = all_map (λ (l : Leaf). (l.local == base + 0) ≡ false) (λ (y : ℕ × X). leaf y.0 (root y.1)) rest
        (all_filter (λ (y : ℕ × X). (y.0 == base + 0) ≡ false) (λ (y : ℕ × X). test y.1) (enumerate_from (base + 1) xs)
        (all_weaker (λ (y : ℕ × X). base + 1 ≤ y.0) (λ (y : ℕ × X). (y.0 == base + 0) ≡ false) (λ y h. ne_eqb y.0 (base + 0) (λ e. absurd (omega arith))) (enumerate_from (base + 1) xs) (numbers-from (base + 1) xs)))

    here : base ≡ base + 0
    here = omega arith

    go : (b : Bool) → find (λ (l : Leaf). l.local == base + 0) (map (λ (y : ℕ × X). leaf y.0 (root y.1)) (cond b ((base, x) ∷ rest) rest)) ≡ cond b (Some (leaf (base + 0) (root x))) None
    go true = cond-true (base == base + 0) (Some (leaf base (root x))) (find (λ (l : Leaf). l.local == base + 0) (map (λ (y : ℕ × X). leaf y.0 (root y.1)) rest)) (eq-eqb base (base + 0) here) ∙ ap (λ j. Some (leaf j (root x))) here
    go false = find-none (λ (l : Leaf). l.local == base + 0) (map (λ (y : ℕ × X). leaf y.0 (root y.1)) rest) (none_passes (λ (l : Leaf). l.local == base + 0) (map (λ (y : ℕ × X). leaf y.0 (root y.1)) rest) later)
leaf-at {X = X} test root base (x ∷ xs) (suc p) d lt = go (test x) (leaf-at test root (base + 1) xs p d (omega (arith, lt)))
  where
    rest : List (ℕ × X)
    rest = filter (λ (y : ℕ × X). test y.1) (enumerate_from (base + 1) xs)

    same : base + 1 + p ≡ base + suc p
    same = omega arith

    answer : ℕ → Option Leaf
    answer j = cond (test (get_or xs p d)) (Some (leaf j (root (get_or xs p d)))) None

    moved : find (λ (l : Leaf). l.local == base + 1 + p) (map (λ (y : ℕ × X). leaf y.0 (root y.1)) rest) ≡ answer (base + 1 + p) → find (λ (l : Leaf). l.local == base + suc p) (map (λ (y : ℕ × X). leaf y.0 (root y.1)) rest) ≡ answer (base + suc p)
    moved h = coe 0 1 (i. find (λ (l : Leaf). l.local == same i) (map (λ (y : ℕ × X). leaf y.0 (root y.1)) rest) ≡ answer (same i)) h

    go : (b : Bool) → find (λ (l : Leaf). l.local == base + 1 + p) (map (λ (y : ℕ × X). leaf y.0 (root y.1)) rest) ≡ answer (base + 1 + p)
        → find (λ (l : Leaf). l.local == base + suc p) (map (λ (y : ℕ × X). leaf y.0 (root y.1)) (cond b ((base, x) ∷ rest) rest)) ≡ answer (base + suc p)
    go true h = cond-false (base == base + suc p) (Some (leaf base (root x))) (find (λ (l : Leaf). l.local == base + suc p) (map (λ (y : ℕ × X). leaf y.0 (root y.1)) rest)) (ne_eqb base (base + suc p) (λ e. absurd (omega (arith, e)))) ∙ moved h
    go false h = moved h
