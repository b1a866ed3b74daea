-- What passes a test at most once in a list: as often as something passes at all.
use Rattle.std.proofs.Common.{◌≡◌, ℕ, ◌+◌, ◌<◌, Bool, true, false, cond, not, ◌||◌, ◌==◌, List, [], ◌∷◌, ◌++◌, map, length, get_or, zero, suc, refl, sym, ap, ap₂, ◌∙◌, subst, arith}
use Rattle.std.specs.Prelude.{count_by}
use Rattle.std.specs.List.{list_any, AllByRecursion}
use Rattle.std.proofs.lemmas.Bool.{and_parts, not-true, eqb-true, eq-eqb}
use Rattle.std.proofs.lemmas.List.Sums.{sum_by-cons}
use Rattle.std.proofs.lemmas.List.Folds.{list_any-append}
use Rattle.plain_lists.proofs.Filters.{count-append, count_nothing}
use Rattle.plain_lists.proofs.Finding.{same_tests, each_fails, stands}
use Rattle.plain_lists.proofs.Each.{all_at}
use Rattle.mesh_defs.specs.Points.{Point, Sight, point_of, shows}
use Rattle.mesh_defs.specs.Sights.{points_differ}
use Rattle.mesh_defs.specs.Diagram.{place_in}
use Rattle.mesh_laws.proofs.Firsts.{shows-true, shows-own}
use Rattle.rank_laws.specs.cell_laws.Cells.{once, Once}

-- a count over one more element
pub count-cons : {X : Type 0} (p : X → Bool) (x : X) (xs : List X) → count_by p (x ∷ xs) ≡ once (p x) + count_by p xs
count-cons p x xs = sum_by-cons (λ y. cond (p y) 1 0) x xs

-- a count over images
pub count-map : {X Y : Type 0} (p : Y → Bool) (f : X → Y) (xs : List X) → count_by p (map f xs) ≡ count_by (λ x. p (f x)) xs
count-map p f [] = refl
count-map p f (x ∷ xs) = count-cons p (f x) (map f xs) ∙ ap (λ n. once (p (f x)) + n) (count-map p f xs) ∙ sym (count-cons (λ x. p (f x)) x xs)

-- counts of what tests agree on
pub count_agree : {X : Type 0} (p q : X → Bool) (xs : List X) → AllByRecursion (λ x. p x ≡ q x) xs → count_by p xs ≡ count_by q xs
count_agree p q [] h = refl
count_agree p q (x ∷ xs) h = count-cons p x xs ∙ ap₂ (λ b n. once b + n) h.0 (count_agree p q xs h.1) ∙ sym (count-cons q x xs)

-- two lists end to end, of which one has none
pub once-append : {X : Type 0} (p : X → Bool) (xs ys : List X) → Once p xs → Once p ys → (list_any p xs ≡ true → list_any p ys ≡ false) → Once p (xs ++ ys)
once-append p xs ys f g apart = count-append p xs ys ∙ ap₂ (λ a b. a + b) f g ∙ go (list_any p xs) (list_any p ys) apart ∙ ap once (sym (list_any-append p xs ys))
  where
    go : (a b : Bool) → (a ≡ true → b ≡ false) → once a + once b ≡ once (a || b)
    go true b h = ap (λ c. 1 + once c) (h refl)
    go false true h = refl
    go false false h = refl

-- no element passes
pub once-none : {X : Type 0} (p : X → Bool) (xs : List X) → list_any p xs ≡ false → Once p xs
once-none p xs h = count_nothing p xs (each_fails p xs h) ∙ ap once (sym h)

-- a point is shown at most once by sights of different points
pub once-differ : (p : Point) (ss : List Sight) → points_differ ss ≡ true → Once (shows p) ss
once-differ p [] h = refl
once-differ p (s ∷ ss) h = count-cons (shows p) s ss ∙ go (shows p s) refl (once-differ p ss both.1)
  where
    both : (not (list_any (shows (point_of s)) ss) ≡ true) × (points_differ ss ≡ true)
    both = and_parts (not (list_any (shows (point_of s)) ss)) (points_differ ss) h

    go : (b : Bool) → shows p s ≡ b → Once (shows p) ss → once b + count_by (shows p) ss ≡ once (b || list_any (shows p) ss)
    go true e r = ap (λ n. 1 + n) (count_nothing (shows p) ss (each_fails (shows p) ss (subst (λ q. list_any (shows q) ss ≡ false) (sym (shows-true p s e)) (not-true _ both.0))))
    go false e r = omega arith

-- ---- places among sights of different points

-- a point that is shown stands at the one place where it is shown
pub place-is : (p : Point) (ss : List Sight) (d : Sight) → points_differ ss ≡ true → (k : ℕ) → k < length ss → shows p (get_or ss k d) ≡ true → place_in ss p ≡ k
place-is p [] d h k low e = absurd (omega arith)
place-is p (s ∷ ss) d h zero low e = rw e refl
place-is p (s ∷ ss) d h (suc k) low e = go (shows p s) refl (place-is p ss d both.1 k (omega arith) e)
  where
    both : (not (list_any (shows (point_of s)) ss) ≡ true) × (points_differ ss ≡ true)
    both = and_parts (not (list_any (shows (point_of s)) ss)) (points_differ ss) h

    later : list_any (shows p) ss ≡ true
    later = all_at (λ t. (q : Sight → Bool) → q t ≡ true → list_any q ss ≡ true) ss k d (stands ss) (omega arith) (shows p) e

    go : (b : Bool) → shows p s ≡ b → place_in ss p ≡ k → cond (not b) (1 + place_in ss p) 0 ≡ suc k
    go true f r = absurd (cc (sym later ∙ subst (λ q. list_any (shows q) ss ≡ false) (sym (shows-true p s f)) (not-true _ both.0)))
    go false f r = omega arith

-- it is shown at the place where it stands
pub shown-there : (p : Point) (ss : List Sight) (d : Sight) → list_any (shows p) ss ≡ true → shows p (get_or ss (place_in ss p) d) ≡ true
shown-there p [] d h = absurd (cc h)
shown-there p (s ∷ ss) d h = go (shows p s) refl h (shown-there p ss d)
  where
    go : (b : Bool) → shows p s ≡ b → (b || list_any (shows p) ss) ≡ true → (list_any (shows p) ss ≡ true → shows p (get_or ss (place_in ss p) d) ≡ true) → shows p (get_or (s ∷ ss) (cond (not b) (1 + place_in ss p) 0) d) ≡ true
    go true e f r = e
    go false e f r = let there = r f in let step : 1 + place_in ss p ≡ suc (place_in ss p) = omega arith in subst (λ n. shows p (get_or (s ∷ ss) n d) ≡ true) (sym step) there

-- so a sight stands at a place just where the point at the place is what it shows
pub place-tells : (ss : List Sight) (d s : Sight) (k : ℕ) → points_differ ss ≡ true → list_any (shows (point_of s)) ss ≡ true → k < length ss → (place_in ss (point_of s) == k) ≡ shows (point_of (get_or ss k d)) s
place-tells ss d s k differ there low = same_tests (place_in ss (point_of s) == k) (shows (point_of (get_or ss k d)) s)
    (λ e. subst (λ q. shows q s ≡ true) (shows-true (point_of s) (get_or ss k d) (subst (λ n. shows (point_of s) (get_or ss n d) ≡ true) (eqb-true _ _ e) (shown-there (point_of s) ss d there))) (shows-own s))
    (λ e. eq-eqb _ _ (place-is (point_of s) ss d differ k low (subst (λ q. shows q (get_or ss k d) ≡ true) (shows-true (point_of (get_or ss k d)) s e) (shows-own (get_or ss k d)))))
