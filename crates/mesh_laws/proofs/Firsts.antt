-- Points that are the same, and the first sights of points.
use Rattle.std.proofs.Common.{◌≡◌, ◌≤◌, Bool, true, false, cond, List, [], ◌∷◌, ◌++◌, length, Some, refl, sym, ap, ◌∙◌, subst, arith, append-nil}
use Rattle.std.specs.Prelude.{◌||◌, ◌==◌, not, find, if◌then◌else◌}
use Rattle.std.specs.List.{list_any, AllByRecursion}
use Rattle.std.specs.Cmp.Lexicographic.{same_text}
use Rattle.std.proofs.lemmas.Bool.{and_parts, eqb-true, eq-eqb, both_ways, cond-true, cond-false, not-true, or_right, or_from}
use Rattle.plain_lists.specs.Lists.{same_list}
use Rattle.plain_lists.proofs.Each.{all_both, all_weaker, all_from}
use Rattle.plain_lists.proofs.Finding.{each_fails, same_tests}
use Rattle.plain_lists.proofs.Sorted.{same_list-self}
use Rattle.mesh_defs.specs.Points.{Point, Sight, same_point, point_of, shows}
use Rattle.mesh_defs.specs.Diagram.{firsts_after, firsts}
use Rattle.mesh_defs.specs.Sights.{points_differ}

-- ---- the same point

-- points that pass the test are equal
pub same_point-true : (p q : Point) → same_point p q ≡ true → p ≡ q
same_point-true p q h =
    let both = and_parts (p.dim == q.dim) (same_list p.vertices q.vertices) h in
    let d : p.dim ≡ q.dim = eqb-true p.dim q.dim both.0 in
    let v : p.vertices ≡ q.vertices = same_text p.vertices q.vertices (sym both.1) in
    λ i. record { dim = d i; vertices = v i }

-- a point is the same as itself
pub same_point-self : (p : Point) → same_point p p ≡ true
same_point-self p = rw (eq-eqb p.dim p.dim refl, same_list-self p.vertices)

-- a sight shows its own point
pub shows-own : (s : Sight) → shows (point_of s) s ≡ true
shows-own s = same_point-self (point_of s)

-- the test of points is symmetric
pub same_point-sym : (p q : Point) → same_point p q ≡ same_point q p
same_point-sym p q =
    let turn : (a b : Point) → same_point a b ≡ true → same_point b a ≡ true =
    λ a b h. subst (λ (c : Point). same_point c a ≡ true) (same_point-true a b h) (same_point-self a) in
    same_tests (same_point p q) (same_point q p) (turn p q) (turn q p)

-- the point that a sight shows is its own
pub shows-true : (p : Point) (s : Sight) → shows p s ≡ true → p ≡ point_of s
shows-true p s h = same_point-true p (point_of s) h

-- ---- first sights

-- a test that implies an earlier one adds nothing
absorbed : (e a b c : Bool) → (a ≡ true → e ≡ true) → (e || b) ≡ (e || c) → (e || b) ≡ (e || (a || c))
absorbed true a b c f h = refl
absorbed false true b c f h = absurd (cc (f refl))
absorbed false false b c f h = h

-- equal tests under another order
regrouped : (e a b c : Bool) → ((a || e) || b) ≡ ((a || e) || c) → (e || (a || b)) ≡ (e || (a || c))
regrouped true a b c h = refl
regrouped false true b c h = refl
regrouped false false b c h = h

-- three tests in another order
exchanged : (e a c : Bool) → ((a || e) || c) ≡ (e || (a || c))
exchanged true true c = refl
exchanged true false c = refl
exchanged false true c = refl
exchanged false false c = refl

-- a test that fails adds nothing
or-false : (e : Bool) → (e || false) ≡ e
or-false true = refl
or-false false = refl

-- where sights show the point of a sight, they show each point that it shows
shown_too : (p : Point) (x : Sight) (earlier : List Sight) → list_any (shows (point_of x)) earlier ≡ true → shows p x ≡ true → list_any (shows p) earlier ≡ true
shown_too p x earlier h s = ap (λ q. list_any (shows q) earlier) (shows-true p x s) ∙ h

-- the first sights of a list show what the list shows
firsts_after-shown : (p : Point) (earlier ss : List Sight) → (list_any (shows p) earlier || list_any (shows p) (firsts_after earlier ss)) ≡ (list_any (shows p) earlier || list_any (shows p) ss)
firsts_after-shown p earlier [] = refl
firsts_after-shown p earlier (x ∷ xs) = go (list_any (shows (point_of x)) earlier) refl (firsts_after-shown p earlier xs) (firsts_after-shown p (x ∷ earlier) xs)
  where
    go : (b : Bool) → list_any (shows (point_of x)) earlier ≡ b
        → (list_any (shows p) earlier || list_any (shows p) (firsts_after earlier xs)) ≡ (list_any (shows p) earlier || list_any (shows p) xs)
        → (list_any (shows p) (x ∷ earlier) || list_any (shows p) (firsts_after (x ∷ earlier) xs)) ≡ (list_any (shows p) (x ∷ earlier) || list_any (shows p) xs)
        → (list_any (shows p) earlier || list_any (shows p) (cond b (firsts_after earlier xs) (x ∷ firsts_after (x ∷ earlier) xs))) ≡ (list_any (shows p) earlier || list_any (shows p) (x ∷ xs))
    go true e r s = absorbed (list_any (shows p) earlier) (shows p x) _ _ (shown_too p x earlier e) r
    go false e r s = regrouped (list_any (shows p) earlier) (shows p x) _ _ s

-- first sights show the points that all sights show
pub list_any-firsts : (p : Point) (ss : List Sight) → list_any (shows p) (firsts ss) ≡ list_any (shows p) ss
list_any-firsts p ss = firsts_after-shown p [] ss

-- the first sight of a point stays the first
firsts_after-find : (p : Point) (earlier ss : List Sight) → list_any (shows p) earlier ≡ false → find (shows p) (firsts_after earlier ss) ≡ find (shows p) ss
firsts_after-find p earlier [] none = refl
firsts_after-find p earlier (x ∷ xs) none = go (list_any (shows (point_of x)) earlier) refl (shows p x) refl (firsts_after-find p earlier xs none) (firsts_after-find p (x ∷ earlier) xs)
  where
    go : (b : Bool) → list_any (shows (point_of x)) earlier ≡ b → (c : Bool) → shows p x ≡ c
        → find (shows p) (firsts_after earlier xs) ≡ find (shows p) xs
        → (list_any (shows p) (x ∷ earlier) ≡ false → find (shows p) (firsts_after (x ∷ earlier) xs) ≡ find (shows p) xs)
        → find (shows p) (cond b (firsts_after earlier xs) (x ∷ firsts_after (x ∷ earlier) xs)) ≡ cond c (Some x) (find (shows p) xs)
    go true e true f r s = absurd (both_ways _ none (shown_too p x earlier e f))
    go true e false f r s = r
    go false e true f r s = cond-true _ _ _ f
    go false e false f r s = cond-false _ _ _ f ∙ s (ap (λ t. t || list_any (shows p) earlier) f ∙ none)

-- the first sight of a point is the same among all sights and among first ones
pub find-firsts : (p : Point) (ss : List Sight) → find (shows p) (firsts ss) ≡ find (shows p) ss
find-firsts p ss = firsts_after-find p [] ss refl

-- one more sight
firsts_after-push : (earlier ss : List Sight) (s : Sight) → firsts_after earlier (ss ++ s ∷ []) ≡ firsts_after earlier ss ++ cond (list_any (shows (point_of s)) earlier || list_any (shows (point_of s)) ss) [] (s ∷ [])
firsts_after-push earlier [] s = ap (λ t. cond t [] (s ∷ [])) (sym (or-false (list_any (shows (point_of s)) earlier)))
firsts_after-push earlier (x ∷ xs) s = go (list_any (shows (point_of x)) earlier) refl (firsts_after-push earlier xs s) (firsts_after-push (x ∷ earlier) xs s)
  where
    go : (b : Bool) → list_any (shows (point_of x)) earlier ≡ b
        → firsts_after earlier (xs ++ s ∷ []) ≡ firsts_after earlier xs ++ cond (list_any (shows (point_of s)) earlier || list_any (shows (point_of s)) xs) [] (s ∷ [])
        → firsts_after (x ∷ earlier) (xs ++ s ∷ []) ≡ firsts_after (x ∷ earlier) xs ++ cond (list_any (shows (point_of s)) (x ∷ earlier) || list_any (shows (point_of s)) xs) [] (s ∷ [])
        → cond b (firsts_after earlier (xs ++ s ∷ [])) (x ∷ firsts_after (x ∷ earlier) (xs ++ s ∷ []))
        ≡ cond b (firsts_after earlier xs) (x ∷ firsts_after (x ∷ earlier) xs) ++ cond (list_any (shows (point_of s)) earlier || list_any (shows (point_of s)) (x ∷ xs)) [] (s ∷ [])
    go true e r t = r ∙ ap (λ c. firsts_after earlier xs ++ cond c [] (s ∷ [])) (absorbed (list_any (shows (point_of s)) earlier) (shows (point_of s) x) _ _ (shown_too (point_of s) x earlier e) refl)
    go false e r t = ap (λ l. x ∷ l) (t ∙ ap (λ c. firsts_after (x ∷ earlier) xs ++ cond c [] (s ∷ [])) (exchanged (list_any (shows (point_of s)) earlier) (shows (point_of s) x) _))

-- nothing is joined, or a list
either_end : (b : Bool) (xs ys : List Sight) → xs ++ cond b [] ys ≡ cond b xs (xs ++ ys)
either_end true xs ys = append-nil xs
either_end false xs ys = refl

-- one more sight is first where no first sight shows its point
pub firsts-push : (ss : List Sight) (s : Sight) → firsts (ss ++ s ∷ []) ≡ (if list_any (shows (point_of s)) (firsts ss) then firsts ss else firsts ss ++ s ∷ [])
firsts-push ss s =
    firsts_after-push [] ss s ∙ either_end (list_any (shows (point_of s)) ss) (firsts ss) (s ∷ [])
    ∙ ap (λ b. cond b (firsts ss) (firsts ss ++ s ∷ [])) (sym (list_any-firsts (point_of s) ss))

-- each sight of a list is shown by the list
pub shown_itself : (ss : List Sight) → AllByRecursion (λ s. list_any (shows (point_of s)) ss ≡ true) ss
shown_itself [] = tt
shown_itself (x ∷ xs) = (
  ap (λ t. t || list_any (shows (point_of x)) xs) (shows-own x),
  all_weaker (λ s. list_any (shows (point_of s)) xs ≡ true) (λ s. list_any (shows (point_of s)) (x ∷ xs) ≡ true) (λ s h. or_right _ _ h) xs (shown_itself xs),
)

-- each sight is shown by the first sights
pub shown_among_firsts : (ss : List Sight) → AllByRecursion (λ s. list_any (shows (point_of s)) (firsts ss) ≡ true) ss
shown_among_firsts ss = all_weaker _ _ (λ s h. list_any-firsts (point_of s) ss ∙ h) ss (shown_itself ss)

-- the first sights of a beginning are a beginning
firsts_after-prefix : (earlier xs ys : List Sight) → (more : List Sight) × (firsts_after earlier (xs ++ ys) ≡ firsts_after earlier xs ++ more)
firsts_after-prefix earlier [] ys = (firsts_after earlier ys, refl)
firsts_after-prefix earlier (x ∷ xs) ys = go (list_any (shows (point_of x)) earlier) (firsts_after-prefix earlier xs ys) (firsts_after-prefix (x ∷ earlier) xs ys)
  where
    go : (b : Bool) → (more : List Sight) × (firsts_after earlier (xs ++ ys) ≡ firsts_after earlier xs ++ more)
        → (more : List Sight) × (firsts_after (x ∷ earlier) (xs ++ ys) ≡ firsts_after (x ∷ earlier) xs ++ more)
        → (more : List Sight) × (cond b (firsts_after earlier (xs ++ ys)) (x ∷ firsts_after (x ∷ earlier) (xs ++ ys)) ≡ cond b (firsts_after earlier xs) (x ∷ firsts_after (x ∷ earlier) xs) ++ more)
    go true r s = r
    go false r s = (s.0, ap (λ l. x ∷ l) s.1)

-- first sights of a beginning are a beginning of the first sights
pub firsts-prefix : (xs ys : List Sight) → (more : List Sight) × (firsts (xs ++ ys) ≡ firsts xs ++ more)
firsts-prefix xs ys = firsts_after-prefix [] xs ys

-- what all sights have, the first ones have
firsts_after-all : (P : Sight → Type 0) (earlier ss : List Sight) → AllByRecursion P ss → AllByRecursion P (firsts_after earlier ss)
firsts_after-all P earlier [] h = tt
firsts_after-all P earlier (x ∷ xs) h = go (list_any (shows (point_of x)) earlier) (firsts_after-all P earlier xs h.1) (firsts_after-all P (x ∷ earlier) xs h.1)
  where
    go : (b : Bool) → AllByRecursion P (firsts_after earlier xs) → AllByRecursion P (firsts_after (x ∷ earlier) xs) → AllByRecursion P (cond b (firsts_after earlier xs) (x ∷ firsts_after (x ∷ earlier) xs))
    go true r s = r
    go false r s = (h.0, s)

-- first sights have what all sights have
pub firsts-all : (P : Sight → Type 0) (ss : List Sight) → AllByRecursion P ss → AllByRecursion P (firsts ss)
firsts-all P ss h = firsts_after-all P [] ss h

-- there are no more first sights than sights
firsts_after-length : (earlier ss : List Sight) → length (firsts_after earlier ss) ≤ length ss
firsts_after-length earlier [] = omega arith
firsts_after-length earlier (x ∷ xs) = go (list_any (shows (point_of x)) earlier) (firsts_after-length earlier xs) (firsts_after-length (x ∷ earlier) xs)
  where
    go : (b : Bool) → length (firsts_after earlier xs) ≤ length xs → length (firsts_after (x ∷ earlier) xs) ≤ length xs → length (cond b (firsts_after earlier xs) (x ∷ firsts_after (x ∷ earlier) xs)) ≤ length (x ∷ xs)
    go true r s = omega arith
    go false r s = omega arith

-- there are no more first sights than sights
pub firsts-length : (ss : List Sight) → length (firsts ss) ≤ length ss
firsts-length ss = firsts_after-length [] ss

-- where no two sights show one point, all are first
firsts_after-fresh : (earlier ss : List Sight) → points_differ ss ≡ true → AllByRecursion (λ s. list_any (shows (point_of s)) earlier ≡ false) ss → firsts_after earlier ss ≡ ss
firsts_after-fresh earlier [] d h = refl
firsts_after-fresh earlier (x ∷ xs) d h =
    let both = and_parts (not (list_any (shows (point_of x)) xs)) (points_differ xs) d in
    let apart = each_fails (shows (point_of x)) xs (not-true _ both.0) in
    let next : AllByRecursion (λ s. list_any (shows (point_of s)) (x ∷ earlier) ≡ false) xs =
    all_both (λ s. shows (point_of x) s ≡ false) (λ s. list_any (shows (point_of s)) earlier ≡ false) (λ s. list_any (shows (point_of s)) (x ∷ earlier) ≡ false)
    (λ s a b. or_from _ _ (same_point-sym (point_of s) (point_of x) ∙ a) b) xs apart h.1 in
    cond-false _ _ _ h.0 ∙ ap (λ l. x ∷ l) (firsts_after-fresh (x ∷ earlier) xs both.1 next)

-- where no two sights show one point, all are first
pub firsts-fresh : (ss : List Sight) → points_differ ss ≡ true → firsts ss ≡ ss
firsts-fresh ss d = firsts_after-fresh [] ss d (all_from (λ s. list_any (shows (point_of s)) [] ≡ false) (λ s. refl) ss)
