-- Inverting a forest twice gives the same map.
use Rattle.std.proofs.Common.{◌≡◌, ℕ, zero, suc, ◌+◌, ◌<◌, ◌≤◌, Bool, true, false, cond, ◌==◌, nat_lt, List, [], ◌∷◌, ◌++◌, map, get_or, slice_index, sum_by, count_by, Option, Some, None, refl, sym, ap, ◌∙◌, subst, ⊎_elim, arith, zero-add}
use Rattle.std.specs.Prelude.{find, option_map, filter_map}
use Rattle.std.specs.List.{AllByRecursion, enumerate_from, cons_option}
use Rattle.std.proofs.lemmas.Bool.{eq-eqb, eqb-true, ne_eqb, ltb-true, ltb-false, lt-ltb, le-ltb, and_parts, cond-true, cond-false, cases_lt, both_ways}
use Rattle.std.proofs.lemmas.List.Elements.{filter_map-append}
use Rattle.std.proofs.lemmas.List.Sums.{sum_by-cons}
use Rattle.plain_lists.specs.Lists.{below}
use Rattle.plain_lists.proofs.Each.{all_both, all_in_flat_map, all_mapped}
use Rattle.plain_lists.proofs.Finding.{each_fails, find-passes, find-cases, find-has}
use Rattle.plain_lists.proofs.Below.{below-all, at-below}
use Rattle.plain_lists.proofs.Filters.{image-at}
use Rattle.mesh_laws.proofs.Containing.{eqb-sym}
use Rattle.sf_defs.specs.declared.Leaf.{Leaf}
use Rattle.sf_defs.specs.Forest.{Forest, leaf, root_at, leaves_on, roots_on, root_of, MeansSame, or_else, first_some, has_root, IsForest, is_on_root, degree, all_roots, shared_root, leaf_of, FitsLocals, invert}
use Rattle.rank_laws.proofs.Forests.{is_local, locals_differ, sound}

-- ---- leaves that are found by their local index

-- each leaf's root is what is looked up at its local index
abbrev pub Findable : List Leaf → List Leaf → Type 0
Findable all ls = AllByRecursion (λ (l : Leaf). option_map root_at (find (is_local l.local) all) ≡ Some (root_at l)) ls

-- leaves with different local indices are found
findable : (ls : List Leaf) → locals_differ ls → Findable ls ls
findable [] d = tt
findable (l ∷ ls) d = (
  ap (option_map root_at) (cond-true (l.local == l.local) (Some l) (find (is_local l.local) ls) (eq-eqb l.local l.local refl)),
  all_both (λ (x : Leaf). (x.local == l.local) ≡ false) (λ (x : Leaf). option_map root_at (find (is_local x.local) ls) ≡ Some (root_at x)) (λ (x : Leaf). option_map root_at (find (is_local x.local) (l ∷ ls)) ≡ Some (root_at x))
      (λ x e f. ap (option_map root_at) (cond-false (l.local == x.local) (Some l) (find (is_local x.local) ls) (eqb-sym l.local x.local ∙ e)) ∙ f) ls (each_fails (is_local l.local) ls d.0) (findable ls d.1),
)

-- ---- the first that is given

-- what is given first is given at some place
first-at : {X Y : Type 0} (h : ℕ × List X → Option Y) (n : ℕ) (xss : List (List X)) (y : Y) → first_some h (enumerate_from n xss) ≡ Some y → (k : ℕ) × (h (n + k, get_or xss k []) ≡ Some y)
first-at h n [] y e = absurd (cc e)
first-at {X} {Y} h n (xs ∷ xss) y e = go (h (n, xs)) refl e (first-at h (n + 1) xss y)
  where
    go : (o : Option Y) → h (n, xs) ≡ o → or_else o (first_some h (enumerate_from (n + 1) xss)) ≡ Some y → (first_some h (enumerate_from (n + 1) xss) ≡ Some y → (k : ℕ) × (h (n + 1 + k, get_or xss k []) ≡ Some y)) → (k : ℕ) × (h (n + k, get_or (xs ∷ xss) k []) ≡ Some y)
    go None f x r = let (k, g) = r x in (suc k, subst (λ i. h (i, get_or xss k []) ≡ Some y) (let e : n + 1 + k ≡ n + suc k = omega arith in e) g)
    go (Some z) f x r = (0, subst (λ i. h (i, xs) ≡ Some y) (let e : n ≡ n + 0 = omega arith in e) (f ∙ x))

-- where something is given at some place, something is given first
first-there : {X Y : Type 0} (h : ℕ × List X → Option Y) → ((k : ℕ) → h (k, []) ≡ None) → (n : ℕ) (xss : List (List X)) (k : ℕ) (y : Y) → h (n + k, get_or xss k []) ≡ Some y → (z : Y) × (first_some h (enumerate_from n xss) ≡ Some z)
first-there h past n [] k y e = absurd (cc (sym (past (n + k)) ∙ e))
first-there {X} {Y} h past n (xs ∷ xss) k y e = go (h (n, xs)) refl k e (first-there h past (n + 1) xss)
  where
    go : (o : Option Y) → h (n, xs) ≡ o → (j : ℕ) → h (n + j, get_or (xs ∷ xss) j []) ≡ Some y → ((i : ℕ) (x : Y) → h (n + 1 + i, get_or xss i []) ≡ Some x → (z : Y) × (first_some h (enumerate_from (n + 1) xss) ≡ Some z)) → (z : Y) × (or_else o (first_some h (enumerate_from (n + 1) xss)) ≡ Some z)
    go (Some z) f j x r = (z, refl)
    go None f zero x r = absurd (cc (sym f ∙ subst (λ i. h (i, xs) ≡ Some y) (let e : n + 0 ≡ n = omega arith in e) x))
    go None f (suc j) x r = r j y (subst (λ i. h (i, get_or xss j []) ≡ Some y) (let e : n + suc j ≡ n + 1 + j = omega arith in e) x)

-- what a rank has on a root
abbrev pub leaf_on : ℕ × ℕ → ℕ × List Leaf → Option (ℕ × ℕ)
leaf_on root r = option_map (λ (l : Leaf). (r.0, l.local)) (find (is_on_root root) r.1)

-- a leaf on a root has it as its root
on-root : (root : ℕ × ℕ) (l : Leaf) → is_on_root root l ≡ true → root_at l ≡ root
on-root root l h = let both = and_parts (l.rank == root.0) (l.index == root.1) h in let r = eqb-true l.rank root.0 both.0 in let i = eqb-true l.index root.1 both.1 in λ j. (r j, i j)

root-on : (root : ℕ × ℕ) (l : Leaf) → root_at l ≡ root → is_on_root root l ≡ true
root-on root l h = rw (eq-eqb l.rank root.0 (ap (λ (x : ℕ × ℕ). x.0) h), eq-eqb l.index root.1 (ap (λ (x : ℕ × ℕ). x.1) h))

-- the leaf that is found on a root looks the root up
pub leaf-looks_up : (f : Forest) → ((rank : ℕ) → Findable (leaves_on f rank) (leaves_on f rank)) → (rank index : ℕ) (x : ℕ × ℕ) → leaf_of f rank index ≡ Some x → root_of f x.0 x.1 ≡ Some (rank, index)
unfolding leaf_of root_of
leaf-looks_up f found rank index x e = let (k, h) = first-at (leaf_on (rank, index)) 0 f.leaves x e in go k (find (is_on_root (rank, index)) (leaves_on f k)) refl h
  where
    go : (k : ℕ) (o : Option Leaf) → find (is_on_root (rank, index)) (leaves_on f k) ≡ o → option_map (λ (l : Leaf). (0 + k, l.local)) o ≡ Some x → option_map root_at (find (is_local x.1) (leaves_on f x.0)) ≡ Some (rank, index)
    go k None g h = absurd (cc h)
    go k (Some l) g h =
        let is : (k, l.local) ≡ x = (let zero_less : k ≡ 0 + k = omega arith in let same : (0 + k, l.local) ≡ x = cc h in (λ i. (zero_less i, l.local)) ∙ same) in
        subst (λ (y : ℕ × ℕ). option_map root_at (find (is_local y.1) (leaves_on f y.0)) ≡ Some (rank, index)) is
        (find-has (λ (y : Leaf). option_map root_at (find (is_local y.local) (leaves_on f k)) ≡ Some (root_at y)) (is_on_root (rank, index)) (leaves_on f k) l (found k) g ∙ ap Some (on-root (rank, index) l (find-passes (is_on_root (rank, index)) (leaves_on f k) l g)))

-- where a leaf looks a root up, some leaf is found on the root
pub leaf-there : (f : Forest) (rank local : ℕ) (root : ℕ × ℕ) → root_of f rank local ≡ Some root → (x : ℕ × ℕ) × (leaf_of f root.0 root.1 ≡ Some x)
unfolding leaf_of root_of
leaf-there f rank local root e = go (find (is_local local) (leaves_on f rank)) refl e
  where
    h : ℕ × List Leaf → Option (ℕ × ℕ)
    h = leaf_on root

    some : (l : Leaf) → find (is_local local) (leaves_on f rank) ≡ Some l → is_on_root root l ≡ true → (y : ℕ × ℕ) × (h (0 + rank, leaves_on f rank) ≡ Some y)
    some l g p = ⊎_elim (λ (w : (x : Leaf) × (find (is_on_root root) (leaves_on f rank) ≡ Some x)). ((0 + rank, w.0.local), ap (option_map (λ (x : Leaf). (0 + rank, x.local))) w.1))
        (λ n. absurd (both_ways (is_on_root root l) (find-has (λ x. is_on_root root x ≡ false) (is_local local) (leaves_on f rank) l (each_fails (is_on_root root) (leaves_on f rank) n) g) p)) (find-cases (is_on_root root) (leaves_on f rank))

    go : (o : Option Leaf) → find (is_local local) (leaves_on f rank) ≡ o → option_map root_at o ≡ Some root → (x : ℕ × ℕ) × (first_some h (enumerate_from 0 f.leaves) ≡ Some x)
    go None g x = absurd (cc x)
    go (Some l) g x = let same : root_at l ≡ root = cc x in let (y, is) = some l g (root-on root l same) in first-there h (λ k. refl) 0 f.leaves rank y is

-- ---- roots with one leaf

-- what is found and passes is counted
counted : {X : Type 0} (p q : X → Bool) (xs : List X) (e : X) → find q xs ≡ Some e → p e ≡ true → 1 ≤ count_by p xs
counted p q [] e h t = absurd (cc h)
counted p q (x ∷ xs) e h t = go (q x) h (counted p q xs e)
  where
    sum : count_by p (x ∷ xs) ≡ cond (p x) 1 0 + count_by p xs
    sum = sum_by-cons (λ y. cond (p y) 1 0) x xs

    go : (b : Bool) → cond b (Some x) (find q xs) ≡ Some e → (find q xs ≡ Some e → p e ≡ true → 1 ≤ count_by p xs) → 1 ≤ count_by p (x ∷ xs)
    go true f r = let same : x ≡ e = cc f in omega (arith, sum ∙ ap (λ b. cond b 1 0 + count_by p xs) (ap p same ∙ t))
    go false f r = let rest = r f t in omega (arith, sum)

-- where at most one passes, what is found of those that pass is the one
only-one : {X : Type 0} (p q : X → Bool) (xs : List X) (d e : X) → count_by p xs ≤ 1 → find p xs ≡ Some d → find q xs ≡ Some e → p e ≡ true → d ≡ e
only-one p q [] d e c f g t = absurd (cc f)
only-one p q (x ∷ xs) d e c f g t = go (p x) refl (q x) f g (only-one p q xs d e)
  where
    sum : count_by p (x ∷ xs) ≡ cond (p x) 1 0 + count_by p xs
    sum = sum_by-cons (λ y. cond (p y) 1 0) x xs

    go : (a : Bool) → p x ≡ a → (b : Bool) → cond a (Some x) (find p xs) ≡ Some d → cond b (Some x) (find q xs) ≡ Some e → (count_by p xs ≤ 1 → find p xs ≡ Some d → find q xs ≡ Some e → p e ≡ true → d ≡ e) → d ≡ e
    go true k true f' g' r = cc (f', g')
    go true k false f' g' r = let more = counted p q xs e g' t in absurd (omega (arith, sum ∙ ap (λ b. cond b 1 0 + count_by p xs) k))
    go false k true f' g' r = let same : x ≡ e = cc g' in absurd (both_ways (p x) k (ap p same ∙ t))
    go false k false f' g' r = r (omega (arith, sum)) f' g' t

-- what is found on some rank is counted
counted-there : (p q : Leaf → Bool) (xss : List (List Leaf)) (k : ℕ) (e : Leaf) → find q (get_or xss k []) ≡ Some e → p e ≡ true → 1 ≤ sum_by (count_by p) xss
counted-there p q [] k e h t = absurd (cc h)
counted-there p q (xs ∷ xss) zero e h t = let here = counted p q xs e h t in omega (arith, sum_by-cons (count_by p) xs xss)
counted-there p q (xs ∷ xss) (suc k) e h t = let there = counted-there p q xss k e h t in omega (arith, sum_by-cons (count_by p) xs xss)

-- where at most one leaf is on a root, the first one is each one
first-unique : (root : ℕ × ℕ) (n : ℕ) (xss : List (List Leaf)) (x : ℕ × ℕ) → sum_by (count_by (is_on_root root)) xss ≤ 1 → first_some (leaf_on root) (enumerate_from n xss) ≡ Some x
    → (k local : ℕ) (e : Leaf) → find (is_local local) (get_or xss k []) ≡ Some e → is_on_root root e ≡ true → x ≡ (n + k, local)
first-unique root n [] x c h k local e f t = absurd (cc f)
first-unique root n (xs ∷ xss) x c h k local e f t = go (find (is_on_root root) xs) refl k h f (first-unique root (n + 1) xss x)
  where
    sum : sum_by (count_by (is_on_root root)) (xs ∷ xss) ≡ count_by (is_on_root root) xs + sum_by (count_by (is_on_root root)) xss
    sum = sum_by-cons (count_by (is_on_root root)) xs xss

    go : (o : Option Leaf) → find (is_on_root root) xs ≡ o → (j : ℕ) → or_else (option_map (λ (l : Leaf). (n, l.local)) o) (first_some (leaf_on root) (enumerate_from (n + 1) xss)) ≡ Some x → find (is_local local) (get_or (xs ∷ xss) j []) ≡ Some e
        → (sum_by (count_by (is_on_root root)) xss ≤ 1 → first_some (leaf_on root) (enumerate_from (n + 1) xss) ≡ Some x → (i l : ℕ) (d : Leaf) → find (is_local l) (get_or xss i []) ≡ Some d → is_on_root root d ≡ true → x ≡ (n + 1 + i, l))
        → x ≡ (n + j, local)
    go (Some d) g zero h' f' r =
        let same : d ≡ e = only-one (is_on_root root) (is_local local) xs d e (omega (arith, sum)) g f' t in
        let l : d.local ≡ local = ap (λ (y : Leaf). y.local) same ∙ eqb-true e.local local (find-passes (is_local local) xs e f') in
        let is : (n, d.local) ≡ x = cc h' in
        let there : n ≡ n + 0 = omega arith in
        sym is ∙ (λ i. (there i, l i))
    go (Some d) g (suc j) h' f' r = let here = counted (is_on_root root) (is_on_root root) xs d g (find-passes (is_on_root root) xs d g) in let there = counted-there (is_on_root root) (is_local local) xss j e f' t in absurd (omega (arith, sum))
    go None g zero h' f' r = ⊎_elim (λ (w : (y : Leaf) × (find (is_on_root root) xs ≡ Some y)). absurd (cc (sym g ∙ w.1)))
        (λ none. absurd (both_ways (is_on_root root e) (find-has (λ y. is_on_root root y ≡ false) (is_local local) xs e (each_fails (is_on_root root) xs none) f') t)) (find-cases (is_on_root root) xs)
    go None g (suc j) h' f' r = let there : n + 1 + j ≡ n + suc j = omega arith in r (omega (arith, sum)) h' j local e f' t ∙ (λ i. (there i, local))

-- what all enumerated numbers have, at a number that is not 0
at-place : (P : ℕ × ℕ → Type 0) (n : ℕ) (xs : List ℕ) → AllByRecursion P (enumerate_from n xs) → (k : ℕ) → 0 < get_or xs k 0 → P (n + k, get_or xs k 0)
at-place P n [] h k low = absurd (omega arith)
at-place P n (x ∷ xs) h zero low = subst (λ i. P (i, x)) (let e : n ≡ n + 0 = omega arith in e) h.0
at-place P n (x ∷ xs) h (suc k) low = subst (λ i. P (i, get_or xs k 0)) (let e : n + 1 + k ≡ n + suc k = omega arith in e) (at-place P (n + 1) xs h.1 k low)

-- where no root is shared, each has at most one leaf
degree-low : (f : Forest) → shared_root f ≡ None → (rank index : ℕ) → index < roots_on f rank → degree f rank index ≤ 1
unfolding shared_root
degree-low f h rank index low = ⊎_elim (λ (w : (x : ℕ × ℕ) × (find (λ (root : ℕ × ℕ). nat_lt 1 (degree f root.0 root.1)) (all_roots f) ≡ Some x)). absurd (cc (sym h ∙ w.1)))
    (λ none. let few = at-below (λ i. nat_lt 1 (degree f rank i) ≡ false) (roots_on f rank)
    (all_mapped (λ (root : ℕ × ℕ). nat_lt 1 (degree f root.0 root.1) ≡ false) (λ i. (rank, i)) (below (roots_on f rank))
    (subst (λ k. AllByRecursion (λ (root : ℕ × ℕ). nat_lt 1 (degree f root.0 root.1) ≡ false) (map (λ i. (k, i)) (below (roots_on f rank)))) (zero-add rank) (at-place (λ r. AllByRecursion (λ (root : ℕ × ℕ). nat_lt 1 (degree f root.0 root.1) ≡ false) (map (λ i. (r.0, i)) (below r.1))) 0 f.roots
    (all_in_flat_map (λ (root : ℕ × ℕ). nat_lt 1 (degree f root.0 root.1) ≡ false) (λ r. map (λ i. (r.0, i)) (below r.1)) (enumerate_from 0 f.roots) (each_fails (λ (root : ℕ × ℕ). nat_lt 1 (degree f root.0 root.1)) (all_roots f) none))
    rank (omega arith)))) index low in ltb-false 1 (degree f rank index) few)
    (find-cases (λ (root : ℕ × ℕ). nat_lt 1 (degree f root.0 root.1)) (all_roots f))

-- a leaf without another on its root is the one that is found there
pub leaf-found : (f : Forest) (rank local : ℕ) (root : ℕ × ℕ) → degree f root.0 root.1 ≤ 1 → root_of f rank local ≡ Some root → leaf_of f root.0 root.1 ≡ Some (rank, local)
unfolding degree leaf_of root_of
leaf-found f rank local root low e = let (x, h) = leaf-there f rank local root e in h ∙ ap Some (go (find (is_local local) (leaves_on f rank)) refl e x h)
  where
    go : (o : Option Leaf) → find (is_local local) (leaves_on f rank) ≡ o → option_map root_at o ≡ Some root → (x : ℕ × ℕ) → first_some (leaf_on root) (enumerate_from 0 f.leaves) ≡ Some x → x ≡ (rank, local)
    go None g y x h = absurd (cc y)
    go (Some l) g y x h = let same : root_at l ≡ root = cc y in first-unique root 0 f.leaves x low h rank local l g (root-on root l same) ∙ (let e' : 0 + rank ≡ rank = omega arith in λ i. (e' i, local))

-- ---- the inverse

-- what is found in two lists end to end
find-append : {X : Type 0} (p : X → Bool) (xs ys : List X) → find p (xs ++ ys) ≡ or_else (find p xs) (find p ys)
find-append p [] ys = refl
find-append p (x ∷ xs) ys = go (p x) (find-append p xs ys)
  where
    go : (b : Bool) → find p (xs ++ ys) ≡ or_else (find p xs) (find p ys) → cond b (Some x) (find p (xs ++ ys)) ≡ or_else (cond b (Some x) (find p xs)) (find p ys)
    go true r = refl
    go false r = r

-- a choice of one thing
either_way : {X : Type 0} (b : Bool) (x : X) → x ≡ cond b x x
either_way true x = refl
either_way false x = refl

-- the leaves that a function gives to the numbers below n, each under its number
given : (ℕ → Option (ℕ × ℕ)) → ℕ → List Leaf
given h n = filter_map (λ i. option_map (leaf i) (h i)) (below n)

-- under a number below n stands what the function gives
looked-given : (h : ℕ → Option (ℕ × ℕ)) (n local : ℕ) → option_map root_at (find (is_local local) (given h n)) ≡ cond (nat_lt local n) (h local) None
unfolding given
looked-given h zero local = sym (cond-false (nat_lt local 0) (h local) None (le-ltb local 0 (omega arith)))
looked-given h (suc n) local =
    ap (λ ls. option_map root_at (find (is_local local) ls)) (filter_map-append (λ i. option_map (leaf i) (h i)) (below n) (n ∷ []))
    ∙ ap (option_map root_at) (find-append (is_local local) (given h n) (cons_option (option_map (leaf n) (h n)) []))
    ∙ apart (find (is_local local) (given h n)) (find (is_local local) (cons_option (option_map (leaf n) (h n)) []))
    ∙ ap (λ o. or_else o (option_map root_at (find (is_local local) (cons_option (option_map (leaf n) (h n)) [])))) (looked-given h n local)
    ∙ last
  where
    apart : (o p : Option Leaf) → option_map root_at (or_else o p) ≡ or_else (option_map root_at o) (option_map root_at p)
    apart None p = refl
    apart (Some l) p = refl

    one : (o : Option (ℕ × ℕ)) → option_map root_at (find (is_local local) (cons_option (option_map (leaf n) o) [])) ≡ cond (n == local) o None
    one None = either_way (n == local) None
    one (Some r) = split (n == local)
      where
        split : (b : Bool) → option_map root_at (cond b (Some (leaf n r)) None) ≡ cond b (Some r) None
        split true = refl
        split false = refl

    alone : (o : Option (ℕ × ℕ)) → or_else o None ≡ o
    alone None = refl
    alone (Some r) = refl

    last : or_else (cond (nat_lt local n) (h local) None) (option_map root_at (find (is_local local) (cons_option (option_map (leaf n) (h n)) []))) ≡ cond (nat_lt local (suc n)) (h local) None
    last = ap (or_else (cond (nat_lt local n) (h local) None)) (one (h n)) ∙ ⊎_elim
        (λ (lt : local < n). rw (lt-ltb local n lt, ne_eqb n local (λ e. absurd (omega arith)), lt-ltb local (suc n) (omega arith)) (alone (h local)))
        (λ (ge : n ≤ local). ⊎_elim
        (λ (lt : n < local). rw (le-ltb local n ge, ne_eqb n local (λ e. absurd (omega arith)), le-ltb local (suc n) (omega arith)))
        (λ (le : local ≤ n). let same : n ≡ local = omega arith in rw (le-ltb local n ge, eq-eqb n local same, lt-ltb local (suc n) (omega arith)) (ap h same))
        (cases_lt n local))
        (cases_lt local n)

-- what is looked up in the inverse is the leaf on the root
pub root-of_inverse : (f : Forest) (roots : List ℕ) (rank local : ℕ) → root_of (invert f roots) rank local ≡ cond (nat_lt local (roots_on f rank)) (leaf_of f rank local) None
unfolding root_of invert given
root-of_inverse f roots rank local =
    ap (λ ls. option_map root_at (find (is_local local) ls)) (image-at 0 (λ r. given (leaf_of f r.0) r.1) (λ k. refl) 0 f.roots rank ∙ ap (λ k. given (leaf_of f k) (roots_on f rank)) (zero-add rank))
    ∙ looked-given (leaf_of f rank) (roots_on f rank) local

-- what all given leaves have
given-all : (P : Leaf → Type 0) (h : ℕ → Option (ℕ × ℕ)) (n : ℕ) → ((i : ℕ) (r : ℕ × ℕ) → i < n → h i ≡ Some r → P (leaf i r)) → AllByRecursion P (given h n)
unfolding given
given-all P h n f = go (below n) (below-all n)
  where
    go : (is : List ℕ) → AllByRecursion (λ i. i < n) is → AllByRecursion P (filter_map (λ i. option_map (leaf i) (h i)) is)
    go [] b = tt
    go (i ∷ is) b = one (h i) refl (go is b.1)
      where
        one : (o : Option (ℕ × ℕ)) → h i ≡ o → AllByRecursion P (filter_map (λ j. option_map (leaf j) (h j)) is) → AllByRecursion P (cons_option (option_map (leaf i) o) (filter_map (λ j. option_map (leaf j) (h j)) is))
        one None e t = t
        one (Some r) e t = (f i r b.0 e, t)

-- each leaf of an inverse is found by its local index
inverse-findable : (f : Forest) (roots : List ℕ) (rank : ℕ) → Findable (leaves_on (invert f roots) rank) (leaves_on (invert f roots) rank)
unfolding invert given
inverse-findable f roots rank = subst (λ ls. Findable ls ls) (sym (image-at 0 (λ r. given (leaf_of f r.0) r.1) (λ k. refl) 0 f.roots rank ∙ ap (λ k. given (leaf_of f k) (roots_on f rank)) (zero-add rank)))
    (given-all (λ (l : Leaf). option_map root_at (find (is_local l.local) (given (leaf_of f rank) (roots_on f rank))) ≡ Some (root_at l)) (leaf_of f rank) (roots_on f rank)
    (λ i r low e. looked-given (leaf_of f rank) (roots_on f rank) i ∙ cond-true (nat_lt i (roots_on f rank)) (leaf_of f rank i) None (lt-ltb i (roots_on f rank) low) ∙ e))

-- a choice that gives something chose what gives it
chosen : {X : Type 0} (b : Bool) (o : Option X) (x : X) → cond b o None ≡ Some x → (b ≡ true) × (o ≡ Some x)
chosen true o x h = (refl, h)
chosen false o x h = absurd (cc h)

-- a leaf that looks a root up has a local index among the roots of the inverse
pub local-fits : (f : Forest) (roots : List ℕ) → FitsLocals f roots → (rank local : ℕ) (root : ℕ × ℕ) → root_of f rank local ≡ Some root → local < roots_on (invert f roots) rank
unfolding root_of invert
local-fits f roots fits rank local root e = go (find (is_local local) (leaves_on f rank)) refl e
  where
    go : (o : Option Leaf) → find (is_local local) (leaves_on f rank) ≡ o → option_map root_at o ≡ Some root → local < slice_index roots rank
    go None g x = absurd (cc x)
    go (Some l) g x =
        subst (λ i. i < slice_index roots rank) (eqb-true l.local local (find-passes (is_local local) (leaves_on f rank) l g)) (find-has (λ (l : Leaf). l.local < slice_index roots rank) (is_local local) (leaves_on f rank) l (fits rank) g)

module _ (f : Forest) (is_forest : IsForest f) where
  -- each leaf is found by its local index
  pub forest-findable : (rank : ℕ) → Findable (leaves_on f rank) (leaves_on f rank)
  forest-findable rank = findable (leaves_on f rank) (sound f is_forest rank).differ

  -- the root that a leaf looks up is there
  pub root-there : (rank local : ℕ) (root : ℕ × ℕ) → root_of f rank local ≡ Some root → root.1 < roots_on f root.0
  unfolding root_of
  root-there rank local root e = go (find (is_local local) (leaves_on f rank)) refl e
    where
      go : (o : Option Leaf) → find (is_local local) (leaves_on f rank) ≡ o → option_map root_at o ≡ Some root → root.1 < roots_on f root.0
      go None g x = absurd (cc x)
      go (Some l) g x = let same : root_at l ≡ root = cc x in
          subst (λ (r : ℕ × ℕ). r.1 < roots_on f r.0) same (ltb-true l.index (roots_on f l.rank) (find-has (λ l. has_root f.roots l ≡ true) (is_local local) (leaves_on f rank) l (sound f is_forest rank).rooted g))

  -- what the inverse looks up looks the root up
  pub inverse-back : (roots : List ℕ) (rank index : ℕ) (x : ℕ × ℕ) → root_of (invert f roots) rank index ≡ Some x → root_of f x.0 x.1 ≡ Some (rank, index)
  inverse-back roots rank index x e = leaf-looks_up f forest-findable rank index x (chosen (nat_lt index (roots_on f rank)) (leaf_of f rank index) x (sym (root-of_inverse f roots rank index) ∙ e)).1

  module _ (unshared : shared_root f ≡ None) where
    -- a leaf is looked up by its root in the inverse
    pub inverse-forth : (roots : List ℕ) (rank local : ℕ) (root : ℕ × ℕ) → root_of f rank local ≡ Some root → root_of (invert f roots) root.0 root.1 ≡ Some (rank, local)
    inverse-forth roots rank local root e =
        let low = root-there rank local root e in
        root-of_inverse f roots root.0 root.1 ∙ cond-true (nat_lt root.1 (roots_on f root.0)) (leaf_of f root.0 root.1) None (lt-ltb root.1 (roots_on f root.0) low)
        ∙ leaf-found f rank local root (degree-low f unshared root.0 root.1 low) e

    -- the inverse of the inverse looks up what the forest does
    pub inverse-twice : (roots : List ℕ) → FitsLocals f roots → MeansSame (invert (invert f roots) f.roots) f
    inverse-twice roots fits rank local = root-of_inverse (invert f roots) f.roots rank local ∙ go (root_of f rank local) refl
      where
        -- what is found in the inverse on a leaf is the leaf's root
        chain : (y : ℕ × ℕ) → leaf_of (invert f roots) rank local ≡ Some y → root_of f rank local ≡ Some y
        chain y h = inverse-back roots y.0 y.1 (rank, local) (leaf-looks_up (invert f roots) (inverse-findable f roots) rank local y h)

        nothing : (o : Option (ℕ × ℕ)) → leaf_of (invert f roots) rank local ≡ o → root_of f rank local ≡ None → o ≡ None
        nothing None h e = refl
        nothing (Some y) h e = absurd (cc (sym e ∙ chain y h))

        go : (o : Option (ℕ × ℕ)) → root_of f rank local ≡ o → cond (nat_lt local (roots_on (invert f roots) rank)) (leaf_of (invert f roots) rank local) None ≡ root_of f rank local
        go None e = ap (λ o. cond (nat_lt local (roots_on (invert f roots) rank)) o None) (nothing (leaf_of (invert f roots) rank local) refl e) ∙ sym (either_way (nat_lt local (roots_on (invert f roots) rank)) None) ∙ sym e
        go (Some root) e =
            let (y, h) = leaf-there (invert f roots) root.0 root.1 (rank, local) (inverse-forth roots rank local root e) in
            cond-true (nat_lt local (roots_on (invert f roots) rank)) (leaf_of (invert f roots) rank local) None (lt-ltb local (roots_on (invert f roots) rank) (local-fits f roots fits rank local root e)) ∙ h ∙ sym (chain y h)
