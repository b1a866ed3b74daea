-- Forests: leaves with different local indices, and composition.
use Rattle.std.proofs.Common.{◌≡◌, ℕ, zero, suc, ◌+◌, Bool, true, false, cond, ◌==◌, List, [], ◌∷◌, map, get_or, Option, Some, None, refl, sym, ap, ◌∙◌, subst, arith}
use Rattle.std.specs.Prelude.{find, option_map, option_and_then, filter_map}
use Rattle.std.specs.List.{list_any, AllByRecursion, enumerate_from, cons_option}
use Rattle.std.proofs.lemmas.Bool.{eqb-true, or_parts, cond-true, cond-false}
use Rattle.plain_lists.proofs.Finding.{none_passes, find-none}
use Rattle.plain_lists.proofs.Each.{all_weaker, all_from}
use Rattle.plain_lists.proofs.Filters.{map_map_same}
use Rattle.mesh_laws.proofs.Containing.{eqb-sym}
use Rattle.sf_defs.specs.declared.Leaf.{Leaf}
use Rattle.sf_defs.specs.Forest.{Forest, leaf, root_at, leaves_on, root_of, ForestFlaw, or_else, first_some, has_root, flaw_on, flaw, IsForest, through, compose}

-- it has this local index
abbrev pub is_local : ℕ → Leaf → Bool
is_local local l = l.local == local

-- no two leaves have one local index
abbrev pub locals_differ : List Leaf → Type 0
locals_differ [] = Unit {0}
locals_differ (l ∷ ls) = (list_any (is_local l.local) ls ≡ false) × locals_differ ls

-- what a flawless rank has
pub record IsSound (roots : List ℕ) (ls : List Leaf) : Type 0 where
  pub differ : locals_differ ls
  pub rooted : AllByRecursion (λ l. has_root roots l ≡ true) ls

-- leaves without a flaw are sound, and none has the local index of an earlier one
sound-after : (roots : List ℕ) (rank : ℕ) (earlier : List Leaf) (i : ℕ) (ls : List Leaf) → flaw_on roots rank earlier i ls ≡ None → IsSound roots ls × AllByRecursion (λ (l : Leaf). list_any (is_local l.local) earlier ≡ false) ls
sound-after roots rank earlier i [] h = (record { differ = tt; rooted = tt }, tt)
sound-after roots rank earlier i (l ∷ ls) h = go (has_root roots l) refl (list_any (is_local l.local) earlier) refl h (sound-after roots rank (l ∷ earlier) (i + 1) ls)
  where
    Later : Type 0
    Later = IsSound roots ls × AllByRecursion (λ (x : Leaf). list_any (is_local x.local) (l ∷ earlier) ≡ false) ls

    join : has_root roots l ≡ true → list_any (is_local l.local) earlier ≡ false → Later → IsSound roots (l ∷ ls) × AllByRecursion (λ (x : Leaf). list_any (is_local x.local) earlier ≡ false) (l ∷ ls)
    join r e (s, after) = (
      record {
        differ = (none_passes (is_local l.local) ls (all_weaker (λ (x : Leaf). list_any (is_local x.local) (l ∷ earlier) ≡ false) (λ (x : Leaf). (x.local == l.local) ≡ false) (λ x f. eqb-sym x.local l.local ∙ (or_parts (l.local == x.local) (list_any (is_local x.local) earlier) f).0) ls after), s.differ);
        rooted = (r, s.rooted);
      },
      (e, all_weaker (λ (x : Leaf). list_any (is_local x.local) (l ∷ earlier) ≡ false) (λ (x : Leaf). list_any (is_local x.local) earlier ≡ false) (λ x f. (or_parts (l.local == x.local) (list_any (is_local x.local) earlier) f).1) ls after),
    )

    go : (b : Bool) → has_root roots l ≡ b → (c : Bool) → list_any (is_local l.local) earlier ≡ c
        → cond b (cond c (Some (ForestFlaw.leaf_twice rank l.local)) (flaw_on roots rank (l ∷ earlier) (i + 1) ls)) (Some (ForestFlaw.root_range rank i)) ≡ None
        → (flaw_on roots rank (l ∷ earlier) (i + 1) ls ≡ None → Later)
        → IsSound roots (l ∷ ls) × AllByRecursion (λ (x : Leaf). list_any (is_local x.local) earlier ≡ false) (l ∷ ls)
    go true r true e f k = absurd (cc f)
    go true r false e f k = join r e (k f)
    go false r c e f k = absurd (cc f)

-- what gives nothing on enumerated lists gives nothing at each place
nothing-at : {X Y : Type 0} (h : ℕ × List X → Option Y) → ((k : ℕ) → h (k, []) ≡ None) → (n : ℕ) (xss : List (List X)) → first_some h (enumerate_from n xss) ≡ None → (k : ℕ) → h (n + k, get_or xss k []) ≡ None
nothing-at h past n [] e k = past (n + k)
nothing-at {X} {Y} h past n (xs ∷ xss) e k = go (h (n, xs)) refl e k (nothing-at h past (n + 1) xss)
  where
    go : (o : Option Y) → h (n, xs) ≡ o → or_else o (first_some h (enumerate_from (n + 1) xss)) ≡ None → (j : ℕ) → (first_some h (enumerate_from (n + 1) xss) ≡ None → (i : ℕ) → h (n + 1 + i, get_or xss i []) ≡ None) → h (n + j, get_or (xs ∷ xss) j []) ≡ None
    go None f x zero r = subst (λ i. h (i, xs) ≡ None) (let e : n ≡ n + 0 = omega arith in e) f
    go None f x (suc j) r = subst (λ i. h (i, get_or xss j []) ≡ None) (let e : n + 1 + j ≡ n + suc j = omega arith in e) (r x j)
    go (Some y) f x j r = absurd (cc x)

-- each rank of a forest is sound
pub sound : (f : Forest) → IsForest f → (rank : ℕ) → IsSound f.roots (leaves_on f rank)
unfolding flaw
sound f h rank = (sound-after f.roots (0 + rank) [] 0 (leaves_on f rank) (nothing-at (λ r. flaw_on f.roots r.0 [] 0 r.1) (λ k. refl) 0 f.leaves h rank)).0

-- ---- composition

-- a list of images at a place, where the image of nothing is nothing
pub get_or-image : {X Y : Type 0} (g : List X → List Y) → g [] ≡ [] → (xss : List (List X)) (k : ℕ) → get_or (map g xss) k [] ≡ g (get_or xss k [])
get_or-image g e [] k = sym e
get_or-image g e (xs ∷ xss) zero = refl
get_or-image g e (xs ∷ xss) (suc k) = get_or-image g e xss k

-- what is looked up in two forests, one after the other
abbrev pub then_root : Forest → Option (ℕ × ℕ) → Option (ℕ × ℕ)
then_root a o = option_and_then (λ (r : ℕ × ℕ). root_of a r.0 r.1) o

-- a leaf that goes through a forest has its local index still, and the root that is looked up there
looked-through : (a : Forest) (ls : List Leaf) (local : ℕ) → locals_differ ls → option_map root_at (find (is_local local) (filter_map (through a) ls)) ≡ then_root a (option_map root_at (find (is_local local) ls))
looked-through a [] local d = refl
looked-through a (l ∷ ls) local d = go (root_of a l.rank l.index) refl (l.local == local) refl (looked-through a ls local d.1)
  where
    kept : Option (ℕ × ℕ) → List Leaf
    kept o = cons_option (option_map (leaf l.local) o) (filter_map (through a) ls)

    nothing : (l.local == local) ≡ true → option_map root_at (find (is_local local) (filter_map (through a) ls)) ≡ then_root a (option_map root_at (find (is_local local) ls)) → option_map root_at (find (is_local local) (filter_map (through a) ls)) ≡ None
    nothing e r = r ∙ ap (λ o. then_root a (option_map root_at o)) (find-none (is_local local) ls (subst (λ x. list_any (is_local x) ls ≡ false) (eqb-true l.local local e) d.0))

    go : (o : Option (ℕ × ℕ)) → root_of a l.rank l.index ≡ o → (b : Bool) → (l.local == local) ≡ b
        → option_map root_at (find (is_local local) (filter_map (through a) ls)) ≡ then_root a (option_map root_at (find (is_local local) ls))
        → option_map root_at (find (is_local local) (kept o)) ≡ then_root a (option_map root_at (cond b (Some l) (find (is_local local) ls)))
    go None e true f r = nothing f r ∙ sym e
    go None e false f r = r
    go (Some x) e true f r = ap (option_map root_at) (cond-true (l.local == local) (Some (leaf l.local x)) (find (is_local local) (filter_map (through a) ls)) f) ∙ sym e
    go (Some x) e false f r = ap (option_map root_at) (cond-false (l.local == local) (Some (leaf l.local x)) (find (is_local local) (filter_map (through a) ls)) f) ∙ r

-- composition of forests is composition of maps
pub compose-map : (a b : Forest) → IsForest b → (rank local : ℕ) → root_of (compose a b) rank local ≡ then_root a (root_of b rank local)
unfolding root_of compose
compose-map a b h rank local = ap (λ ls. option_map root_at (find (is_local local) ls)) (get_or-image (filter_map (through a)) refl b.leaves rank) ∙ looked-through a (leaves_on b rank) local (sound b h rank).differ

-- going through two forests one after the other
through_both : (a b : Forest) → IsForest b → (l : Leaf) → through (compose a b) l ≡ option_and_then (through a) (through b l)
through_both a b h l = ap (option_map (leaf l.local)) (compose-map a b h l.rank l.index) ∙ go (root_of b l.rank l.index)
  where
    go : (o : Option (ℕ × ℕ)) → option_map (leaf l.local) (then_root a o) ≡ option_and_then (through a) (option_map (leaf l.local) o)
    go None = refl
    go (Some r) = refl

-- filters by two functions one after the other
filter_map_both : {X Y Z : Type 0} (f : Y → Option Z) (g : X → Option Y) (h : X → Option Z) → ((x : X) → h x ≡ option_and_then f (g x)) → (xs : List X) → filter_map h xs ≡ filter_map f (filter_map g xs)
filter_map_both f g h e [] = refl
filter_map_both f g h e (x ∷ xs) = ap (λ o. cons_option o (filter_map h xs)) (e x) ∙ go (g x) (filter_map_both f g h e xs)
  where
    go : (o : Option _) → filter_map h xs ≡ filter_map f (filter_map g xs) → cons_option (option_and_then f o) (filter_map h xs) ≡ filter_map f (cons_option o (filter_map g xs))
    go None r = r
    go (Some y) r = ap (cons_option (f y)) r

-- composition is associative, list by list
pub compose-associative : (a b c : Forest) → IsForest b → compose (compose a b) c ≡ compose a (compose b c)
unfolding compose
compose-associative a b c h = λ i. record {
  roots = a.roots;
  leaves = sym (map_map_same (filter_map (through a)) (filter_map (through b)) (filter_map (through (compose a b))) c.leaves (all_from _ (λ ls. sym (filter_map_both (through a) (through b) (through (compose a b)) (through_both a b h) ls)) c.leaves)) i;
}
