-- What is made of forests is a forest, and what a restriction looks up.
use Rattle.std.proofs.Common.{◌≡◌, ℕ, zero, suc, ◌+◌, ◌<◌, ◌≤◌, Bool, true, false, cond, ◌==◌, List, [], ◌∷◌, ◌++◌, get_or, slice_index, Option, Some, None, refl, sym, ap, ◌∙◌, subst, arith}
use Rattle.std.specs.Prelude.{find, option_map, option_and_then, filter_map}
use Rattle.std.specs.List.{list_any, AllByRecursion, filter, enumerate_from, cons_option}
use Rattle.std.proofs.lemmas.Bool.{eqb-true, or_parts, or_from, lt-ltb, cond-true, cond-false}
use Rattle.plain_lists.specs.Lists.{below}
use Rattle.plain_lists.proofs.Each.{all_enumerated, all_both, all_weaker, all_from, all_map, all_filter}
use Rattle.plain_lists.proofs.Finding.{none_passes, each_fails, find-none}
use Rattle.plain_lists.proofs.Below.{below-all}
use Rattle.mesh_laws.proofs.Containing.{eqb-sym}
use Rattle.sf_defs.specs.declared.Leaf.{Leaf}
use Rattle.sf_defs.specs.Forest.{Forest, leaf, root_at, leaves_on, roots_on, root_of, has_root, ForestFlaw, flaw_on, flaw, IsForest, through, compose, leaf_of, FitsLocals, invert, is_kept, embed_roots, selected, embed_leaves}
use Rattle.rank_laws.proofs.Forests.{is_local, locals_differ, IsSound, sound, get_or-image}
use Rattle.rank_laws.proofs.Inverting.{root-there, leaf-looks_up, local-fits, forest-findable}
use Rattle.rank_laws.proofs.PointForests.{Rise, rise-from, nothing-first, forest-from}

-- sound leaves with other local indices than the earlier ones have no flaw after them
flawless-after : (roots : List ℕ) (rank : ℕ) (earlier : List Leaf) (i : ℕ) (ls : List Leaf) → IsSound roots ls → AllByRecursion (λ (l : Leaf). list_any (is_local l.local) earlier ≡ false) ls → flaw_on roots rank earlier i ls ≡ None
flawless-after roots rank earlier i [] s h = refl
flawless-after roots rank earlier i (l ∷ ls) s h =
    cond-true (has_root roots l) (cond (list_any (is_local l.local) earlier) (Some (ForestFlaw.leaf_twice rank l.local)) (flaw_on roots rank (l ∷ earlier) (i + 1) ls)) (Some (ForestFlaw.root_range rank i)) s.rooted.0
    ∙ cond-false (list_any (is_local l.local) earlier) (Some (ForestFlaw.leaf_twice rank l.local)) (flaw_on roots rank (l ∷ earlier) (i + 1) ls) h.0
    ∙ flawless-after roots rank (l ∷ earlier) (i + 1) ls (record { differ = s.differ.1; rooted = s.rooted.1 })
    (all_both (λ (x : Leaf). (x.local == l.local) ≡ false) (λ (x : Leaf). list_any (is_local x.local) earlier ≡ false) (λ (x : Leaf). list_any (is_local x.local) (l ∷ earlier) ≡ false)
    (λ x e f. or_from (l.local == x.local) (list_any (is_local x.local) earlier) (eqb-sym l.local x.local ∙ e) f) ls (each_fails (is_local l.local) ls s.differ.0) h.1)

-- a forest of sound leaves
sound-forest : (f : Forest) → AllByRecursion (IsSound f.roots) f.leaves → IsForest f
unfolding flaw
sound-forest f h = nothing-first (λ r. flaw_on f.roots r.0 [] 0 r.1) 0 f.leaves
    (all_weaker (IsSound f.roots) (λ ls. (k : ℕ) → flaw_on f.roots k [] 0 ls ≡ None) (λ ls s k. flawless-after f.roots k [] 0 ls s (all_from (λ (l : Leaf). list_any (is_local l.local) [] ≡ false) (λ l. refl) ls)) f.leaves h)

-- all ranks of a forest are sound
ranks-sound : (f : Forest) → IsForest f → AllByRecursion (IsSound f.roots) f.leaves
ranks-sound f h = each f.leaves (sound f h)
  where
    each : (xss : List (List Leaf)) → ((k : ℕ) → IsSound f.roots (get_or xss k [])) → AllByRecursion (IsSound f.roots) xss
    each [] g = tt
    each (xs ∷ xss) g = (g 0, each xss (λ k. g (suc k)))

-- ---- restriction

-- of leaves with different local indices, those that are kept still differ
filter-differ : (p : Leaf → Bool) (ls : List Leaf) → locals_differ ls → locals_differ (filter p ls)
filter-differ p [] d = tt
filter-differ p (l ∷ ls) d = go (p l) (filter-differ p ls d.1)
  where
    fewer : (v : ℕ) (xs : List Leaf) → list_any (is_local v) xs ≡ false → list_any (is_local v) (filter p xs) ≡ false
    fewer v [] h = h
    fewer v (x ∷ xs) h = let both = or_parts (x.local == v) (list_any (is_local v) xs) h in one (p x) both.0 (fewer v xs both.1)
      where
        one : (b : Bool) → (x.local == v) ≡ false → list_any (is_local v) (filter p xs) ≡ false → list_any (is_local v) (cond b (x ∷ filter p xs) (filter p xs)) ≡ false
        one true e r = or_from (x.local == v) (list_any (is_local v) (filter p xs)) e r
        one false e r = r

    go : (b : Bool) → locals_differ (filter p ls) → locals_differ (cond b (l ∷ filter p ls) (filter p ls))
    go true r = (fewer l.local ls d.0, r)
    go false r = r

-- what is looked up among kept leaves
looked-kept : (p : ℕ × ℕ → Bool) (ls : List Leaf) (local : ℕ) → locals_differ ls → option_map root_at (find (is_local local) (filter (λ l. p (root_at l)) ls)) ≡ option_and_then (λ r. cond (p r) (Some r) None) (option_map root_at (find (is_local local) ls))
looked-kept p [] local d = refl
looked-kept p (l ∷ ls) local d = go (p (root_at l)) refl (l.local == local) refl (looked-kept p ls local d.1)
  where
    rest : List Leaf
    rest = filter (λ x. p (root_at x)) ls

    Kept : Option Leaf → Option (ℕ × ℕ)
    Kept o = option_and_then (λ r. cond (p r) (Some r) None) (option_map root_at o)

    go : (b : Bool) → p (root_at l) ≡ b → (c : Bool) → (l.local == local) ≡ c → option_map root_at (find (is_local local) rest) ≡ Kept (find (is_local local) ls)
        → option_map root_at (find (is_local local) (cond b (l ∷ rest) rest)) ≡ Kept (cond c (Some l) (find (is_local local) ls))
    go true e true f r = ap (option_map root_at) (cond-true (l.local == local) (Some l) (find (is_local local) rest) f) ∙ sym (cond-true (p (root_at l)) (Some (root_at l)) None e)
    go true e false f r = ap (option_map root_at) (cond-false (l.local == local) (Some l) (find (is_local local) rest) f) ∙ r
    go false e true f r = r ∙ ap Kept (find-none (is_local local) ls (subst (λ x. list_any (is_local x) ls ≡ false) (eqb-true l.local local f) d.0)) ∙ sym (cond-false (p (root_at l)) (Some (root_at l)) None e)
    go false e false f r = r

-- embedding by roots looks up the roots that are kept
pub embed-looks_up : (f : Forest) (keep : List (List Bool)) → IsForest f → (rank local : ℕ) → root_of (embed_roots f keep) rank local ≡ option_and_then (λ root. cond (is_kept keep root) (Some root) None) (root_of f rank local)
unfolding root_of embed_roots
embed-looks_up f keep h rank local = ap (λ ls. option_map root_at (find (is_local local) ls)) (get_or-image (filter (λ l. is_kept keep (root_at l))) refl f.leaves rank) ∙ looked-kept (is_kept keep) (leaves_on f rank) local (sound f h rank).differ

-- embedding by roots gives a forest
pub embed_roots-forest : (f : Forest) (keep : List (List Bool)) → IsForest f → IsForest (embed_roots f keep)
unfolding embed_roots
embed_roots-forest f keep h = sound-forest (embed_roots f keep) (all_map (IsSound f.roots) (filter (λ l. is_kept keep (root_at l))) f.leaves
    (all_weaker (IsSound f.roots) (λ ls. IsSound f.roots (filter (λ l. is_kept keep (root_at l)) ls)) (λ ls s. record { differ = filter-differ (λ l. is_kept keep (root_at l)) ls s.differ; rooted = all_filter (λ l. has_root f.roots l ≡ true) (λ l. is_kept keep (root_at l)) ls s.rooted }) f.leaves (ranks-sound f h)))

-- of what all have, what is kept by place has it
kept-all : {X : Type 0} (P : X → Type 0) (bs : List Bool) (xs : List X) → AllByRecursion P xs → AllByRecursion P (selected bs xs)
kept-all P [] xs h = tt
kept-all P (b ∷ bs) [] h = tt
kept-all P (b ∷ bs) (x ∷ xs) h = go b (kept-all P bs xs h.1)
  where
    go : (c : Bool) → AllByRecursion P (selected bs xs) → AllByRecursion P (cond c (x ∷ selected bs xs) (selected bs xs))
    go true r = (h.0, r)
    go false r = r

-- of leaves with different local indices, those that are kept by place still differ
kept-differ : (bs : List Bool) (ls : List Leaf) → locals_differ ls → locals_differ (selected bs ls)
kept-differ [] ls d = tt
kept-differ (b ∷ bs) [] d = tt
kept-differ (b ∷ bs) (l ∷ ls) d = go b (kept-differ bs ls d.1)
  where
    go : (c : Bool) → locals_differ (selected bs ls) → locals_differ (cond c (l ∷ selected bs ls) (selected bs ls))
    go true r = (none_passes (is_local l.local) (selected bs ls) (kept-all (λ (x : Leaf). (x.local == l.local) ≡ false) bs ls (each_fails (is_local l.local) ls d.0)), r)
    go false r = r

-- embedding by places gives a forest
pub embed_leaves-forest : (f : Forest) (keep : List (List Bool)) → IsForest f → IsForest (embed_leaves f keep)
unfolding embed_leaves
embed_leaves-forest f keep h = sound-forest (embed_leaves f keep) (all_map (IsSound f.roots) (λ (r : ℕ × List Leaf). selected (get_or keep r.0 []) r.1) (enumerate_from 0 f.leaves)
    (all_weaker (λ (r : ℕ × List Leaf). IsSound f.roots r.1) (λ (r : ℕ × List Leaf). IsSound f.roots (selected (get_or keep r.0 []) r.1)) (λ r s. record { differ = kept-differ (get_or keep r.0 []) r.1 s.differ; rooted = kept-all (λ l. has_root f.roots l ≡ true) (get_or keep r.0 []) r.1 s.rooted }) (enumerate_from 0 f.leaves) (all_enumerated (IsSound f.roots) 0 f.leaves (ranks-sound f h))))

-- ---- composition

-- through a forest, leaves with different local indices still differ
through-differ : (a : Forest) (ls : List Leaf) → locals_differ ls → locals_differ (filter_map (through a) ls)
through-differ a [] d = tt
through-differ a (l ∷ ls) d = go (root_of a l.rank l.index) (through-differ a ls d.1)
  where
    fewer : (v : ℕ) (xs : List Leaf) → list_any (is_local v) xs ≡ false → list_any (is_local v) (filter_map (through a) xs) ≡ false
    fewer v [] h = h
    fewer v (x ∷ xs) h = let both = or_parts (x.local == v) (list_any (is_local v) xs) h in one (root_of a x.rank x.index) both.0 (fewer v xs both.1)
      where
        one : (o : Option (ℕ × ℕ)) → (x.local == v) ≡ false → list_any (is_local v) (filter_map (through a) xs) ≡ false → list_any (is_local v) (cons_option (option_map (leaf x.local) o) (filter_map (through a) xs)) ≡ false
        one None e r = r
        one (Some y) e r = or_from (x.local == v) (list_any (is_local v) (filter_map (through a) xs)) e r

    go : (o : Option (ℕ × ℕ)) → locals_differ (filter_map (through a) ls) → locals_differ (cons_option (option_map (leaf l.local) o) (filter_map (through a) ls))
    go None r = r
    go (Some y) r = (fewer l.local ls d.0, r)

-- through a forest, leaves have roots of the forest
through-rooted : (a : Forest) → IsForest a → (ls : List Leaf) → AllByRecursion (λ l. has_root a.roots l ≡ true) (filter_map (through a) ls)
through-rooted a h [] = tt
through-rooted a h (l ∷ ls) = go (root_of a l.rank l.index) refl (through-rooted a h ls)
  where
    go : (o : Option (ℕ × ℕ)) → root_of a l.rank l.index ≡ o → AllByRecursion (λ x. has_root a.roots x ≡ true) (filter_map (through a) ls) → AllByRecursion (λ x. has_root a.roots x ≡ true) (cons_option (option_map (leaf l.local) o) (filter_map (through a) ls))
    go None e r = r
    go (Some y) e r = (lt-ltb y.1 (roots_on a y.0) (root-there a h l.rank l.index y e), r)

-- the composition of forests is a forest
pub compose-forest : (a b : Forest) → IsForest a → IsForest b → IsForest (compose a b)
unfolding compose
compose-forest a b h g = sound-forest (compose a b) (all_map (IsSound a.roots) (filter_map (through a)) b.leaves
    (all_weaker (IsSound b.roots) (λ ls. IsSound a.roots (filter_map (through a) ls)) (λ ls s. record { differ = through-differ a ls s.differ; rooted = through-rooted a h ls }) b.leaves (ranks-sound b g)))

-- ---- inversion

-- numbers that rise from k on
abbrev Rising : ℕ → List ℕ → Type 0
Rising k [] = Unit {0}
Rising k (i ∷ is) = (k ≤ i) × Rising (i + 1) is

-- rising numbers below n, and n
rising-push : (k n : ℕ) (is : List ℕ) → k ≤ n → AllByRecursion (λ i. i < n) is → Rising k is → Rising k (is ++ n ∷ [])
rising-push k n [] h b r = (h, tt)
rising-push k n (i ∷ is) h b r = (r.0, rising-push (i + 1) n is (omega (arith, b.0)) b.1 r.1)

-- the numbers below n rise
rising-below : (n : ℕ) → Rising 0 (below n)
rising-below zero = tt
rising-below (suc n) = rising-push 0 n (below n) (omega arith) (below-all n) (rising-below n)

-- leaves that are given to rising numbers rise
given-rise : (h : ℕ → Option (ℕ × ℕ)) (k : ℕ) (is : List ℕ) → Rising k is → Rise k (filter_map (λ i. option_map (leaf i) (h i)) is)
given-rise h k [] r = tt
given-rise h k (i ∷ is) r = go (h i) (given-rise h (i + 1) is r.1)
  where
    go : (o : Option (ℕ × ℕ)) → Rise (i + 1) (filter_map (λ j. option_map (leaf j) (h j)) is) → Rise k (cons_option (option_map (leaf i) o) (filter_map (λ j. option_map (leaf j) (h j)) is))
    go None t = rise-from k (i + 1) (filter_map (λ j. option_map (leaf j) (h j)) is) (omega (arith, r.0)) t
    go (Some y) t = (r.0, t)

-- what is given has roots where each root that is given is there
given-rooted : (roots : List ℕ) (h : ℕ → Option (ℕ × ℕ)) → ((i : ℕ) (y : ℕ × ℕ) → h i ≡ Some y → y.1 < slice_index roots y.0) → (is : List ℕ) → AllByRecursion (λ l. has_root roots l ≡ true) (filter_map (λ i. option_map (leaf i) (h i)) is)
given-rooted roots h f [] = tt
given-rooted roots h f (i ∷ is) = go (h i) refl (given-rooted roots h f is)
  where
    go : (o : Option (ℕ × ℕ)) → h i ≡ o → AllByRecursion (λ l. has_root roots l ≡ true) (filter_map (λ j. option_map (leaf j) (h j)) is) → AllByRecursion (λ l. has_root roots l ≡ true) (cons_option (option_map (leaf i) o) (filter_map (λ j. option_map (leaf j) (h j)) is))
    go None e t = t
    go (Some y) e t = (lt-ltb y.1 (slice_index roots y.0) (f i y e), t)

-- the inverse of a forest is a forest
pub invert-forest : (f : Forest) (roots : List ℕ) → IsForest f → FitsLocals f roots → IsForest (invert f roots)
unfolding invert
invert-forest f roots h fits = forest-from (invert f roots) (all_map Good leaves_of (enumerate_from 0 f.roots) (all_from _ good (enumerate_from 0 f.roots)))
  where
    Good : List Leaf → Type 0
    Good ls = Rise 0 ls × AllByRecursion (λ l. has_root roots l ≡ true) ls

    leaves_of : ℕ × ℕ → List Leaf
    leaves_of r = filter_map (λ i. option_map (leaf i) (leaf_of f r.0 i)) (below r.1)

    good : (r : ℕ × ℕ) → Good (leaves_of r)
    good r = (given-rise (leaf_of f r.0) 0 (below r.1) (rising-below r.1), given-rooted roots (leaf_of f r.0) (λ i y e. local-fits f roots fits y.0 y.1 (r.0, i) (leaf-looks_up f (forest-findable f h) r.0 i y e)) (below r.1))
