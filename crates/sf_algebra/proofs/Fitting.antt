-- Lists of fewer leaves fit into a forest as well as those of which they are made.
use Rattle.std.proofs.Common.{◌≡◌, ℕ, zero, suc, ◌+◌, ◌≤◌, ◌<◌, List, [], ◌∷◌, length, map, get_or, filter, filter_map, slice_get, sum_by, Bool, true, false, cond, Option, Some, None, arith, refl, ap, sym, subst, ◌∙◌}
use Rattle.std.specs.List.{enumerate_from, cons_option}
use Rattle.std.proofs.lemmas.Bool.{ltb-true}
use Rattle.std.proofs.lemmas.List.{length-map}
use Rattle.std.proofs.lemmas.List.Sums.{sum_by-cons}
use Rattle.std.specs.declared.vec.Vec.{Vec}
use Rattle.std.specs.declared.alloc.Global.{Global}
use Rattle.plain_lists.specs.Vectors.{lists_of}
use Rattle.sf_defs.specs.declared.Leaf.{Leaf}
use Rattle.sf_defs.specs.Forest.{Forest, IsForest, leaves_on, roots_on, selected}
use Rattle.sf_graph.specs.Parts.{forest_of, IsForRanks}
use Rattle.sf_ops.proofs.Words.{length-lists_of}
use Rattle.sf_ops.proofs.Conditions.{leaf_has_root, at_place, word-within}

-- what is left is no longer
pub filter_map-shorter : {X Y : Type 0} (h : X → Option Y) (xs : List X) → length (filter_map h xs) ≤ length xs
filter_map-shorter h [] = omega arith
filter_map-shorter {X} {Y} h (x ∷ xs) = go (h x) (filter_map-shorter h xs)
  where
    go : (o : Option Y) → length (filter_map h xs) ≤ length xs → length (cons_option o (filter_map h xs)) ≤ suc (length xs)
    go None r = omega arith
    go (Some y) r = omega arith

pub filter-shorter : {X : Type 0} (p : X → Bool) (xs : List X) → length (filter p xs) ≤ length xs
filter-shorter p [] = omega arith
filter-shorter p (x ∷ xs) = go (p x) (filter-shorter p xs)
  where
    go : (b : Bool) → length (filter p xs) ≤ length xs → length (cond b (x ∷ filter p xs) (filter p xs)) ≤ suc (length xs)
    go true r = omega arith
    go false r = omega arith

pub selected-shorter : {X : Type 0} (keep : List Bool) (xs : List X) → length (selected keep xs) ≤ length xs
selected-shorter [] xs = omega arith
selected-shorter (b ∷ keep) [] = omega arith
selected-shorter (b ∷ keep) (x ∷ xs) = go b (selected-shorter keep xs)
  where
    go : (b : Bool) → length (selected keep xs) ≤ length xs → length (cond b (x ∷ selected keep xs) (selected keep xs)) ≤ suc (length xs)
    go true r = omega arith
    go false r = omega arith

-- nor is it in all
pub sum-shorter : {X Y : Type 0} (g : List X → List Y) → ((xs : List X) → length (g xs) ≤ length xs) → (xss : List (List X)) → sum_by length (map g xss) ≤ sum_by length xss
sum-shorter g h [] = omega arith
sum-shorter g h (xs ∷ xss) = let a = sum_by-cons length (g xs) (map g xss) in let b = sum_by-cons length xs xss in let c = h xs in let r = sum-shorter g h xss in omega arith

pub sum-numbered : {X Y : Type 0} (size : X → ℕ) (g : ℕ × X → List Y) → ((k : ℕ) (x : X) → length (g (k, x)) ≤ size x) → (n : ℕ) (xs : List X) → sum_by length (map g (enumerate_from n xs)) ≤ sum_by size xs
sum-numbered size g h n [] = omega arith
sum-numbered size g h n (x ∷ xs) = let a = sum_by-cons length (g (n, x)) (map g (enumerate_from (n + 1) xs)) in let b = sum_by-cons size x xs in let c = h n x in let r = sum-numbered size g h (n + 1) xs in omega arith

-- the roots of one forest, and no more leaves than another
pub fitting : (a b : Forest) (leaves : List (List Leaf)) → IsForRanks a → IsForRanks b → length a.roots ≡ length b.roots → length leaves ≡ length b.leaves → sum_by length leaves ≤ sum_by length b.leaves → IsForRanks (forest_of a.roots leaves)
fitting a b leaves of_a of_b ranks size fewer = record {
  ranks = size ∙ (of_b.ranks ∙ sym ranks);
  some_rank = of_a.some_rank;
  few_ranks = of_a.few_ranks;
  few_roots = of_a.few_roots;
  few_leaves = let few = of_b.few_leaves in omega arith;
}

-- a leaf's root is there
pub rooted : (f : Forest) (rank i : ℕ) (l : Leaf) → IsForest f → IsForRanks f → rank < length f.roots → slice_get (leaves_on f rank) i ≡ Some l → (l.rank < length f.roots) × (l.index < roots_on f l.rank)
rooted f rank i l right ranks within e =
    let place = at_place (leaves_on f rank) i l e in
    let has = leaf_has_root f rank i l right (subst (λ n. rank < n) (sym ranks.ranks) within) place.0 place.1 in
    ((word-within f.roots l has).0, ltb-true l.index (get_or f.roots l.rank 0) has)

-- as many entries as the list of lengths says
pub length_at : {X : Type 0} (xs : List (List X)) (k : ℕ) → length (get_or xs k []) ≡ get_or (map length xs) k 0
length_at [] k = refl
length_at (x ∷ xs) zero = refl
length_at (x ∷ xs) (suc k) = length_at xs k

-- what stands at a place does not depend on the default
pub same_within : {X : Type 0} (xs : List X) (i : ℕ) (d e : X) → i < length xs → get_or xs i d ≡ get_or xs i e
same_within [] i d e h = absurd (omega arith)
same_within (x ∷ xs) zero d e h = refl
same_within (x ∷ xs) (suc i) d e h = same_within xs i d e (omega arith)

-- and so is its flag
pub flag-there : (f : Forest) (keep : List (Vec Bool Global)) (l : Leaf) → map length (lists_of keep) ≡ f.roots → l.rank < length f.roots → l.index < roots_on f l.rank → (l.rank < length keep) × (l.index < length (get_or (lists_of keep) l.rank []))
flag-there f keep l shape rank root =
    let ranks : length f.roots ≡ length keep = sym (ap length shape) ∙ (length-map (lists_of keep) length ∙ length-lists_of keep) in
    (subst (λ n. l.rank < n) ranks rank, subst (λ n. l.index < n) (sym (length_at (lists_of keep) l.rank ∙ ap (λ ns. get_or ns l.rank 0) shape)) root)
