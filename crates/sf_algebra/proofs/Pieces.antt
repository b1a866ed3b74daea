-- What composition and restriction give, rank by rank, and that it fits into a forest.
use Rattle.std.proofs.Common.{◌≡◌, ℕ, ◌+◌, zero, suc, ◌<◌, ◌≤◌, ◌^◌, Bool, List, [], ◌∷◌, length, map, get_or, take, filter, filter_map, sum, sum_by, Option, None, option_map, arith, refl, ap, sym, subst, ◌∙◌}
use Rattle.std.specs.List.{enumerate_from}
use Rattle.std.proofs.Math.Seq.{take-length}
use Rattle.std.proofs.lemmas.List.{length-map}
use Rattle.std.proofs.lemmas.List.FromFn.{length-enumerate_from}
use Rattle.std.specs.declared.vec.Vec.{Vec}
use Rattle.std.specs.declared.alloc.Global.{Global}
use Rattle.plain_lists.specs.Lists.{below}
use Rattle.plain_lists.proofs.Below.{length-below}
use Rattle.plain_lists.specs.Vectors.{lists_of}
use Rattle.plain_lists.proofs.Filters.{image-at}
use Rattle.sf_defs.specs.declared.Leaf.{Leaf}
use Rattle.sf_defs.specs.Forest.{Forest, compose, embed_leaves, embed_roots, invert, is_kept, leaf, leaf_of, leaves_on, roots_on, root_at, selected, through}
use Rattle.sf_graph.specs.Parts.{forest_of, IsForRanks}
use Rattle.rank_laws.proofs.Forests.{get_or-image}
use Rattle.sf_algebra.proofs.Fitting.{filter_map-shorter, filter-shorter, selected-shorter, sum-shorter, sum-numbered, fitting}

-- the lists of all ranks are the forest
pub whole : (t : Forest) (roots : List ℕ) (leaves : List (Vec Leaf Global)) (rank : ℕ) → roots ≡ t.roots → lists_of leaves ≡ take rank t.leaves → rank ≡ length t.leaves → forest_of roots (lists_of leaves) ≡ t
whole t roots leaves rank same upto end = λ i. record { roots = same i; leaves = (upto ∙ ap (λ n. take n t.leaves) end ∙ take-length t.leaves) i }

-- ---- composition

pub compose-roots : (a b : Forest) → a.roots ≡ (compose a b).roots
unfolding compose
compose-roots a b = refl

pub compose-count : (a b : Forest) → length (compose a b).leaves ≡ length b.leaves
unfolding compose
compose-count a b = length-map b.leaves (filter_map (through a))

pub compose-own : (a b : Forest) (rank : ℕ) → filter_map (through a) (leaves_on b rank) ≡ get_or (compose a b).leaves rank []
unfolding compose
compose-own a b rank = sym (get_or-image (filter_map (through a)) refl b.leaves rank)

pub compose-fits : (a b : Forest) → IsForRanks a → IsForRanks b → length a.roots ≡ length b.roots → IsForRanks (compose a b)
unfolding compose
compose-fits a b of_a of_b ranks = fitting a b (map (filter_map (through a)) b.leaves) of_a of_b ranks (length-map b.leaves (filter_map (through a))) (sum-shorter (filter_map (through a)) (filter_map-shorter (through a)) b.leaves)

-- ---- restriction to roots

-- of leaves those on kept roots
abbrev pub on_kept : List (List Bool) → List Leaf → List Leaf
on_kept keep leaves = filter (λ l. is_kept keep (root_at l)) leaves

pub embed_roots-roots : (a : Forest) (keep : List (List Bool)) → a.roots ≡ (embed_roots a keep).roots
unfolding embed_roots
embed_roots-roots a keep = refl

pub embed_roots-count : (a : Forest) (keep : List (List Bool)) → length (embed_roots a keep).leaves ≡ length a.leaves
unfolding embed_roots
embed_roots-count a keep = length-map a.leaves (on_kept keep)

pub embed_roots-own : (a : Forest) (keep : List (List Bool)) (rank : ℕ) → on_kept keep (leaves_on a rank) ≡ get_or (embed_roots a keep).leaves rank []
unfolding embed_roots
embed_roots-own a keep rank = sym (get_or-image (on_kept keep) refl a.leaves rank)

pub embed_roots-fits : (a : Forest) (keep : List (List Bool)) → IsForRanks a → IsForRanks (embed_roots a keep)
unfolding embed_roots
embed_roots-fits a keep of_a = fitting a a (map (on_kept keep) a.leaves) of_a of_a refl (length-map a.leaves (on_kept keep)) (sum-shorter (on_kept keep) (filter-shorter (λ l. is_kept keep (root_at l))) a.leaves)

-- ---- restriction to leaves

-- of the leaves of a numbered rank those at kept places
abbrev pub at_kept : List (List Bool) → ℕ × List Leaf → List Leaf
at_kept keep r = selected (get_or keep r.0 []) r.1

pub embed_leaves-roots : (a : Forest) (keep : List (List Bool)) → a.roots ≡ (embed_leaves a keep).roots
unfolding embed_leaves
embed_leaves-roots a keep = refl

pub embed_leaves-count : (a : Forest) (keep : List (List Bool)) → length (embed_leaves a keep).leaves ≡ length a.leaves
unfolding embed_leaves
embed_leaves-count a keep = length-map (enumerate_from 0 a.leaves) (at_kept keep) ∙ length-enumerate_from 0 a.leaves

pub embed_leaves-own : (a : Forest) (keep : List (List Bool)) (rank : ℕ) → selected (get_or keep rank []) (leaves_on a rank) ≡ get_or (embed_leaves a keep).leaves rank []
unfolding embed_leaves
embed_leaves-own a keep rank = sym (image-at [] (at_kept keep) (λ k. nothing (get_or keep k [])) 0 a.leaves rank ∙ ap (λ n. selected (get_or keep n []) (leaves_on a rank)) (omega arith))
  where
    nothing : (bs : List Bool) → selected {X = Leaf} bs [] ≡ []
    nothing [] = refl
    nothing (b ∷ bs) = refl

pub embed_leaves-fits : (a : Forest) (keep : List (List Bool)) → IsForRanks a → IsForRanks (embed_leaves a keep)
unfolding embed_leaves
embed_leaves-fits a keep of_a = fitting a a (map (at_kept keep) (enumerate_from 0 a.leaves)) of_a of_a refl (length-map (enumerate_from 0 a.leaves) (at_kept keep) ∙ length-enumerate_from 0 a.leaves) (sum-numbered length (at_kept keep) (λ k x. selected-shorter (get_or keep k []) x) 0 a.leaves)

-- ---- inversion

-- the leaves on the roots of a numbered rank, turned
abbrev pub turned_on : Forest → ℕ × ℕ → List Leaf
turned_on f r = filter_map (λ i. option_map (leaf i) (leaf_of f r.0 i)) (below r.1)

pub invert-roots : (f : Forest) (roots : List ℕ) → roots ≡ (invert f roots).roots
unfolding invert
invert-roots f roots = refl

pub invert-count : (f : Forest) (roots : List ℕ) → length (invert f roots).leaves ≡ length f.roots
unfolding invert
invert-count f roots = length-map (enumerate_from 0 f.roots) (turned_on f) ∙ length-enumerate_from 0 f.roots

pub invert-own : (f : Forest) (roots : List ℕ) (rank : ℕ) (own : List (Option (ℕ × ℕ))) → ((i : ℕ) → get_or own i None ≡ leaf_of f rank i) → length own ≡ roots_on f rank → filter_map (λ i. option_map (leaf i) (get_or own i None)) (below (length own)) ≡ get_or (invert f roots).leaves rank []
unfolding invert
invert-own f roots rank own found size =
    (λ j. filter_map (λ i. option_map (leaf i) (found i j)) (below (size j)))
    ∙ sym (at_rank 0 f.roots rank ∙ ap (λ n. turned_on f (n, roots_on f rank)) zeros)
  where
    zeros : 0 + rank ≡ rank
    zeros = omega arith

    at_rank : (n : ℕ) (xs : List ℕ) (k : ℕ) → get_or (map (turned_on f) (enumerate_from n xs)) k [] ≡ turned_on f (n + k, get_or xs k 0)
    at_rank n [] k = refl
    at_rank n (x ∷ xs) zero = ap (λ m. turned_on f (m, x)) (omega arith)
    at_rank n (x ∷ xs) (suc k) = at_rank (n + 1) xs k ∙ ap (λ m. turned_on f (m, get_or xs k 0)) (omega arith)

pub invert-fits : (f : Forest) (roots : List ℕ) → IsForRanks f → length roots ≡ length f.roots → sum roots < 2 ^ 32 → IsForRanks (invert f roots)
unfolding invert
invert-fits f roots of_f ranks few = record {
  ranks = length-map (enumerate_from 0 f.roots) (turned_on f) ∙ (length-enumerate_from 0 f.roots ∙ sym ranks);
  some_rank = subst (λ n. 1 ≤ n) (sym ranks) of_f.some_rank;
  few_ranks = subst (λ n. n ≤ 64) (sym ranks) of_f.few_ranks;
  few_roots = few;
  few_leaves = let fewer = sum-numbered (λ (n : ℕ). n) (turned_on f) (λ k n. let shorter = filter_map-shorter (λ i. option_map (leaf i) (leaf_of f k i)) (below n) in let size = length-below n in omega arith) 0 f.roots in let whole_sum = sum_by-self f.roots in let all = of_f.few_roots in omega arith;
}
  where
    sum_by-self : (xs : List ℕ) → sum_by (λ n. n) xs ≡ sum xs
    sum_by-self xs = refl
