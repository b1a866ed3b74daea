-- Remembering the first leaf on each root.
use Rattle.std.proofs.Common.{◌≡◌, ℕ, zero, suc, ◌+◌, ◌<◌, Bool, true, false, cond, ◌&&◌, ◌==◌, List, [], ◌∷◌, ◌++◌, length, map, get_or, set, take, drop, replicate, slice_get, Option, Some, None, option_map, arith, refl, ap, sym, subst, ◌∙◌, add-one}
use Rattle.std.specs.Prelude.{find}
use Rattle.std.specs.List.{enumerate_from}
use Rattle.std.proofs.lemmas.Bool.{eq-eqb, eqb-true, both_ways}
use Rattle.std.proofs.lemmas.List.{get_or-set_same, get_or-set_other, length-set}
use Rattle.std.proofs.lemmas.List.FromFn.{length-enumerate_from}
use Rattle.std.proofs.Math.Seq.{map-set_same, take-length, take-append_seam}
use Rattle.sf_defs.specs.declared.Leaf.{Leaf}
use Rattle.sf_defs.specs.Forest.{Forest, first_some, is_on_root, leaf_of, leaves_on, or_else}
use Rattle.sf_algebra.proofs.Fitting.{same_within}
use Rattle.sf_algebra.proofs.Steps.{taken-more}

-- what is remembered for root `index` of rank `to`
abbrev pub noted : List (List (Option (ℕ × ℕ))) → ℕ → ℕ → Option (ℕ × ℕ)
noted found to index = get_or (get_or found to []) index None

-- the name of a leaf
abbrev pub named : ℕ → Leaf → ℕ × ℕ
named rank l = (rank, l.local)

-- no leaf
abbrev pub no_leaf : Option (ℕ × ℕ)
no_leaf = None

-- the first leaf of a numbered rank on a root
abbrev pub first_of : ℕ → ℕ → ℕ × List Leaf → Option (ℕ × ℕ)
first_of to index r = option_map (named r.0) (find (is_on_root (to, index)) r.1)

-- the first leaf on a root, of the ranks before rank k
abbrev pub first_to : Forest → ℕ → ℕ → ℕ → Option (ℕ × ℕ)
first_to f k to index = first_some (first_of to index) (take k (enumerate_from 0 f.leaves))

pub or_else-none : {X : Type 0} (o : Option X) → or_else o None ≡ o
or_else-none None = refl
or_else-none (Some x) = refl

or_else-assoc : {X : Type 0} (o p q : Option X) → or_else (or_else o p) q ≡ or_else o (or_else p q)
or_else-assoc None p q = refl
or_else-assoc (Some x) p q = refl

-- ---- one leaf

-- a leaf more on its root
first_of-push : (to index rank : ℕ) (ls : List Leaf) (l : Leaf) → first_of to index (rank, ls ++ l ∷ []) ≡ or_else (first_of to index (rank, ls)) (cond (is_on_root (to, index) l) (Some (rank, l.local)) None)
first_of-push to index rank [] l = go (is_on_root (to, index) l)
  where
    go : (b : Bool) → option_map (named rank) (cond b (Some l) None) ≡ cond b (Some (rank, l.local)) None
    go true = refl
    go false = refl
first_of-push to index rank (x ∷ ls) l = go (is_on_root (to, index) x) (first_of-push to index rank ls l)
  where
    go : (b : Bool) → first_of to index (rank, ls ++ l ∷ []) ≡ or_else (first_of to index (rank, ls)) (cond (is_on_root (to, index) l) (Some (rank, l.local)) None)
        → option_map (named rank) (cond b (Some x) (find (is_on_root (to, index)) (ls ++ l ∷ []))) ≡ or_else (option_map (named rank) (cond b (Some x) (find (is_on_root (to, index)) ls))) (cond (is_on_root (to, index) l) (Some (rank, l.local)) None)
    go true r = refl
    go false r = r

-- remembering a leaf at its root
noted-set : (found : List (List (Option (ℕ × ℕ)))) (l : Leaf) (rank : ℕ) (own d : List (Option (ℕ × ℕ))) → l.rank < length found → l.index < length (get_or found l.rank d) → own ≡ set (get_or found l.rank d) l.index (or_else (get_or (get_or found l.rank d) l.index None) (Some (rank, l.local)))
    → (to index : ℕ) → noted (set found l.rank own) to index ≡ or_else (noted found to index) (cond (is_on_root (to, index) l) (Some (rank, l.local)) None)
noted-set found l rank own d in-ranks in-roots e to index = go (l.rank == to) refl (l.index == index) refl
  where
    Goal : Bool → Type 0
    Goal b = noted (set found l.rank own) to index ≡ or_else (noted found to index) (cond b (Some (rank, l.local)) None)

    at : get_or (set found l.rank own) l.rank [] ≡ own
    at = get_or-set_same found l.rank own [] in-ranks

    old : get_or found l.rank d ≡ get_or found l.rank []
    old = same_within found l.rank d [] in-ranks

    here : noted (set found l.rank own) l.rank l.index ≡ or_else (noted found l.rank l.index) (Some (rank, l.local))
    here = ap (λ ls. get_or ls l.index None) (at ∙ e) ∙ (get_or-set_same (get_or found l.rank d) l.index _ None in-roots ∙ ap (λ ls. or_else (get_or ls l.index None) (Some (rank, l.local))) old)

    go : (b : Bool) → (l.rank == to) ≡ b → (c : Bool) → (l.index == index) ≡ c → Goal (b && c)
    go false p c q = ap (λ ls. get_or ls index None) (get_or-set_other found l.rank to own [] (λ m. both_ways (l.rank == to) p (eq-eqb l.rank to (sym m)))) ∙ sym (or_else-none (noted found to index))
    go true p false q = subst (λ t. noted (set found l.rank own) t index ≡ or_else (noted found t index) None) (eqb-true l.rank to p)
        (ap (λ ls. get_or ls index None) (at ∙ e) ∙ (get_or-set_other (get_or found l.rank d) l.index index _ None (λ m. both_ways (l.index == index) q (eq-eqb l.index index (sym m))) ∙ (ap (λ ls. get_or ls index None) old ∙ sym (or_else-none (noted found l.rank index)))))
    go true p true q = subst (λ t. noted (set found l.rank own) t index ≡ or_else (noted found t index) (Some (rank, l.local))) (eqb-true l.rank to p)
        (subst (λ j. noted (set found l.rank own) l.rank j ≡ or_else (noted found l.rank j) (Some (rank, l.local))) (eqb-true l.index index q) here)

-- one leaf more
pub noted-more : (old now : List (List (Option (ℕ × ℕ)))) (roots : List ℕ) (leaves : List Leaf) (rank i : ℕ) (l : Leaf) (own d : List (Option (ℕ × ℕ))) → map length now ≡ roots → ((to index : ℕ) → noted now to index ≡ or_else (noted old to index) (first_of to index (rank, take i leaves))) → slice_get leaves i ≡ Some l → l.rank < length now → l.index < length (get_or now l.rank d) → own ≡ set (get_or now l.rank d) l.index (or_else (get_or (get_or now l.rank d) l.index None) (Some (rank, l.local)))
    → (map length (set now l.rank own) ≡ roots) × ((to index : ℕ) → noted (set now l.rank own) to index ≡ or_else (noted old to index) (first_of to index (rank, take (i + 1) leaves)))
noted-more old now roots leaves rank i l own d shape so_far at in-ranks in-roots e = (
  map-set_same length now l.rank own d (ap length e ∙ length-set (get_or now l.rank d) l.index _) ∙ shape,
  λ to index.
      noted-set now l rank own d in-ranks in-roots e to index
      ∙ (ap (λ o. or_else o (cond (is_on_root (to, index) l) (Some (rank, l.local)) None)) (so_far to index)
      ∙ (or_else-assoc (noted old to index) (first_of to index (rank, take i leaves)) _
      ∙ ap (or_else (noted old to index)) (sym (ap (λ ls. first_of to index (rank, ls)) (taken-more leaves i l at) ∙ first_of-push to index rank (take i leaves) l)))),
)

-- ---- all ranks

-- nothing is remembered
pub noted-none : (roots : List ℕ) (to index : ℕ) → noted (map (λ n. replicate n no_leaf) roots) to index ≡ None
noted-none [] to index = refl
noted-none (n ∷ ns) zero index = nothing n index
  where
    nothing : (n index : ℕ) → get_or (replicate n no_leaf) index None ≡ None
    nothing zero index = refl
    nothing (suc n) zero = refl
    nothing (suc n) (suc index) = nothing n index
noted-none (n ∷ ns) (suc to) index = noted-none ns to index

pub shape-none : (roots : List ℕ) → map length (map (λ n. replicate n no_leaf) roots) ≡ roots
shape-none [] = refl
shape-none (n ∷ ns) = λ i. size n i ∷ shape-none ns i
  where
    size : (n : ℕ) → length (replicate n no_leaf) ≡ n
    size zero = refl
    size (suc n) = ap suc (size n)

-- one rank more
pub first_to-more : (f : Forest) (k to index : ℕ) → k < length f.leaves → first_to f (k + 1) to index ≡ or_else (first_to f k to index) (first_of to index (k, leaves_on f k))
first_to-more f k to index h = ap (λ n. first_to f n to index) (add-one k) ∙ (go 0 f.leaves k h ∙ ap (λ n. or_else (first_to f k to index) (first_of to index (n, leaves_on f k))) zeros)
  where
    zeros : 0 + k ≡ k
    zeros = omega arith

    go : (n : ℕ) (xs : List (List Leaf)) (k : ℕ) → k < length xs → first_some (first_of to index) (take (suc k) (enumerate_from n xs)) ≡ or_else (first_some (first_of to index) (take k (enumerate_from n xs))) (first_of to index (n + k, get_or xs k []))
    go n [] k h = absurd (omega arith)
    go n (x ∷ xs) zero h = or_else-none (first_of to index (n, x)) ∙ ap (λ m. first_of to index (m, x)) same
      where
        same : n ≡ n + 0
        same = omega arith
    go n (x ∷ xs) (suc k) h = ap (or_else (first_of to index (n, x))) (go (n + 1) xs k (omega arith)) ∙ (sym (or_else-assoc (first_of to index (n, x)) (first_some (first_of to index) (take k (enumerate_from (n + 1) xs))) (first_of to index (n + 1 + k, get_or xs k []))) ∙ ap (λ m. or_else (first_some (first_of to index) ((n, x) ∷ take k (enumerate_from (n + 1) xs))) (first_of to index (m, get_or xs k []))) same)
      where
        same : n + 1 + k ≡ n + suc k
        same = omega arith

-- all ranks
pub first_to-all : (f : Forest) (k to index : ℕ) → length f.leaves ≡ k → first_to f k to index ≡ leaf_of f to index
unfolding leaf_of
first_to-all f k to index e = ap (first_some (first_of to index)) (ap (λ n. take n (enumerate_from 0 f.leaves)) (sym e ∙ sym (length-enumerate_from 0 f.leaves)) ∙ take-length (enumerate_from 0 f.leaves))

-- a vector that was lent as a slice has what the slice has
pub written-back : {X : Type 0} (new old : List X) (n : ℕ) → length new ≡ length old → length old ≡ n → take n (new ++ drop (length new) old) ≡ new
written-back new old n same size = ap (λ m. take m (new ++ drop (length new) old)) (sym (same ∙ size)) ∙ take-append_seam new (drop (length new) old)
