-- The lists of a forest of slots, rank by rank and leaf by leaf.
use Rattle.std.proofs.Common.{◌≡◌, ℕ, zero, suc, ◌+◌, ◌^◌, ◌<◌, ◌≤◌, List, [], ◌∷◌, ◌++◌, length, map, get_or, take, slice_get, Some, sum, sum_by, arith, refl, ap, sym, subst, ◌∙◌, add-one}
use Rattle.std.specs.Prelude.{zip}
use Rattle.std.specs.List.{AllByRecursion, enumerate_from}
use Rattle.std.proofs.lemmas.Bool.{ltb-true}
use Rattle.std.proofs.lemmas.List.{map-append, length-map}
use Rattle.std.proofs.lemmas.List.FromFn.{length-enumerate_from}
use Rattle.std.proofs.lemmas.List.Sums.{get_or-le-sum_by, sum_by-cons}
use Rattle.std.proofs.lemmas.Option.{slice_get_within}
use Rattle.std.proofs.Math.Seq.{take-suc, take-length}
use Rattle.plain_lists.specs.Lists.{below}
use Rattle.plain_lists.proofs.Below.{length-below, get_or-map-below}
use Rattle.plain_lists.proofs.Each.{all_at}
use Rattle.sf_defs.specs.declared.Leaf.{Leaf}
use Rattle.sf_defs.specs.Forest.{Forest, IsForest, degree, leaves_on, roots_on}
use Rattle.sf_graph.specs.Parts.{forest_of, IsForRanks}
use Rattle.sf_ops.proofs.Conditions.{at_place, leaf_has_root, word-within}
use Rattle.sf_defs.specs.slots.Slots.{first_slot, first_slots, first_slots_on, slot_counts, slot_leaf, slot_leaves, slotted, AreDraws}
use Rattle.sf_ops.proofs.slots.Lone.{IsDrawn, slots-of-rank}
use Rattle.sf_ops.proofs.slots.Places.{first_slot-within}
use Rattle.sf_ops.proofs.slots.Totals.{few-slots}

-- ---- first slots

-- one root more
pub firsts-more : (f : Forest) (rank k : ℕ) → map (first_slot f rank) (below (k + 1)) ≡ map (first_slot f rank) (below k) ++ first_slot f rank k ∷ []
firsts-more f rank k = ap (λ n. map (first_slot f rank) (below n)) (add-one k) ∙ map-append (first_slot f rank) (below k) (k ∷ [])

-- numbered elements, through a function
pub numbered-at : {X Y : Type 0} (g : ℕ × X → Y) (n : ℕ) (xs : List X) (k : ℕ) (d : X) (e : Y) → k < length xs → get_or (map g (enumerate_from n xs)) k e ≡ g (n + k, get_or xs k d)
numbered-at g n [] k d e h = absurd (omega arith)
numbered-at g n (x ∷ xs) zero d e h = ap (λ m. g (m, x)) (omega arith)
numbered-at g n (x ∷ xs) (suc k) d e h = numbered-at g (n + 1) xs k d e (omega arith) ∙ ap (λ m. g (m, get_or xs k d)) (omega arith)

pub counts-length : (f : Forest) → length (slot_counts f) ≡ length f.roots
unfolding slot_counts
counts-length f = length-map (enumerate_from 0 f.roots) (λ r. first_slot f r.0 r.1) ∙ length-enumerate_from 0 f.roots

pub firsts-length : (f : Forest) → length (first_slots f) ≡ length f.roots
unfolding first_slots
firsts-length f = length-map (enumerate_from 0 f.roots) (λ r. first_slots_on f r.0 r.1) ∙ length-enumerate_from 0 f.roots

pub firsts-at : (f : Forest) (rank : ℕ) → rank < length f.roots → get_or (first_slots f) rank [] ≡ first_slots_on f rank (roots_on f rank)
unfolding first_slots
firsts-at f rank h = numbered-at (λ r. first_slots_on f r.0 r.1) 0 f.roots rank 0 [] h ∙ ap (λ n. first_slots_on f n (roots_on f rank)) zeros
  where
    zeros : 0 + rank ≡ rank
    zeros = omega arith

pub firsts-on-length : (f : Forest) (rank roots : ℕ) → length (first_slots_on f rank roots) ≡ roots + 1
firsts-on-length f rank roots = length-map (below (roots + 1)) (first_slot f rank) ∙ length-below (roots + 1)

pub first-at : (f : Forest) (rank roots index : ℕ) → index < roots + 1 → get_or (first_slots_on f rank roots) index 0 ≡ first_slot f rank index
first-at f rank roots index h = get_or-map-below (first_slot f rank) (roots + 1) index 0 h

-- all slots have numbers of 32 bits
pub slot-fits : (f : Forest) (rank index : ℕ) → IsForRanks f → rank < length f.roots → index < roots_on f rank → first_slot f rank index + degree f rank index < 2 ^ 32
slot-fits f rank index ranks in-ranks in-roots =
    let a = first_slot-within f rank index (roots_on f rank) in-roots in
    let b = slots-of-rank f rank in
    let c : get_or (slot_counts f) rank 0 ≤ sum (slot_counts f) = get_or-le-sum_by (λ n. n) (slot_counts f) rank 0 (subst (λ n. rank < n) (sym (counts-length f)) in-ranks) in
    let d = few-slots f in
    let e = ranks.few_leaves in
    omega arith

-- one element more of a list that is made
pub made-more : {X : Type 0} (made now : List X) (own d : X) (k : ℕ) → now ≡ take k made → k < length made → own ≡ get_or made k d → now ++ own ∷ [] ≡ take (k + 1) made
made-more made now own d k upto within here = (λ i. upto i ++ here i ∷ []) ∙ (sym (take-suc made k d within) ∙ ap (λ n. take n made) (sym (add-one k)))

-- and all of it
pub made-all : {X : Type 0} (made now : List X) (k : ℕ) → now ≡ take k made → k ≡ length made → now ≡ made
made-all made now k upto end = upto ∙ (ap (λ n. take n made) end ∙ take-length made)

-- ---- leaves

-- what stands at a place does not depend on the default
pub same_within : {X : Type 0} (xs : List X) (i : ℕ) (d e : X) → i < length xs → get_or xs i d ≡ get_or xs i e
same_within [] i d e h = absurd (omega arith)
same_within (x ∷ xs) zero d e h = refl
same_within (x ∷ xs) (suc i) d e h = same_within xs i d e (omega arith)

-- where the slots of a leaf's root begin
pub record IsFound (f : Forest) (l : Leaf) (firsts : List (List ℕ)) (own : List ℕ) : Type 0 where
  pub rank : l.rank < length firsts
  pub index : l.index < length own
  pub first : get_or own l.index 0 ≡ first_slot f l.rank l.index

-- a leaf's root is there
pub rooted : (f : Forest) (rank i : ℕ) (l : Leaf) → IsForest f → IsForRanks f → rank < length f.roots → slice_get (leaves_on f rank) i ≡ Some l → (l.rank < length f.roots) × (l.index < roots_on f l.rank)
rooted f rank i l right ranks within e =
    let place = at_place (leaves_on f rank) i l e in
    let has = leaf_has_root f rank i l right (subst (λ n. rank < n) (sym ranks.ranks) within) place.0 place.1 in
    ((word-within f.roots l has).0, ltb-true l.index (get_or f.roots l.rank 0) has)

pub found : (f : Forest) (l : Leaf) (firsts : List (List ℕ)) (own : List ℕ) → l.rank < length f.roots → l.index < roots_on f l.rank → firsts ≡ first_slots f → own ≡ get_or firsts l.rank own → IsFound f l firsts own
found f l firsts own in-ranks in-roots all here =
    let within : l.rank < length firsts = subst (λ n. l.rank < n) (sym (ap length all ∙ firsts-length f)) in-ranks in
    let is : own ≡ first_slots_on f l.rank (roots_on f l.rank) = here ∙ (same_within firsts l.rank own [] within ∙ (ap (λ (fs : List (List ℕ)). get_or fs l.rank []) all ∙ firsts-at f l.rank in-ranks)) in
    let size = ap length is ∙ firsts-on-length f l.rank (roots_on f l.rank) in
    record {
      rank = within;
      index = omega arith;
      first = ap (λ ns. get_or ns l.index 0) is ∙ first-at f l.rank (roots_on f l.rank) l.index (omega arith);
    }

-- how many slots a rank has
pub found-last : (f : Forest) (rank : ℕ) (firsts : List (List ℕ)) (own : List ℕ) → rank < length f.roots → firsts ≡ first_slots f → own ≡ get_or firsts rank own → (roots_on f rank < length own) × (get_or own (roots_on f rank) 0 ≡ get_or (slot_counts f) rank 0)
found-last f rank firsts own in-ranks all here =
    let within : rank < length firsts = subst (λ n. rank < n) (sym (ap length all ∙ firsts-length f)) in-ranks in
    let is : own ≡ first_slots_on f rank (roots_on f rank) = here ∙ (same_within firsts rank own [] within ∙ (ap (λ (fs : List (List ℕ)). get_or fs rank []) all ∙ firsts-at f rank in-ranks)) in
    let size = ap length is ∙ firsts-on-length f rank (roots_on f rank) in
    (omega arith, ap (λ ns. get_or ns (roots_on f rank) 0) is ∙ (first-at f rank (roots_on f rank) (roots_on f rank) (omega arith) ∙ sym (slots-of-rank f rank)))

-- the pair of a leaf and what it drew
pair-at : (ls : List Leaf) (ds : List ℕ) (i : ℕ) (l : Leaf) (x : Leaf × ℕ) → length ds ≡ length ls → slice_get ls i ≡ Some l → get_or (zip ls ds) i x ≡ (l, get_or ds i 0)
pair-at [] ds i l x size e = absurd (cc e)
pair-at (y ∷ ys) [] i l x size e = absurd (omega arith)
pair-at (y ∷ ys) (d ∷ ds) zero l x size e = λ j. (same y l e j, d)
  where
    same : (a b : Leaf) → Some a ≡ Some b → a ≡ b
    same a b h = cc h
pair-at (y ∷ ys) (d ∷ ds) (suc i) l x size e = pair-at ys ds i l x (omega arith) e

zip-length : (ls : List Leaf) (ds : List ℕ) → length ds ≡ length ls → length (zip ls ds) ≡ length ls
zip-length [] ds e = refl
zip-length (l ∷ ls) [] e = absurd (omega arith)
zip-length (l ∷ ls) (d ∷ ds) e = ap suc (zip-length ls ds (omega arith))

-- what a leaf drew is below the degree of its root
pub drawn-within : (f : Forest) (ls : List Leaf) (ds : List ℕ) (i : ℕ) (l : Leaf) → length ds ≡ length ls → slice_get ls i ≡ Some l → AllByRecursion (IsDrawn f) (zip ls ds) → get_or ds i 0 < degree f l.rank l.index
drawn-within f ls ds i l size e all = subst (IsDrawn f) (pair-at ls ds i l (l, 0) size e) (all_at (IsDrawn f) (zip ls ds) i (l, 0) all (subst (λ n. i < n) (sym (zip-length ls ds size)) (slice_get_within ls i l e)))

-- the leaf on its slot
pub slot-leaf-at : (f : Forest) (ls : List Leaf) (ds : List ℕ) (i : ℕ) (l d : Leaf) → length ds ≡ length ls → slice_get ls i ≡ Some l → slot_leaf f (l, get_or ds i 0) ≡ get_or (slot_leaves f ls ds) i d
slot-leaf-at f ls ds i l d size e = sym (through (zip ls ds) i (subst (λ n. i < n) (sym (zip-length ls ds size)) (slice_get_within ls i l e)) ∙ ap (slot_leaf f) (pair-at ls ds i l (l, 0) size e))
  where
    through : (xs : List (Leaf × ℕ)) (k : ℕ) → k < length xs → get_or (map (slot_leaf f) xs) k d ≡ slot_leaf f (get_or xs k (l, 0))
    through [] k h = absurd (omega arith)
    through (x ∷ xs) zero h = refl
    through (x ∷ xs) (suc k) h = through xs k (omega arith)

pub slot-leaves-length : (f : Forest) (ls : List Leaf) (ds : List ℕ) → length ds ≡ length ls → length (slot_leaves f ls ds) ≡ length ls
slot-leaves-length f ls ds e = length-map (zip ls ds) (slot_leaf f) ∙ zip-length ls ds e

-- ---- ranks

-- the pair of a rank's leaves and what they drew
rank-pair : (lss : List (List Leaf)) (dss : List (List ℕ)) (k : ℕ) → map length dss ≡ map length lss → k < length lss → get_or (zip lss dss) k ([], []) ≡ (get_or lss k [], get_or dss k [])
rank-pair [] dss k e h = absurd (omega arith)
rank-pair (ls ∷ lss) [] k e h = absurd (cc e)
rank-pair (ls ∷ lss) (ds ∷ dss) zero e h = refl
rank-pair (ls ∷ lss) (ds ∷ dss) (suc k) e h = rank-pair lss dss k (tail_same (length ds) (length ls) (map length dss) (map length lss) e) (omega arith)
  where
    tail_same : (x y : ℕ) (xs ys : List ℕ) → x ∷ xs ≡ y ∷ ys → xs ≡ ys
    tail_same x y xs ys e = cc e

ranks-zip : (lss : List (List Leaf)) (dss : List (List ℕ)) → map length dss ≡ map length lss → length (zip lss dss) ≡ length lss
ranks-zip [] dss e = refl
ranks-zip (ls ∷ lss) [] e = absurd (cc e)
ranks-zip (ls ∷ lss) (ds ∷ dss) e = ap suc (ranks-zip lss dss (tail_same (length ds) (length ls) (map length dss) (map length lss) e))
  where
    tail_same : (x y : ℕ) (xs ys : List ℕ) → x ∷ xs ≡ y ∷ ys → xs ≡ ys
    tail_same x y xs ys e = cc e

pub drawn-count : (f : Forest) (drawn : List (List ℕ)) (rank : ℕ) → AreDraws f drawn → length (get_or drawn rank []) ≡ length (leaves_on f rank)
drawn-count f drawn rank d = length_at drawn rank ∙ (ap (λ ns. get_or ns rank 0) d.shape ∙ sym (length_at f.leaves rank))
  where
    length_at : {X : Type 0} (xs : List (List X)) (k : ℕ) → length (get_or xs k []) ≡ get_or (map length xs) k 0
    length_at [] k = refl
    length_at (x ∷ xs) zero = refl
    length_at (x ∷ xs) (suc k) = length_at xs k

pub drawn-of-rank : (f : Forest) (drawn : List (List ℕ)) (rank : ℕ) → AreDraws f drawn → rank < length f.leaves → AllByRecursion (λ r. AllByRecursion (IsDrawn f) (zip r.0 r.1)) (zip f.leaves drawn) → AllByRecursion (IsDrawn f) (zip (leaves_on f rank) (get_or drawn rank []))
drawn-of-rank f drawn rank d h all = subst (λ (r : List Leaf × List ℕ). AllByRecursion (IsDrawn f) (zip r.0 r.1)) (rank-pair f.leaves drawn rank d.shape h) (all_at (λ (r : List Leaf × List ℕ). AllByRecursion (IsDrawn f) (zip r.0 r.1)) (zip f.leaves drawn) rank ([], []) all (subst (λ n. rank < n) (sym (ranks-zip f.leaves drawn d.shape)) h))

pub slotted-count : (f : Forest) (drawn : List (List ℕ)) → AreDraws f drawn → length (slotted f drawn).leaves ≡ length f.leaves
unfolding slotted
slotted-count f drawn d = length-map (zip f.leaves drawn) (λ r. slot_leaves f r.0 r.1) ∙ ranks-zip f.leaves drawn d.shape

pub slotted-own : (f : Forest) (drawn : List (List ℕ)) (rank : ℕ) → AreDraws f drawn → rank < length f.leaves → slot_leaves f (leaves_on f rank) (get_or drawn rank []) ≡ get_or (slotted f drawn).leaves rank []
unfolding slotted
slotted-own f drawn rank d h = sym (through (zip f.leaves drawn) rank (subst (λ n. rank < n) (sym (ranks-zip f.leaves drawn d.shape)) h) ∙ ap (λ (r : List Leaf × List ℕ). slot_leaves f r.0 r.1) (rank-pair f.leaves drawn rank d.shape h))
  where
    through : (xs : List (List Leaf × List ℕ)) (k : ℕ) → k < length xs → get_or (map (λ r. slot_leaves f r.0 r.1) xs) k [] ≡ (λ (r : List Leaf × List ℕ). slot_leaves f r.0 r.1) (get_or xs k ([], []))
    through [] k h = absurd (omega arith)
    through (x ∷ xs) zero h = refl
    through (x ∷ xs) (suc k) h = through xs k (omega arith)

pub slotted-whole : (f : Forest) (drawn : List (List ℕ)) (roots : List ℕ) (leaves : List (List Leaf)) → roots ≡ slot_counts f → leaves ≡ (slotted f drawn).leaves → forest_of roots leaves ≡ slotted f drawn
unfolding slotted
slotted-whole f drawn roots leaves r l = λ i. record { roots = r i; leaves = l i }

-- slots fit into a forest
pub slotted-fits : (f : Forest) (drawn : List (List ℕ)) → IsForRanks f → AreDraws f drawn → IsForRanks (slotted f drawn)
unfolding slotted
slotted-fits f drawn ranks d = record {
  ranks = length-map (zip f.leaves drawn) (λ r. slot_leaves f r.0 r.1) ∙ (ranks-zip f.leaves drawn d.shape ∙ (ranks.ranks ∙ sym (counts-length f)));
  some_rank = subst (λ n. 1 ≤ n) (sym (counts-length f)) ranks.some_rank;
  few_ranks = subst (λ n. n ≤ 64) (sym (counts-length f)) ranks.few_ranks;
  few_roots = let a = few-slots f in let b = ranks.few_leaves in omega arith;
  few_leaves = let a = as_many f.leaves drawn d.shape in let b = ranks.few_leaves in omega arith;
}
  where
    as_many : (lss : List (List Leaf)) (dss : List (List ℕ)) → map length dss ≡ map length lss → sum_by length (map (λ r. slot_leaves f r.0 r.1) (zip lss dss)) ≡ sum_by length lss
    as_many [] dss e = refl
    as_many (ls ∷ lss) [] e = absurd (cc e)
    as_many (ls ∷ lss) (ds ∷ dss) e =
        let a = sum_by-cons length (slot_leaves f ls ds) (map (λ r. slot_leaves f r.0 r.1) (zip lss dss)) in
        let b = sum_by-cons length ls lss in
        let c = slot-leaves-length f ls ds (head_same (length ds) (length ls) (map length dss) (map length lss) e) in
        let r = as_many lss dss (tail_same (length ds) (length ls) (map length dss) (map length lss) e) in
        omega arith
      where
        head_same : (x y : ℕ) (xs ys : List ℕ) → x ∷ xs ≡ y ∷ ys → x ≡ y
        head_same x y xs ys e = cc e

        tail_same : (x y : ℕ) (xs ys : List ℕ) → x ∷ xs ≡ y ∷ ys → xs ≡ ys
        tail_same x y xs ys e = cc e
