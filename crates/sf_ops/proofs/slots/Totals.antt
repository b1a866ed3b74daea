-- All slots together are no more than the leaves.
use Rattle.std.proofs.Common.{◌≡◌, ℕ, zero, suc, ◌+◌, ◌<◌, ◌≤◌, Bool, true, false, cond, ◌&&◌, ◌==◌, List, [], ◌∷◌, length, map, sum, sum_by, count_by, arith, refl, ⊎_elim}
use Rattle.std.specs.List.{enumerate_from}
use Rattle.std.proofs.lemmas.Bool.{cases_lt, eqb-true, ne_eqb, cond-false}
use Rattle.std.proofs.lemmas.List.Sums.{sum_by-cons, sum_by_push}
use Rattle.plain_lists.specs.Lists.{below}
use Rattle.sf_defs.specs.declared.Leaf.{Leaf}
use Rattle.sf_defs.specs.Forest.{Forest, degree, is_on_root}
use Rattle.sf_defs.specs.slots.Slots.{first_slot, slot_counts}

-- of a number for each root, those of all roots of these ranks together
abbrev total : (ℕ → ℕ → ℕ) → ℕ → List ℕ → ℕ
total h n [] = 0
total h n (m ∷ ms) = sum_by (h n) (below m) + total h (n + 1) ms

sum_by-both : (g h : ℕ → ℕ) (xs : List ℕ) → sum_by (λ x. g x + h x) xs ≡ sum_by g xs + sum_by h xs
sum_by-both g h [] = refl
sum_by-both g h (x ∷ xs) = let a = sum_by-cons (λ y. g y + h y) x xs in let b = sum_by-cons g x xs in let c = sum_by-cons h x xs in let r = sum_by-both g h xs in omega arith

total-both : (g h : ℕ → ℕ → ℕ) (n : ℕ) (ms : List ℕ) → total (λ r i. g r i + h r i) n ms ≡ total g n ms + total h n ms
total-both g h n [] = refl
total-both g h n (m ∷ ms) = let a = sum_by-both (g n) (h n) (below m) in let r = total-both g h (n + 1) ms in omega arith

total-same : (g h : ℕ → ℕ → ℕ) → ((r i : ℕ) → g r i ≡ h r i) → (n : ℕ) (ms : List ℕ) → total g n ms ≡ total h n ms
total-same g h e n ms = λ j. total (λ r i. e r i j) n ms

sum_by-nothing : (h : ℕ → ℕ) → ((x : ℕ) → h x ≡ 0) → (xs : List ℕ) → sum_by h xs ≡ 0
sum_by-nothing h e [] = refl
sum_by-nothing h e (x ∷ xs) = let a = sum_by-cons h x xs in let b = e x in let r = sum_by-nothing h e xs in omega arith

total-nothing : (n : ℕ) (ms : List ℕ) → total (λ r i. 0) n ms ≡ 0
total-nothing n [] = refl
total-nothing n (m ∷ ms) = let a = sum_by-nothing (λ i. 0) (λ i. refl) (below m) in let r = total-nothing (n + 1) ms in omega arith

-- ---- one leaf

abbrev one_if : Bool → ℕ
one_if b = cond b 1 0

-- 1 where the leaf is on the root
abbrev mark : Leaf → ℕ → ℕ → ℕ
mark l r i = cond (is_on_root (r, i) l) 1 0

-- a number is none of those below it
none-below : (k m : ℕ) → m ≤ k → sum_by (λ i. cond (k == i) 1 0) (below m) ≡ 0
none-below k zero h = refl
none-below k (suc m) h =
    let a = sum_by_push (λ i. cond (k == i) 1 0) (below m) m in
    let b : one_if (k == m) ≡ 0 = cond-false (k == m) 1 0 (ne_eqb k m (λ e. omega arith)) in
    let r = none-below k m (omega arith) in
    omega arith

-- and at most one of any
one-below : (k m : ℕ) → sum_by (λ i. cond (k == i) 1 0) (below m) ≤ 1
one-below k zero = omega arith
one-below k (suc m) = let a = sum_by_push (λ i. cond (k == i) 1 0) (below m) m in ⊎_elim
    (λ lt. let b : one_if (k == m) ≡ 0 = cond-false (k == m) 1 0 (ne_eqb k m (λ e. omega arith)) in let r = one-below k m in omega arith)
    (λ ge. let r = none-below k m ge in let b = at_most (k == m) in omega arith)
    (cases_lt k m)
  where
    at_most : (b : Bool) → cond b 1 0 ≤ 1
    at_most true = omega arith
    at_most false = omega arith

-- on its own rank a leaf is on one root at most, and on no other
own-rank : (l : Leaf) (r m : ℕ) → sum_by (mark l r) (below m) ≤ cond (l.rank == r) 1 0
own-rank l r m = go (l.rank == r)
  where
    go : (b : Bool) → sum_by (λ i. cond (b && (l.index == i)) 1 0) (below m) ≤ cond b 1 0
    go true = one-below l.index m
    go false = let none = sum_by-nothing (λ i. 0) (λ i. refl) (below m) in omega arith

later-ranks : (l : Leaf) (n : ℕ) (ms : List ℕ) → l.rank < n → total (mark l) n ms ≡ 0
later-ranks l n [] h = refl
later-ranks l n (m ∷ ms) h =
    let a = own-rank l n m in
    let b : one_if (l.rank == n) ≡ 0 = cond-false (l.rank == n) 1 0 (ne_eqb l.rank n (λ e. omega arith)) in
    let r = later-ranks l (n + 1) ms (omega arith) in
    omega arith

one-root : (l : Leaf) (n : ℕ) (ms : List ℕ) → total (mark l) n ms ≤ 1
one-root l n [] = omega arith
one-root l n (m ∷ ms) = let a = own-rank l n m in go (l.rank == n) refl a (one-root l (n + 1) ms)
  where
    go : (b : Bool) → (l.rank == n) ≡ b → sum_by (mark l n) (below m) ≤ cond b 1 0 → total (mark l) (n + 1) ms ≤ 1 → sum_by (mark l n) (below m) + total (mark l) (n + 1) ms ≤ 1
    go true e a k = let same = eqb-true l.rank n e in let r = later-ranks l (n + 1) ms (omega arith) in omega arith
    go false e a k = omega arith

-- ---- all leaves

own-leaves : (n : ℕ) (ms : List ℕ) (ls : List Leaf) → total (λ r i. count_by (is_on_root (r, i)) ls) n ms ≤ length ls
own-leaves n ms [] = let none = total-nothing n ms in omega arith
own-leaves n ms (l ∷ ls) =
    let a = total-same (λ r i. count_by (is_on_root (r, i)) (l ∷ ls)) (λ r i. mark l r i + count_by (is_on_root (r, i)) ls) (λ r i. sum_by-cons (λ x. cond (is_on_root (r, i) x) 1 0) l ls) n ms in
    let b = total-both (mark l) (λ r i. count_by (is_on_root (r, i)) ls) n ms in
    let c = one-root l n ms in
    let r = own-leaves n ms ls in
    omega arith

all-leaves : (n : ℕ) (ms : List ℕ) (lss : List (List Leaf)) → total (λ r i. sum_by (count_by (is_on_root (r, i))) lss) n ms ≤ sum_by length lss
all-leaves n ms [] = let none = total-nothing n ms in omega arith
all-leaves n ms (ls ∷ lss) =
    let a = total-same (λ r i. sum_by (count_by (is_on_root (r, i))) (ls ∷ lss)) (λ r i. count_by (is_on_root (r, i)) ls + sum_by (count_by (is_on_root (r, i))) lss) (λ r i. sum_by-cons (count_by (is_on_root (r, i))) ls lss) n ms in
    let b = total-both (λ r i. count_by (is_on_root (r, i)) ls) (λ r i. sum_by (count_by (is_on_root (r, i))) lss) n ms in
    let c = own-leaves n ms ls in
    let d = sum_by-cons length ls lss in
    let r = all-leaves n ms lss in
    omega arith

-- the slots of all ranks
pub few-slots : (f : Forest) → sum (slot_counts f) ≤ sum_by length f.leaves
unfolding degree first_slot slot_counts
few-slots f = let a = as_total 0 f.roots in let b = all-leaves 0 f.roots f.leaves in omega arith
  where
    as_total : (n : ℕ) (ms : List ℕ) → sum (map (λ r. sum_by (λ i. sum_by (count_by (is_on_root (r.0, i))) f.leaves) (below r.1)) (enumerate_from n ms)) ≡ total (λ r i. sum_by (count_by (is_on_root (r, i))) f.leaves) n ms
    as_total n [] = refl
    as_total n (m ∷ ms) =
        let a = sum_by-cons (λ x. x) (sum_by (λ i. sum_by (count_by (is_on_root (n, i))) f.leaves) (below m)) (map (λ r. sum_by (λ i. sum_by (count_by (is_on_root (r.0, i))) f.leaves) (below r.1)) (enumerate_from (n + 1) ms)) in
        let r = as_total (n + 1) ms in
        omega arith
