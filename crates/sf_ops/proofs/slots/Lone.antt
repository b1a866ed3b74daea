-- Each slot that leaves drew has exactly one leaf.
use Rattle.std.proofs.Common.{◌≡◌, ℕ, zero, suc, ◌+◌, ◌<◌, Bool, true, false, cond, ◌&&◌, ◌==◌, List, [], ◌∷◌, map, get_or, sum_by, count_by, arith, refl, ap, sym, subst, ◌∙◌}
use Rattle.std.specs.Prelude.{filter, flat_map, zip}
use Rattle.std.specs.List.{AllByRecursion, enumerate_from}
use Rattle.std.proofs.lemmas.Bool.{eq-eqb}
use Rattle.std.proofs.lemmas.List.Sums.{sum_by-cons}
use Rattle.plain_lists.proofs.Each.{all_in_flat_map}
use Rattle.plain_lists.proofs.Filters.{count-append}
use Rattle.sf_defs.specs.declared.Leaf.{Leaf}
use Rattle.sf_defs.specs.Forest.{Forest, degree, is_on_root, roots_on, root_at}
use Rattle.sf_defs.specs.slots.Slots.{first_slot, slot_counts, slot_leaf, slot_leaves, slotted, drawn_at, own_drawn_at, AreDraws, HasLoneLeaves}
use Rattle.sf_ops.proofs.slots.Counted.{one_if, count-cons}
use Rattle.sf_ops.proofs.slots.Places.{first_slot-none, slot_of, on_slot}

-- what a leaf drew is below the degree of its root
abbrev pub IsDrawn : Forest → Leaf × ℕ → Type 0
IsDrawn f x = x.1 < degree f x.0.rank x.0.index

-- of each pair of a leaf and a number, from what each root's leaves drew
pairs-of-rank : (f : Forest) (ls : List Leaf) (ds : List ℕ) → ((root : ℕ × ℕ) → AllByRecursion (λ n. n < degree f root.0 root.1) (own_drawn_at root (ls, ds))) → AllByRecursion (IsDrawn f) (zip ls ds)
pairs-of-rank f [] ds h = tt
pairs-of-rank f (l ∷ ls) [] h = tt
pairs-of-rank f (l ∷ ls) (d ∷ ds) h = (here (is_on_root (root_at l) l) (λ i. eq-eqb l.rank l.rank refl i && eq-eqb l.index l.index refl i) (h (root_at l)), pairs-of-rank f ls ds (λ root. later root (is_on_root root l) (h root)))
  where
    rest : ℕ × ℕ → List (Leaf × ℕ)
    rest root = filter (λ (x : Leaf × ℕ). is_on_root root x.0) (zip ls ds)

    here : (b : Bool) → b ≡ true → AllByRecursion (λ n. n < degree f l.rank l.index) (map (λ (x : Leaf × ℕ). x.1) (cond b ((l, d) ∷ rest (root_at l)) (rest (root_at l)))) → d < degree f l.rank l.index
    here true e a = a.0
    here false e a = absurd (cc e)

    later : (root : ℕ × ℕ) (b : Bool) → AllByRecursion (λ n. n < degree f root.0 root.1) (map (λ (x : Leaf × ℕ). x.1) (cond b ((l, d) ∷ rest root) (rest root))) → AllByRecursion (λ n. n < degree f root.0 root.1) (map (λ (x : Leaf × ℕ). x.1) (rest root))
    later root true a = a.1
    later root false a = a

-- the same of all ranks
pairs-of-all : (f : Forest) (lss : List (List Leaf)) (dss : List (List ℕ)) → ((root : ℕ × ℕ) → AllByRecursion (λ n. n < degree f root.0 root.1) (flat_map (own_drawn_at root) (zip lss dss))) → AllByRecursion (λ r. AllByRecursion (IsDrawn f) (zip r.0 r.1)) (zip lss dss)
pairs-of-all f lss dss h = go (zip lss dss) (λ root. all_in_flat_map (λ n. n < degree f root.0 root.1) (own_drawn_at root) (zip lss dss) (h root))
  where
    go : (rs : List (List Leaf × List ℕ)) → ((root : ℕ × ℕ) → AllByRecursion (λ r. AllByRecursion (λ n. n < degree f root.0 root.1) (own_drawn_at root r)) rs) → AllByRecursion (λ r. AllByRecursion (IsDrawn f) (zip r.0 r.1)) rs
    go [] k = tt
    go (r ∷ rs) k = (pairs-of-rank f r.0 r.1 (λ root. (k root).0), go rs (λ root. (k root).1))

pub pairs-drawn : (f : Forest) (drawn : List (List ℕ)) → AreDraws f drawn → AllByRecursion (λ r. AllByRecursion (IsDrawn f) (zip r.0 r.1)) (zip f.leaves drawn)
unfolding drawn_at
pairs-drawn f drawn d = pairs-of-all f f.leaves drawn (λ root. d.within root.0 root.1)

-- as many leaves of a rank on a slot as leaves of its root that drew its place
on-slot-rank : (f : Forest) (rank index n : ℕ) → n < degree f rank index → (ls : List Leaf) (ds : List ℕ) → AllByRecursion (IsDrawn f) (zip ls ds) → count_by (is_on_root (rank, first_slot f rank index + n)) (slot_leaves f ls ds) ≡ count_by (λ d. d == n) (own_drawn_at (rank, index) (ls, ds))
on-slot-rank f rank index n low [] ds h = refl
on-slot-rank f rank index n low (l ∷ ls) [] h = refl
on-slot-rank f rank index n low (l ∷ ls) (d ∷ ds) h =
    let c = count-cons (is_on_root (rank, first_slot f rank index + n)) (slot_leaf f (l, d)) (slot_leaves f ls ds) in
    c ∙ ((λ i. one_if (on_slot f rank index n d l low h.0 i) + on-slot-rank f rank index n low ls ds h.1 i) ∙ go (is_on_root (rank, index) l))
  where
    rest : List (Leaf × ℕ)
    rest = filter (λ (x : Leaf × ℕ). is_on_root (rank, index) x.0) (zip ls ds)

    go : (b : Bool) → one_if (b && (d == n)) + count_by (λ e. e == n) (map (λ (x : Leaf × ℕ). x.1) rest) ≡ count_by (λ e. e == n) (map (λ (x : Leaf × ℕ). x.1) (cond b ((l, d) ∷ rest) rest))
    go true = sym (count-cons (λ e. e == n) d (map (λ (x : Leaf × ℕ). x.1) rest))
    go false = omega arith

-- the same of all ranks
on-slot-all : (f : Forest) (rank index n : ℕ) → n < degree f rank index → (rs : List (List Leaf × List ℕ)) → AllByRecursion (λ r. AllByRecursion (IsDrawn f) (zip r.0 r.1)) rs → sum_by (count_by (is_on_root (rank, first_slot f rank index + n))) (map (λ r. slot_leaves f r.0 r.1) rs) ≡ count_by (λ d. d == n) (flat_map (own_drawn_at (rank, index)) rs)
on-slot-all f rank index n low [] h = refl
on-slot-all f rank index n low (r ∷ rs) h =
    sum_by-cons (count_by (is_on_root (rank, first_slot f rank index + n))) (slot_leaves f r.0 r.1) (map (λ x. slot_leaves f x.0 x.1) rs)
    ∙ ((λ i. on-slot-rank f rank index n low r.0 r.1 h.0 i + on-slot-all f rank index n low rs h.1 i) ∙ sym (count-append (λ d. d == n) (own_drawn_at (rank, index) r) (flat_map (own_drawn_at (rank, index)) rs)))

-- how many slots a rank has
pub slots-of-rank : (f : Forest) (rank : ℕ) → get_or (slot_counts f) rank 0 ≡ first_slot f rank (roots_on f rank)
unfolding slot_counts
slots-of-rank f rank = go 0 f.roots rank ∙ ap (λ n. first_slot f n (roots_on f rank)) zeros
  where
    zeros : 0 + rank ≡ rank
    zeros = omega arith

    go : (n : ℕ) (ms : List ℕ) (k : ℕ) → get_or (map (λ r. first_slot f r.0 r.1) (enumerate_from n ms)) k 0 ≡ first_slot f (n + k) (get_or ms k 0)
    go n [] k = sym (first_slot-none f (n + k))
    go n (m ∷ ms) zero = ap (λ r. first_slot f r m) (omega arith)
    go n (m ∷ ms) (suc k) = go (n + 1) ms k ∙ ap (λ r. first_slot f r (get_or ms k 0)) (omega arith)

-- each slot has one leaf
pub lone-leaves : (f : Forest) (drawn : List (List ℕ)) → AreDraws f drawn → HasLoneLeaves (slotted f drawn)
unfolding slotted drawn_at degree
lone-leaves f drawn d rank slot h =
    let place = slot_of f rank (roots_on f rank) slot (subst (λ n. slot < n) (slots-of-rank f rank) h) in
    ap (λ (s : ℕ). sum_by (count_by (is_on_root (rank, s))) (map (λ r. slot_leaves f r.0 r.1) (zip f.leaves drawn))) place.is
    ∙ (on-slot-all f rank place.index place.n place.drawn (zip f.leaves drawn) (pairs-drawn f drawn d) ∙ d.each_once rank place.index place.n place.drawn)
