-- Lists of each rank.
use Rattle.std.proofs.Common.{◌≡◌, ℕ, zero, suc, ◌+◌, ◌<◌, ◌≤◌, List, [], ◌∷◌, ◌++◌, length, map, get_or, take, drop, append-nil, refl, ap, sym, subst, ◌∙◌, ⊎_elim, arith}
use Rattle.std.specs.List.{AllByRecursion, enumerate_from}
use Rattle.std.specs.declared.vec.Vec.{Vec}
use Rattle.std.specs.declared.alloc.Global.{Global}
use Rattle.std.proofs.lemmas.Bool.{cases_lt}
use Rattle.std.proofs.lemmas.List.{length-map, map-append, get_or_append_left, get_or-append-add, take_all, drop_all}
use Rattle.std.proofs.Math.Seq.{take-suc}
use Rattle.plain_lists.specs.Vectors.{lists_of}
use Rattle.plain_lists.proofs.Each.{all_append}
use Rattle.sf_defs.specs.Forest.{Forest, roots_on}
use Rattle.sf_defs.specs.slots.Slots.{first_slot, slot_counts}
use Rattle.sf_ops.proofs.Words.{length-lists_of, lists_of-at, lists_of-push}
use Rattle.shared_forest.specs.sf_meet.SlotRoots.{AreLeast}
use Rattle.shared_forest.proofs.sf_meet.Places.{first_slot-none}

-- the first vectors and one more
take-next : {X : Type 0} (vs : List (Vec X Global)) (i : ℕ) (v : Vec X Global) → i < length vs → v ≡ get_or vs i v → lists_of (take (i + 1) vs) ≡ lists_of (take i vs) ++ v.items ∷ []
take-next vs i v low is = let next : i + 1 ≡ suc i = omega arith in ap (λ k. lists_of (take k vs)) next ∙ (ap lists_of (take-suc vs i v low) ∙ (lists_of-push (take i vs) (get_or vs i v) ∙ ap (λ (w : Vec _ Global). lists_of (take i vs) ++ w.items ∷ []) (sym is)))

-- what is made of each list grows by one
pub made-next : {X Y : Type 0} (h : List X → List Y) (vs : List (Vec X Global)) (i : ℕ) (v : Vec X Global) (done : List (Vec Y Global)) (own : Vec Y Global) → i < length vs → v ≡ get_or vs i v → lists_of done ≡ map h (lists_of (take i vs)) → own.items ≡ h v.items → lists_of (done ++ own ∷ []) ≡ map h (lists_of (take (i + 1) vs))
made-next h vs i v done own low is before same = lists_of-push done own ∙ ((λ j. before j ++ same j ∷ []) ∙ (sym (map-append h (lists_of (take i vs)) (v.items ∷ [])) ∙ ap (map h) (sym (take-next vs i v low is))))

-- and what each list has
pub all-next : {X : Type 0} (P : List X → Type 0) (vs : List (Vec X Global)) (i : ℕ) (v : Vec X Global) → i < length vs → v ≡ get_or vs i v → AllByRecursion P (lists_of (take i vs)) → P v.items → AllByRecursion P (lists_of (take (i + 1) vs))
all-next P vs i v low is before own = subst (AllByRecursion P) (sym (take-next vs i v low is)) (all_append P (lists_of (take i vs)) (v.items ∷ []) before (own, tt))

-- how many slots a rank has
pub slots-of-rank : (f : Forest) (rank : ℕ) → get_or (slot_counts f) rank 0 ≡ first_slot f rank (roots_on f rank)
unfolding slot_counts
slots-of-rank f rank = go 0 f.roots rank ∙ ap (λ n. first_slot f n (roots_on f rank)) zeros
  where
    zeros : 0 + rank ≡ rank
    zeros = omega arith

    go : (n : ℕ) (ms : List ℕ) (k : ℕ) → get_or (map (λ r. first_slot f r.0 r.1) (enumerate_from n ms)) k 0 ≡ first_slot f (n + k) (get_or ms k 0)
    go n [] k = sym (first_slot-none f (n + k))
    go n (m ∷ ms) zero = ap (λ r. first_slot f r m) (omega arith)
    go n (m ∷ ms) (suc k) = go (n + 1) ms k ∙ ap (λ r. first_slot f r (get_or ms k 0)) (omega arith)

pub counts-length : (f : Forest) → length (slot_counts f) ≡ length f.roots
unfolding slot_counts
counts-length f = go 0 f.roots
  where
    go : (n : ℕ) (ms : List ℕ) → length (map (λ r. first_slot f r.0 r.1) (enumerate_from n ms)) ≡ length ms
    go n [] = refl
    go n (m ∷ ms) = ap suc (go (n + 1) ms)

-- the length of one of some lists
pub length-at : {X : Type 0} (xs : List (List X)) (k : ℕ) → length (get_or xs k []) ≡ get_or (map length xs) k 0
length-at [] k = refl
length-at (x ∷ xs) zero = refl
length-at (x ∷ xs) (suc k) = length-at xs k

-- words for all slots: a list for each rank, with a word for each of its slots
pub ranks-have : (f : Forest) (vs : List (Vec ℕ Global)) → map length (lists_of vs) ≡ slot_counts f → length vs ≡ length f.roots
ranks-have f vs e = sym (length-lists_of vs) ∙ (sym (length-map (lists_of vs) length) ∙ (ap length e ∙ counts-length f))

pub list-at : (f : Forest) (vs : List (Vec ℕ Global)) (rank : ℕ) (v : Vec ℕ Global) → map length (lists_of vs) ≡ slot_counts f → rank < length f.roots → v ≡ get_or vs rank v → v.items ≡ get_or (lists_of vs) rank []
list-at f vs rank v e low is =
    let within : rank < length vs = subst (λ n. rank < n) (sym (ranks-have f vs e)) low in
    ap (λ (w : Vec ℕ Global). w.items) is ∙ sym (lists_of-at vs rank v within)

pub rank-has : (f : Forest) (vs : List (Vec ℕ Global)) (rank : ℕ) (v : Vec ℕ Global) → map length (lists_of vs) ≡ slot_counts f → rank < length f.roots → v ≡ get_or vs rank v → length v.items ≡ first_slot f rank (roots_on f rank)
rank-has f vs rank v e low is = ap length (list-at f vs rank v e low is) ∙ (length-at (lists_of vs) rank ∙ (ap (λ ns. get_or ns rank 0) e ∙ slots-of-rank f rank))

-- the least ids of one rank more
pub least-next : (f : Forest) (firsts seconds ids : List (List ℕ)) (done : List (Vec ℕ Global)) (own : Vec ℕ Global) (k : ℕ) → length done ≡ k
    → ((rank : ℕ) → rank < k → AreLeast f rank (get_or firsts rank []) (get_or seconds rank []) (get_or ids rank []) (get_or (lists_of done) rank []))
    → AreLeast f k (get_or firsts k []) (get_or seconds k []) (get_or ids k []) own.items
    → (rank : ℕ) → rank < k + 1 → AreLeast f rank (get_or firsts rank []) (get_or seconds rank []) (get_or ids rank []) (get_or (lists_of (done ++ own ∷ [])) rank [])
least-next f firsts seconds ids done own k count before last rank low = subst (λ xs. Least rank (get_or xs rank [])) (sym (lists_of-push done own)) (⊎_elim
    (λ (lt : rank < k). subst (Least rank) (sym (get_or_append_left (lists_of done) (own.items ∷ []) [] rank (let e = length-lists_of done in omega arith))) (before rank lt))
    (λ (ge : k ≤ rank).
    let here : k ≡ rank = omega arith in
    let place : length (lists_of done) + 0 ≡ k = (let e = length-lists_of done in omega arith) in
    let there : get_or (lists_of done ++ own.items ∷ []) k [] ≡ own.items = ap (λ j. get_or (lists_of done ++ own.items ∷ []) j []) (sym place) ∙ get_or-append-add (lists_of done) (own.items ∷ []) 0 [] in
    subst (λ r. Least r (get_or (lists_of done ++ own.items ∷ []) r [])) here (subst (Least k) (sym there) last))
    (cases_lt rank k))
  where
    Least : ℕ → List ℕ → Type 0
    Least r found = AreLeast f r (get_or firsts r []) (get_or seconds r []) (get_or ids r []) found

-- lists of the same lengths are as many
pub vectors-same : (vs ws : List (Vec ℕ Global)) → map length (lists_of vs) ≡ map length (lists_of ws) → length vs ≡ length ws
vectors-same vs ws e = sym (length-lists_of vs) ∙ (sym (length-map (lists_of vs) length) ∙ (ap length e ∙ (length-map (lists_of ws) length ∙ length-lists_of ws)))

-- what was lent and written back is what was written
pub written-back : {X : Type 0} (new old : List X) (n : ℕ) → length new ≡ length old → length old ≡ n → take n (new ++ drop (length new) old) ≡ new
written-back new old n same size = ap (λ k. take n (new ++ drop k old)) same ∙ (ap (λ rest. take n (new ++ rest)) (drop_all (length old) old (omega arith)) ∙ (ap (take n) (append-nil new) ∙ take_all n new (omega arith)))
