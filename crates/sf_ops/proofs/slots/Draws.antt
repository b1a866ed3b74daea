-- A legal round of Sums of 1 on words that are 0 draws slots, and it may be asked.
use Rattle.std.proofs.Common.{◌≡◌, ℕ, zero, suc, ◌+◌, ◌<◌, ◌≤◌, Bool, true, false, ◌&&◌, ◌==◌, List, [], ◌∷◌, ◌++◌, length, map, get_or, sum, sum_by, count_by, replicate, arith, refl, ap, sym, subst, ◌∙◌, ⊎_elim}
use Rattle.std.specs.List.{AllByRecursion}
use Rattle.std.proofs.lemmas.Bool.{cases_lt, eqb-true, ltb-true}
use Rattle.std.proofs.lemmas.List.{length-append, length-map, length-replicate}
use Rattle.std.proofs.lemmas.List.Sums.{sum_by-cons, sum_by-le-sum_by, count_by-le-length, length-filter}
use Rattle.plain_lists.proofs.Each.{all_weaker, all_from, all_filter}
use Rattle.plain_lists.proofs.Filters.{filter_whole, count_nothing}
use Rattle.sf_defs.specs.declared.Leaf.{Leaf}
use Rattle.sf_defs.specs.declared.Op.{Op}
use Rattle.sf_defs.specs.declared.Op.TheVariants.{Load, Sum, Replace}
use Rattle.sf_defs.specs.declared.Ask.{Ask}
use Rattle.sf_defs.specs.Asks.{on_word, word_after}
use Rattle.sf_defs.specs.PrintedOrder.{kind_of}
use Rattle.sf_defs.specs.Rounds.{Round, IsLegal, entries, asks_on, all_asks, added, same_op}
use Rattle.sf_defs.specs.Forest.{Forest, IsForest, degree, has_root, is_on_root}
use Rattle.sf_graph.specs.Parts.{IsForRanks}
use Rattle.round_laws.specs.LastValues.{took}
use Rattle.round_laws.proofs.LastValues.{legal-last}
use Rattle.round_laws.proofs.Sums.{legal-sums}
use Rattle.sf_defs.specs.slots.Slots.{AreDraws, drawn_at}
use Rattle.sf_ops.specs.Asked.{first_word, ask_of, own_asks, asks_of, words_of, MayAsk}
use Rattle.std.proofs.Math.Seq.{get_or-append_seam}
use Rattle.std.proofs.Math.ListN.{get_or-append}
use Rattle.std.specs.declared.vec.Vec.{Vec}
use Rattle.std.specs.declared.alloc.Global.{Global}
use Rattle.plain_lists.specs.Vectors.{lists_of}
use Rattle.sf_ops.proofs.Words.{first_word-within, length-words_of, lists_of-push, length-lists_of}
use Rattle.sf_ops.proofs.Conditions.{leaves_have_roots}
use Rattle.sf_ops.specs.slots.Ones.{AreOnes, AddsOne}
use Rattle.sf_ops.proofs.slots.Counted.{one_if, count-cons, all-below}
use Rattle.sf_ops.proofs.slots.Drawn.{Rooted, asks_from, asks-as, asks-count, asks-ones, OnesFrom, ones-kind, ones-after, took-all, drawn-length}

-- ---- words that are 0

-- a list of zeros for each number
abbrev pub zeros_for : List ℕ → List (List ℕ)
zeros_for ns = map (λ n. replicate n 0) ns

pub zeros-shape : (ns : List ℕ) → map length (zeros_for ns) ≡ ns
zeros-shape [] = refl
zeros-shape (n ∷ ns) = λ i. length-replicate {A = ℕ} n 0 i ∷ zeros-shape ns i

pub zero-words : (ns : List ℕ) (w : ℕ) → get_or (words_of (zeros_for ns)) w 0 ≡ 0
zero-words [] w = refl
zero-words (n ∷ ns) w = zeros-before n (words_of (zeros_for ns)) (zero-words ns) w
  where
    zeros-before : (n : ℕ) (ys : List ℕ) → ((v : ℕ) → get_or ys v 0 ≡ 0) → (w : ℕ) → get_or (replicate n 0 ++ ys) w 0 ≡ 0
    zeros-before zero ys h w = h w
    zeros-before (suc n) ys h zero = refl
    zeros-before (suc n) ys h (suc w) = zeros-before n ys h w

pub zero-words-length : (ns : List ℕ) → length (words_of (zeros_for ns)) ≡ sum ns
zero-words-length ns = length-words_of (zeros_for ns) ∙ ap sum (zeros-shape ns)

-- ---- ones at leaves

pub ones-from : (values : List (List ℕ)) (n : ℕ) (lss : List (List Leaf)) → ((k : ℕ) → k < length lss → AreOnes (get_or values (n + k) []) (get_or lss k [])) → OnesFrom values n lss
ones-from values n [] h = tt
ones-from values n (ls ∷ lss) h = (
  subst (λ m. AreOnes (get_or values m []) ls) (let e : n + 0 ≡ n = omega arith in e) (h 0 (omega arith)),
  ones-from values (n + 1) lss (λ k within. subst (λ m. AreOnes (get_or values m []) (get_or lss k [])) (let e : n + suc k ≡ n + 1 + k = omega arith in e) (h (suc k) (omega arith))),
)

abbrev ones_of : ℕ → List ℕ
ones_of n = replicate n 1

-- one rank's ones more
pub ones-more : (values : List (Vec ℕ Global)) (own : Vec ℕ Global) (lss : List (List Leaf)) (n reach : ℕ) → length values ≡ n → own.items ≡ ones_of reach → AllByRecursion (λ (l : Leaf). l.local < reach) (get_or lss n []) → ((k : ℕ) → k < n → AreOnes (get_or (lists_of values) k []) (get_or lss k [])) → (k : ℕ) → k < n + 1 → AreOnes (get_or (lists_of (values ++ own ∷ [])) k []) (get_or lss k [])
ones-more values own lss n reach size is reaches so_far k h = subst (λ (vs : List (List ℕ)). AreOnes (get_or vs k []) (get_or lss k [])) (sym (lists_of-push values own)) (⊎_elim
    (λ lt. subst (λ (v : List ℕ). AreOnes v (get_or lss k [])) (sym (get_or-append (lists_of values) (own.items ∷ []) [] k (subst (λ m. k < m) (sym (length-lists_of values ∙ size)) lt))) (so_far k lt))
    (λ ge.
    let here : length (lists_of values) ≡ k = length-lists_of values ∙ (size ∙ omega arith) in
    subst (λ (v : List ℕ). AreOnes v (get_or lss k [])) (sym (ap (λ m. get_or (lists_of values ++ own.items ∷ []) m []) (sym here) ∙ (get_or-append_seam (lists_of values) own.items [] [] ∙ is)))
    (all_weaker (λ (l : Leaf). l.local < reach) (λ (l : Leaf). (l.local < length (ones_of reach)) × (get_or (ones_of reach) l.local 0 ≡ 1)) (λ l lt. (subst (λ m. l.local < m) (sym (length-replicate {A = ℕ} reach 1)) lt, one-at reach l.local lt)) (get_or lss k []) (subst (λ m. AllByRecursion (λ (l : Leaf). l.local < reach) (get_or lss m [])) (let e : n ≡ k = omega arith in e) reaches)))
    (cases_lt k n))
  where
    one-at : (m i : ℕ) → i < m → get_or (ones_of m) i 0 ≡ 1
    one-at zero i h = absurd (omega arith)
    one-at (suc m) zero h = refl
    one-at (suc m) (suc i) h = one-at m i (omega arith)

-- ---- asking

-- all ask for 1
all-ones : (f : Forest) (values : List (List ℕ)) → OnesFrom values 0 f.leaves → AllByRecursion AddsOne (all_asks (asks_of f Sum values))
all-ones f values ones =
    let all : List Ask = all_asks (asks_from f.roots Sum values 0 f.leaves) in
    subst (λ asks. AllByRecursion AddsOne (all_asks asks)) (sym (asks-as f Sum values)) (subst (AllByRecursion AddsOne) (filter_whole (λ (a : Ask). true) all (all_from (λ (a : Ask). true ≡ true) (λ a. refl) all)) (asks-ones f.roots values (λ a. true) 0 f.leaves ones))

-- as many asks as leaves
all-length : (roots : List ℕ) (op : Op) (values : List (List ℕ)) (n : ℕ) (lss : List (List Leaf)) → length (all_asks (asks_from roots op values n lss)) ≡ sum_by length lss
all-length roots op values n [] = refl
all-length roots op values n (ls ∷ lss) =
    let a = length-append (own_asks roots op (get_or values n []) ls) (all_asks (asks_from roots op values (n + 1) lss)) in
    let b = length-map ls (ask_of roots op (get_or values n [])) in
    let c = sum_by-cons length ls lss in
    let r = all-length roots op values (n + 1) lss in
    omega arith

-- ones add up to their number
pub ones-added : (asks : List Ask) → AllByRecursion AddsOne asks → sum_by added asks ≡ length asks
ones-added [] h = refl
ones-added (a ∷ asks) h =
    let one : added a ≡ 1 = ap (λ (op : Op). added record { word = a.word; op = op; value = a.value }) h.0.0 ∙ h.0.1 in
    let c = sum_by-cons added a asks in
    let r = ones-added asks h.1 in
    omega arith

-- Sums of 1 on words that are 0 may be asked
pub ones-may : (f : Forest) (values : List (List ℕ)) → IsForRanks f → OnesFrom values 0 f.leaves → MayAsk f Sum values (zeros_for f.roots)
ones-may f values ranks ones = record {
  plain_loads = all_weaker AddsOne (λ (a : Ask). a.op ≡ Load → a.value ≡ 0) (λ a one load. absurd (apart (sym one.0 ∙ load))) (all_asks (asks_of f Sum values)) all;
  one_replace = λ w h. let none : count_by (λ (a : Ask). same_op a.op Replace) (asks_on w (asks_of f Sum values)) ≡ 0 = count_nothing (λ (a : Ask). same_op a.op Replace) (asks_on w (asks_of f Sum values)) (all_weaker AddsOne (λ (a : Ask). same_op a.op Replace ≡ false) (λ a one. ap (λ (op : Op). same_op op Replace) one.0) (asks_on w (asks_of f Sum values)) (on w)) in omega arith;
  sums_fit = λ w h.
      let zero_word = zero-words f.roots w in
      let sums = ones-added (asks_on w (asks_of f Sum values)) (on w) in
      let some = length-filter (λ (a : Ask). a.word == w) (all_asks (asks_of f Sum values)) in
      let fewer = count_by-le-length (λ (a : Ask). a.word == w) (all_asks (asks_of f Sum values)) in
      let count = ap (λ asks. length (all_asks asks)) (asks-as f Sum values) ∙ all-length f.roots Sum values 0 f.leaves in
      let few = ranks.few_leaves in
      omega arith;
}
  where
    apart : Sum ≡ Load → ⊥
    apart e = cc e

    all : AllByRecursion AddsOne (all_asks (asks_of f Sum values))
    all = all-ones f values ones

    on : (w : ℕ) → AllByRecursion AddsOne (asks_on w (asks_of f Sum values))
    on w = all_filter AddsOne (λ (a : Ask). a.word == w) (all_asks (asks_of f Sum values)) all

-- ---- drawing

-- as many asks of each rank as leaves
asks-shape : (roots : List ℕ) (op : Op) (values : List (List ℕ)) (n : ℕ) (lss : List (List Leaf)) → map length (asks_from roots op values n lss) ≡ map length lss
asks-shape roots op values n [] = refl
asks-shape roots op values n (ls ∷ lss) = λ i. length-map ls (ask_of roots op (get_or values n [])) i ∷ asks-shape roots op values (n + 1) lss i

-- a root with a leaf is there
pub rank_of_root : (roots : List ℕ) (rank index : ℕ) → index < get_or roots rank 0 → rank < length roots
rank_of_root [] rank index h = absurd (omega arith)
rank_of_root (n ∷ ns) zero index h = omega arith
rank_of_root (n ∷ ns) (suc rank) index h = let r = rank_of_root ns rank index h in omega arith

root_of_own : (roots : List ℕ) (rank index : ℕ) (ls : List Leaf) → AllByRecursion (λ l. has_root roots l ≡ true) ls → 0 < count_by (is_on_root (rank, index)) ls → index < get_or roots rank 0
root_of_own roots rank index [] has some = absurd (omega arith)
root_of_own roots rank index (l ∷ ls) has some = let c = count-cons (is_on_root (rank, index)) l ls in go (l.rank == rank) refl (l.index == index) refl (root_of_own roots rank index ls has.1) (omega arith)
  where
    go : (b : Bool) → (l.rank == rank) ≡ b → (d : Bool) → (l.index == index) ≡ d → (0 < count_by (is_on_root (rank, index)) ls → index < get_or roots rank 0) → 0 < one_if (l.rank == rank && l.index == index) + count_by (is_on_root (rank, index)) ls → index < get_or roots rank 0
    go true e true i r h = subst (λ (x : ℕ × ℕ). x.1 < get_or roots x.0 0) (λ j. (eqb-true l.rank rank e j, eqb-true l.index index i j)) (ltb-true l.index (get_or roots l.rank 0) has.0)
    go true e false i r h = r (let none : one_if (l.rank == rank && l.index == index) ≡ 0 = (λ j. one_if (e j && i j)) in omega arith)
    go false e d i r h = r (let none : one_if (l.rank == rank && l.index == index) ≡ 0 = (λ j. one_if (e j && (l.index == index))) in omega arith)

root_of_all : (roots : List ℕ) (rank index : ℕ) (lss : List (List Leaf)) → Rooted roots lss → 0 < sum_by (count_by (is_on_root (rank, index))) lss → index < get_or roots rank 0
root_of_all roots rank index [] has some = absurd (omega arith)
root_of_all roots rank index (ls ∷ lss) has some = let c = sum_by-cons (count_by (is_on_root (rank, index))) ls lss in ⊎_elim
    (λ own. root_of_own roots rank index ls has.0 own)
    (λ none. root_of_all roots rank index lss has.1 (omega arith))
    (cases_lt 0 (count_by (is_on_root (rank, index)) ls))

-- in a legal round of Sums of 1 on words that are 0 the leaves draw slots
pub draws : (r : Round) (f : Forest) (values : List (List ℕ)) → IsLegal r → IsForest f → IsForRanks f → OnesFrom values 0 f.leaves → r.before ≡ words_of (zeros_for f.roots) → r.asks ≡ asks_of f Sum values → AreDraws f r.got
unfolding degree drawn_at
draws r f values legal right ranks ones before asks = record {
  shape = shape;
  within = λ rank index. all-below (degree f rank index) (drawn_at f r.got (rank, index)) (drawn-length (rank, index) f.leaves r.got shape) (once rank index);
  each_once = once;
}
  where
    rooted : Rooted f.roots f.leaves
    rooted = leaves_have_roots f right

    asked : r.asks ≡ asks_from f.roots Sum values 0 f.leaves
    asked = asks ∙ asks-as f Sum values

    shape : map length r.got ≡ map length f.leaves
    shape = legal.fetched ∙ (ap (map length) asked ∙ asks-shape f.roots Sum values 0 f.leaves)

    once : (rank index n : ℕ) → n < degree f rank index → count_by (λ d. d == n) (drawn_at f r.got (rank, index)) ≡ 1
    once rank index n h =
        let in-roots = root_of_all f.roots rank index f.leaves rooted (omega arith) in
        let in-ranks = rank_of_root f.roots rank index in-roots in
        let w : ℕ = first_word f.roots rank + index in
        let words : length r.before ≡ sum f.roots = ap length before ∙ zero-words-length f.roots in
        let inside = first_word-within f.roots rank in-ranks in
        let within : w < length r.before = omega arith in
        let on : List Ask = asks_on w (asks_from f.roots Sum values 0 f.leaves) in
        let count : length on ≡ degree f rank index = asks-count f.roots Sum values rank index in-ranks in-roots 0 f.leaves rooted in
        let all = asks-ones f.roots values (λ (a : Ask). a.word == w) 0 f.leaves ones in
        let first : get_or r.before w 0 ≡ 0 = ap (λ ws. get_or ws w 0) before ∙ zero-words f.roots w in
        let few : degree f rank index ≤ sum_by length f.leaves = sum_by-le-sum_by (count_by (is_on_root (rank, index))) length f.leaves (count_by-le-length (is_on_root (rank, index))) in
        let low = ranks.few_leaves in
        let last : get_or r.after w 0 ≡ degree f rank index = legal-last r legal w within ∙ ((λ i. word_after (first i) (asks_on w (asked i))) ∙ (ones-after 0 on all (omega arith) ∙ omega arith)) in
        let kind = ap (λ (those : List (List Ask)). kind_of (asks_on w those)) asked ∙ ones-kind on (omega arith) all in
        let one = legal-sums r legal w n within kind (omega arith) (omega arith) in
        let same = took-all f.roots values rank index n in-ranks in-roots 0 f.leaves r.got rooted ones shape in
        sym same ∙ (ap (λ (those : List (List Ask)). count_by (took n) (on_word w (entries those r.got))) (sym asked) ∙ one)
