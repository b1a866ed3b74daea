-- What a reduction by Replace leaves at roots that have one leaf each.
use Rattle.std.proofs.Common.{◌≡◌, ℕ, zero, suc, ◌+◌, ◌-◌, ◌<◌, Bool, true, false, cond, ◌==◌, List, [], ◌∷◌, ◌++◌, length, map, get_or, take, drop, sum, sum_by, Option, Some, option_map, arith, refl, ap, sym, subst, ◌∙◌, ⊎_elim}
use Rattle.std.specs.Prelude.{filter, find}
use Rattle.std.specs.List.{AllByRecursion, enumerate_from}
use Rattle.std.proofs.lemmas.Bool.{cases_lt}
use Rattle.std.proofs.lemmas.List.Elements.{filter-append}
use Rattle.std.proofs.lemmas.List.Sums.{sum_by-cons, count_by-le-length}
use Rattle.plain_lists.specs.Lists.{below}
use Rattle.plain_lists.proofs.Each.{all_append, all_from, all_weaker}
use Rattle.sf_defs.specs.declared.Leaf.{Leaf}
use Rattle.sf_defs.specs.declared.Op.{Op}
use Rattle.sf_defs.specs.declared.Op.TheVariants.{Load, Replace}
use Rattle.sf_defs.specs.declared.Ask.{Ask}
use Rattle.sf_defs.specs.Asks.{step, word_after}
use Rattle.sf_defs.specs.Rounds.{asks_on, all_asks, added, same_op}
use Rattle.sf_defs.specs.Forest.{Forest, IsForest, degree, first_some, has_root, is_on_root, leaf_of, or_else, roots_on}
use Rattle.sf_defs.specs.slots.Slots.{HasLoneLeaves}
use Rattle.std.proofs.lemmas.Grind.{common_steps}
use Rattle.std.proofs.Math.Seq.{take-append_seam}
use Rattle.std.proofs.lemmas.List.{length-map}
use Rattle.plain_lists.proofs.Below.{length-below, get_or-map-below}
use Rattle.plain_lists.proofs.Filters.{filter_whole}
use Rattle.sf_ops.specs.Folds.{AreFolds}
use Rattle.sf_ops.proofs.Words.{first_word-within}
use Rattle.sf_ops.proofs.Conditions.{leaves_have_roots}
use Rattle.sf_ops.specs.slots.Gathered.{gathered}
use Rattle.sf_ops.proofs.slots.Draws.{zeros_for, zero-words, zero-words-length}
use Rattle.sf_ops.proofs.slots.Listing.{numbered-at}
use Rattle.sf_ops.specs.Asked.{first_word, word_of, ask_of, own_asks, asks_of, words_of, AreRootValues, MayAsk}
use Rattle.sf_ops.specs.Copies.{value_or}
use Rattle.sf_ops.proofs.slots.Drawn.{Rooted, asks_from, asks-as, asks-count, asks_there}

-- the value of the first ask, 0 where there is none
abbrev pub first_value : List Ask → ℕ
first_value [] = 0
first_value (a ∷ asks) = a.value

-- the first leaf of a numbered rank on a root
abbrev first_of : ℕ → ℕ → ℕ × List Leaf → Option (ℕ × ℕ)
first_of to index r = option_map (λ (l : Leaf). (r.0, l.local)) (find (is_on_root (to, index)) r.1)

-- the first ask on the word of a root has the value of its first leaf
value-of-rank : (roots : List ℕ) (values : List (List ℕ)) (to index by : ℕ) → to < length roots → index < get_or roots to 0 → (ls : List Leaf) → AllByRecursion (λ l. has_root roots l ≡ true) ls → (later : List Ask) (other : Option (ℕ × ℕ)) → first_value later ≡ value_or values 0 other
    → first_value (filter (λ (a : Ask). a.word == first_word roots to + index) (own_asks roots Replace (get_or values by []) ls) ++ later) ≡ value_or values 0 (or_else (first_of to index (by, ls)) other)
value-of-rank roots values to index by in-ranks in-roots [] has later other e = e
value-of-rank roots values to index by in-ranks in-roots (l ∷ ls) has later other e = go (word_of roots l == first_word roots to + index) (is_on_root (to, index) l) (asks_there roots l to index has.0 in-ranks in-roots) (value-of-rank roots values to index by in-ranks in-roots ls has.1 later other e)
  where
    rest : List Ask
    rest = filter (λ (a : Ask). a.word == first_word roots to + index) (own_asks roots Replace (get_or values by []) ls)

    named : Leaf → ℕ × ℕ
    named x = (by, x.local)

    go : (b c : Bool) → b ≡ c → first_value (rest ++ later) ≡ value_or values 0 (or_else (option_map named (find (is_on_root (to, index)) ls)) other)
        → first_value (cond b (ask_of roots Replace (get_or values by []) l ∷ rest) rest ++ later) ≡ value_or values 0 (or_else (option_map named (cond c (Some l) (find (is_on_root (to, index)) ls))) other)
    go true true h r = refl
    go false false h r = r
    go true false h r = absurd (cc h)
    go false true h r = absurd (cc h)

value-of-all : (roots : List ℕ) (values : List (List ℕ)) (to index : ℕ) → to < length roots → index < get_or roots to 0 → (n : ℕ) (lss : List (List Leaf)) → Rooted roots lss → first_value (asks_on (first_word roots to + index) (asks_from roots Replace values n lss)) ≡ value_or values 0 (first_some (first_of to index) (enumerate_from n lss))
value-of-all roots values to index in-ranks in-roots n [] has = refl
value-of-all roots values to index in-ranks in-roots n (ls ∷ lss) has =
    ap first_value (filter-append (λ (a : Ask). a.word == first_word roots to + index) (own_asks roots Replace (get_or values n []) ls) (all_asks (asks_from roots Replace values (n + 1) lss)))
    ∙ value-of-rank roots values to index n in-ranks in-roots ls has.0 (asks_on (first_word roots to + index) (asks_from roots Replace values (n + 1) lss)) (first_some (first_of to index) (enumerate_from (n + 1) lss)) (value-of-all roots values to index in-ranks in-roots (n + 1) lss has.1)

pub value-of-leaf : (m : Forest) (values : List (List ℕ)) (to index : ℕ) → to < length m.roots → index < roots_on m to → Rooted m.roots m.leaves → first_value (asks_on (first_word m.roots to + index) (asks_from m.roots Replace values 0 m.leaves)) ≡ value_or values 0 (leaf_of m to index)
unfolding leaf_of
value-of-leaf m values to index in-ranks in-roots has = value-of-all m.roots values to index in-ranks in-roots 0 m.leaves has

-- all asks replace
own-replace : (roots values : List ℕ) (p : Ask → Bool) (ls : List Leaf) → AllByRecursion (λ (a : Ask). a.op ≡ Replace) (filter p (own_asks roots Replace values ls))
own-replace roots values p [] = tt
own-replace roots values p (l ∷ ls) = go (p (ask_of roots Replace values l)) (own-replace roots values p ls)
  where
    rest : List Ask
    rest = filter p (own_asks roots Replace values ls)

    go : (b : Bool) → AllByRecursion (λ (a : Ask). a.op ≡ Replace) rest → AllByRecursion (λ (a : Ask). a.op ≡ Replace) (cond b (ask_of roots Replace values l ∷ rest) rest)
    go true r = (refl, r)
    go false r = r

pub all-replace : (roots : List ℕ) (values : List (List ℕ)) (p : Ask → Bool) (n : ℕ) (lss : List (List Leaf)) → AllByRecursion (λ (a : Ask). a.op ≡ Replace) (filter p (all_asks (asks_from roots Replace values n lss)))
all-replace roots values p n [] = tt
all-replace roots values p n (ls ∷ lss) = subst (AllByRecursion (λ (a : Ask). a.op ≡ Replace)) (sym (filter-append p (own_asks roots Replace (get_or values n []) ls) (all_asks (asks_from roots Replace values (n + 1) lss))))
    (all_append (λ (a : Ask). a.op ≡ Replace) (filter p (own_asks roots Replace (get_or values n []) ls)) (filter p (all_asks (asks_from roots Replace values (n + 1) lss))) (own-replace roots (get_or values n []) p ls) (all-replace roots values p (n + 1) lss))

-- one that replaces leaves its value
pub one-replaces : (asks : List Ask) → length asks ≡ 1 → AllByRecursion (λ (a : Ask). a.op ≡ Replace) asks → word_after 0 asks ≡ first_value asks
unfolding step
one-replaces [] size h = absurd (omega arith)
one-replaces (a ∷ []) size h = ap (λ (op : Op). step op a.value 0) h.0
one-replaces (a ∷ b ∷ asks) size h = absurd (omega arith)

-- it adds nothing
pub replaces-add : (asks : List Ask) → AllByRecursion (λ (a : Ask). a.op ≡ Replace) asks → sum_by added asks ≡ 0
replaces-add [] h = refl
replaces-add (a ∷ asks) h =
    let none : added a ≡ 0 = ap (λ (op : Op). added record { word = a.word; op = op; value = a.value }) h.0 in
    let c = sum_by-cons added a asks in
    let r = replaces-add asks h.1 in
    omega arith

-- ---- words of roots

-- a word is that of some root
pub record IsWordOf (roots : List ℕ) (w : ℕ) : Type 0 where
  pub rank : ℕ
  pub index : ℕ
  pub in_ranks : rank < length roots
  pub in_roots : index < get_or roots rank 0
  pub is : w ≡ first_word roots rank + index

pub word_root : (roots : List ℕ) (w : ℕ) → w < sum roots → IsWordOf roots w
word_root [] w h = absurd (omega arith)
word_root (n ∷ ns) w h =
    let cons : sum (n ∷ ns) ≡ n + sum ns = sum_by-cons (λ (x : ℕ). x) n ns in
    ⊎_elim
    (λ lt. record { rank = 0; index = w; in_ranks = omega arith; in_roots = lt; is = let e : w ≡ 0 + w = omega arith in e })
    (λ ge.
    let r = word_root ns (w - n) (omega arith) in
    let inside = r.in_ranks in
    record {
      rank = suc r.rank;
      index = r.index;
      in_ranks = omega arith;
      in_roots = r.in_roots;
      is = let there = r.is in let first : first_word (n ∷ ns) (suc r.rank) ≡ n + first_word ns r.rank = sum_by-cons (λ (x : ℕ). x) n (take r.rank ns) in omega arith;
    })
    (cases_lt w n)

-- ---- gathering

-- the asks of a forest whose roots have one leaf each may be asked
pub gathers-may : (m : Forest) (values : List (List ℕ)) → IsForest m → HasLoneLeaves m → MayAsk m Replace values (zeros_for m.roots)
unfolding degree
gathers-may m values right lone = record {
  plain_loads = all_weaker (λ (a : Ask). a.op ≡ Replace) (λ (a : Ask). a.op ≡ Load → a.value ≡ 0) (λ a is load. absurd (apart (sym is ∙ load))) (all_asks (asks_of m Replace values)) (subst (λ asks. AllByRecursion (λ (a : Ask). a.op ≡ Replace) (all_asks asks)) (sym (asks-as m Replace values)) (subst (AllByRecursion (λ (a : Ask). a.op ≡ Replace)) (filter_whole (λ (a : Ask). true) all (all_from (λ (a : Ask). true ≡ true) (λ a. refl) all)) (all-replace m.roots values (λ a. true) 0 m.leaves)));
  one_replace = λ w h. let one = lone-asks w (subst (λ n. w < n) (zero-words-length m.roots) h) in let fewer = count_by-le-length (λ (a : Ask). same_op a.op Replace) (asks_on w (asks_of m Replace values)) in omega arith;
  sums_fit = λ w h.
      let first = zero-words m.roots w in
      let none = replaces-add (asks_on w (asks_of m Replace values)) (subst (λ asks. AllByRecursion (λ (a : Ask). a.op ≡ Replace) (asks_on w asks)) (sym (asks-as m Replace values)) (all-replace m.roots values (λ (a : Ask). a.word == w) 0 m.leaves)) in
      omega arith;
}
  where
    apart : Replace ≡ Load → ⊥
    apart e = cc e

    all : List Ask
    all = all_asks (asks_from m.roots Replace values 0 m.leaves)

    lone-asks : (w : ℕ) → w < sum m.roots → length (asks_on w (asks_of m Replace values)) ≡ 1
    lone-asks w h =
        let r = word_root m.roots w h in
        ap (λ asks. length (asks_on w asks)) (asks-as m Replace values)
        ∙ (ap (λ v. length (asks_on v (asks_from m.roots Replace values 0 m.leaves))) r.is
        ∙ (asks-count m.roots Replace values r.rank r.index r.in_ranks r.in_roots 0 m.leaves (leaves_have_roots m right) ∙ lone r.rank r.index r.in_roots))

-- lists of one shape with the same entries are the same
same-list : (xs ys : List ℕ) → length xs ≡ length ys → ((i : ℕ) → i < length xs → get_or xs i 0 ≡ get_or ys i 0) → xs ≡ ys
same-list [] [] size e = refl
same-list [] (y ∷ ys) size e = absurd (omega arith)
same-list (x ∷ xs) [] size e = absurd (omega arith)
same-list (x ∷ xs) (y ∷ ys) size e = λ j. e 0 (omega arith) j ∷ same-list xs ys (omega arith) (λ i h. e (suc i) (omega arith)) j

same-lists : (xss yss : List (List ℕ)) → map length xss ≡ map length yss → ((r i : ℕ) → r < length xss → i < length (get_or xss r []) → get_or (get_or xss r []) i 0 ≡ get_or (get_or yss r []) i 0) → xss ≡ yss
same-lists [] [] size e = refl
same-lists [] (ys ∷ yss) size e = absurd (cc size)
same-lists (xs ∷ xss) [] size e = absurd (cc size)
same-lists (xs ∷ xss) (ys ∷ yss) size e = λ j. same-list xs ys (head_same (length xs) (length ys) (map length xss) (map length yss) size) (λ i h. e 0 i (omega arith) h) j ∷ same-lists xss yss (tail_same (length xs) (length ys) (map length xss) (map length yss) size) (λ r i h k. e (suc r) i (omega arith) k) j
  where
    head_same : (x y : ℕ) (xs ys : List ℕ) → x ∷ xs ≡ y ∷ ys → x ≡ y
    head_same x y xs ys e = cc e

    tail_same : (x y : ℕ) (xs ys : List ℕ) → x ∷ xs ≡ y ∷ ys → xs ≡ ys
    tail_same x y xs ys e = cc e

-- the word of a root has its value
word_value : (roots : List (List ℕ)) (rank index : ℕ) → index < length (get_or roots rank []) → get_or (words_of roots) (first_word (map length roots) rank + index) 0 ≡ get_or (get_or roots rank []) index 0
word_value [] rank index h = absurd (omega arith)
word_value (v ∷ vs) zero index h = in_first v (words_of vs) index h
  where
    in_first : (xs ys : List ℕ) (i : ℕ) → i < length xs → get_or (xs ++ ys) (0 + i) 0 ≡ get_or xs i 0
    in_first xs ys i h = grind (arith, common_steps)
word_value (v ∷ vs) (suc rank) index h = ap (λ (n : ℕ). get_or (v ++ words_of vs) (n + index) 0) (sum_by-cons (λ (x : ℕ). x) (length v) (take rank (map length vs))) ∙ after v (words_of vs) (first_word (map length vs) rank) index ∙ word_value vs rank index h
  where
    after : (xs ys : List ℕ) (n i : ℕ) → get_or (xs ++ ys) (length xs + n + i) 0 ≡ get_or ys (n + i) 0
    after xs ys n i = grind (arith, common_steps)

pub gathered-shape : (m : Forest) (values : List (List ℕ)) → map length (gathered m values) ≡ m.roots
unfolding gathered
gathered-shape m values = go 0 m.roots
  where
    go : (n : ℕ) (ms : List ℕ) → map length (map (λ r. map (λ i. value_or values 0 (leaf_of m r.0 i)) (below r.1)) (enumerate_from n ms)) ≡ ms
    go n [] = refl
    go n (k ∷ ms) = λ j. (length-map (below k) (λ i. value_or values 0 (leaf_of m n i)) ∙ length-below k) j ∷ go (n + 1) ms j

pub gathered-at : (m : Forest) (values : List (List ℕ)) (rank index : ℕ) → rank < length m.roots → index < roots_on m rank → get_or (get_or (gathered m values) rank []) index 0 ≡ value_or values 0 (leaf_of m rank index)
unfolding gathered
gathered-at m values rank index in-ranks in-roots = ap (λ (l : List ℕ). get_or l index 0) (numbered-at (λ (r : ℕ × ℕ). map (λ i. value_or values 0 (leaf_of m r.0 i)) (below r.1)) 0 m.roots rank 0 [] in-ranks) ∙ (ap (λ n. get_or (map (λ i. value_or values 0 (leaf_of m n i)) (below (roots_on m rank))) index 0) zeros ∙ get_or-map-below (λ i. value_or values 0 (leaf_of m rank i)) (roots_on m rank) index 0 in-roots)
  where
    zeros : 0 + rank ≡ rank
    zeros = omega arith

-- what a reduction by Replace leaves is what is gathered
pub gathers : (m : Forest) (values slots before : List (List ℕ)) → IsForest m → HasLoneLeaves m → before ≡ zeros_for m.roots → AreRootValues m slots → AreFolds (asks_of m Replace values) (words_of before) (words_of slots) → slots ≡ gathered m values
unfolding degree
gathers m values slots before right lone is shape folds = same-lists slots (gathered m values) (shape ∙ sym (gathered-shape m values)) each
  where
    length_at : (xs : List (List ℕ)) (k : ℕ) → length (get_or xs k []) ≡ get_or (map length xs) k 0
    length_at [] k = refl
    length_at (x ∷ xs) zero = refl
    length_at (x ∷ xs) (suc k) = length_at xs k

    each : (r i : ℕ) → r < length slots → i < length (get_or slots r []) → get_or (get_or slots r []) i 0 ≡ get_or (get_or (gathered m values) r []) i 0
    each r i in-slots in-own =
        let in-ranks : r < length m.roots = subst (λ n. r < n) (sym (length-map slots length) ∙ ap length shape) in-slots in
        let in-roots : i < roots_on m r = subst (λ n. i < n) (length_at slots r ∙ ap (λ ns. get_or ns r 0) shape) in-own in
        let w : ℕ = first_word m.roots r + i in
        let inside = first_word-within m.roots r in-ranks in
        let words : length (words_of before) ≡ sum m.roots = ap (λ b. length (words_of b)) is ∙ zero-words-length m.roots in
        let rooted = leaves_have_roots m right in
        let on : List Ask = asks_on w (asks_from m.roots Replace values 0 m.leaves) in
        let one : length on ≡ 1 = asks-count m.roots Replace values r i in-ranks in-roots 0 m.leaves rooted ∙ lone r i in-roots in
        let first : get_or (words_of before) w 0 ≡ 0 = ap (λ b. get_or (words_of b) w 0) is ∙ zero-words m.roots w in
        sym (word_value slots r i in-own)
        ∙ (ap (λ ns. get_or (words_of slots) (first_word ns r + i) 0) shape
        ∙ (folds.words w (omega arith)
        ∙ ((λ j. word_after (first j) (asks_on w (asks-as m Replace values j)))
        ∙ (one-replaces on one (all-replace m.roots values (λ (a : Ask). a.word == w) 0 m.leaves)
        ∙ (value-of-leaf m values r i in-ranks in-roots rooted ∙ sym (gathered-at m values r i in-ranks in-roots))))))

-- a vector that was lent as a slice has what the slice has
pub written-back : {X : Type 0} (new old : List X) (n : ℕ) → length new ≡ length old → length old ≡ n → take n (new ++ drop (length new) old) ≡ new
written-back new old n same size = ap (λ m. take m (new ++ drop (length new) old)) (sym (same ∙ size)) ∙ take-append_seam new (drop (length new) old)
