-- What leaves add to the word of a root.
use Rattle.std.proofs.Common.{◌≡◌, ℕ, zero, suc, ◌+◌, ◌-◌, ◌%◌, ◌^◌, ◌<◌, ◌≤◌, Bool, true, false, cond, ◌&&◌, ◌==◌, List, [], ◌∷◌, ◌++◌, length, map, get_or, take, sum, sum_by, arith, refl, ap, sym, subst, ◌∙◌, ⊎_elim, add-one}
use Rattle.std.specs.Prelude.{filter}
use Rattle.std.specs.List.{AllByRecursion, enumerate_from}
use Rattle.std.proofs.lemmas.Bool.{cases_lt, eq-eqb, eqb-true, ltb-true, and_parts}
use Rattle.std.proofs.lemmas.List.{get_or_append_left, get_or-append-add}
use Rattle.std.proofs.lemmas.List.Sums.{sum_by-cons, sum_by-append}
use Rattle.std.proofs.lemmas.List.Elements.{filter-append}
use Rattle.plain_lists.proofs.Finding.{same_tests}
use Rattle.plain_lists.proofs.Each.{all_append}
use Rattle.sf_defs.specs.declared.Leaf.{Leaf}
use Rattle.sf_defs.specs.declared.Op.{Op}
use Rattle.sf_defs.specs.declared.Op.TheVariants.{Sum}
use Rattle.sf_defs.specs.declared.Ask.{Ask}
use Rattle.sf_defs.specs.Asks.{step, word_after}
use Rattle.sf_defs.specs.Rounds.{added, all_asks, asks_on}
use Rattle.sf_defs.specs.Forest.{Forest, has_root, is_on_root}
use Rattle.sf_ops.specs.Asked.{first_word, word_of, ask_of, own_asks, asks_of, words_of}
use Rattle.sf_ops.proofs.Words.{first_word-more}
use Rattle.sf_ops.proofs.Conditions.{word-within}
use Rattle.sf_defs.specs.sums.Sums.{own_sum, word_at}

-- ---- words of roots

-- the words of a rank stand before those of any later one
first_word-before : (roots : List ℕ) (rank k : ℕ) → rank < k → k ≤ length roots → first_word roots rank + get_or roots rank 0 ≤ first_word roots k
first_word-before roots rank zero h le = absurd (omega arith)
first_word-before roots rank (suc k) h le =
    let more : first_word roots (suc k) ≡ first_word roots k + get_or roots k 0 = ap (first_word roots) (sym (add-one k)) ∙ first_word-more roots k (omega arith) in
    ⊎_elim
    (λ lt. let r = first_word-before roots rank k lt (omega arith) in omega arith)
    (λ ge. let same : k ≡ rank = omega arith in subst (λ i. first_word roots i + get_or roots i 0 ≤ first_word roots (suc k)) same (omega arith))
    (cases_lt rank k)

-- a word is that of one root
same_root : (roots : List ℕ) (i n j m : ℕ) → i < length roots → j < length roots → n < get_or roots i 0 → m < get_or roots j 0 → first_word roots i + n ≡ first_word roots j + m → (i ≡ j) × (n ≡ m)
same_root roots i n j m in-i in-j low high e = ⊎_elim
    (λ lt. let w = first_word-before roots i j lt (omega arith) in absurd (omega arith))
    (λ ge. ⊎_elim
    (λ lt. let w = first_word-before roots j i lt (omega arith) in absurd (omega arith))
    (λ le. let same : i ≡ j = omega arith in (same, let first = ap (first_word roots) same in omega arith))
    (cases_lt j i))
    (cases_lt i j)

-- a leaf asks on the word of a root where it is on the root
asks_there : (roots : List ℕ) (l : Leaf) (rank index : ℕ) → has_root roots l ≡ true → rank < length roots → index < get_or roots rank 0 → (word_of roots l == first_word roots rank + index) ≡ is_on_root (rank, index) l
asks_there roots l rank index has in-ranks in-roots = same_tests (word_of roots l == first_word roots rank + index) (is_on_root (rank, index) l)
    (λ h.
    let both = same_root roots l.rank l.index rank index (word-within roots l has).0 in-ranks (ltb-true l.index (get_or roots l.rank 0) has) in-roots (eqb-true (word_of roots l) (first_word roots rank + index) h) in
    (λ i. eq-eqb l.rank rank both.0 i && eq-eqb l.index index both.1 i))
    (λ h. let both = and_parts (l.rank == rank) (l.index == index) h in eq-eqb (word_of roots l) (first_word roots rank + index) (λ i. first_word roots (eqb-true l.rank rank both.0 i) + eqb-true l.index index both.1 i))

-- a word is that of some root
pub record IsWordOf (roots : List ℕ) (w : ℕ) : Type 0 where
  pub rank : ℕ
  pub index : ℕ
  pub in_ranks : rank < length roots
  pub in_roots : index < get_or roots rank 0
  pub is : w ≡ first_word roots rank + index

pub word_root : (roots : List ℕ) (w : ℕ) → w < sum roots → IsWordOf roots w
word_root [] w h = absurd (omega arith)
word_root (n ∷ ns) w h =
    let cons : sum (n ∷ ns) ≡ n + sum ns = sum_by-cons (λ (x : ℕ). x) n ns in
    ⊎_elim
    (λ lt. record { rank = 0; index = w; in_ranks = omega arith; in_roots = lt; is = let e : w ≡ 0 + w = omega arith in e })
    (λ ge.
    let r = word_root ns (w - n) (omega arith) in
    let inside = r.in_ranks in
    record {
      rank = suc r.rank;
      index = r.index;
      in_ranks = omega arith;
      in_roots = r.in_roots;
      is = let there = r.is in let first : first_word (n ∷ ns) (suc r.rank) ≡ n + first_word ns r.rank = sum_by-cons (λ (x : ℕ). x) n (take r.rank ns) in omega arith;
    })
    (cases_lt w n)

-- the word of a root is the one at its place
pub word-there : (values : List (List ℕ)) (rank index : ℕ) → index < length (get_or values rank []) → get_or (words_of values) (first_word (map length values) rank + index) 0 ≡ word_at values rank index
word-there [] rank index h = absurd (omega arith)
word-there (own ∷ values) zero index h = let here : first_word (length own ∷ map length values) zero + index ≡ index = omega arith in ap (λ k. get_or (own ++ words_of values) k 0) here ∙ get_or_append_left own (words_of values) 0 index h
word-there (own ∷ values) (suc rank) index h =
    let first : first_word (length own ∷ map length values) (suc rank) ≡ length own + first_word (map length values) rank = sum_by-cons (λ (x : ℕ). x) (length own) (take rank (map length values)) in
    let there : first_word (length own ∷ map length values) (suc rank) + index ≡ length own + (first_word (map length values) rank + index) = omega arith in
    ap (λ k. get_or (own ++ words_of values) k 0) there ∙ (get_or-append-add own (words_of values) (first_word (map length values) rank + index) 0 ∙ word-there values rank index h)

-- ---- the asks on a word

-- the leaves of all ranks have roots
abbrev pub Rooted : List ℕ → List (List Leaf) → Type 0
Rooted roots lss = AllByRecursion (λ ls. AllByRecursion (λ l. has_root roots l ≡ true) ls) lss

-- what all leaves of ranks from n on ask
abbrev asks_from : List ℕ → List (List ℕ) → ℕ → List (List Leaf) → List (List Ask)
asks_from roots values n lss = map (λ r. own_asks roots Sum (get_or values r.0 []) r.1) (enumerate_from n lss)

-- what the leaves of a rank add to the word of a root
own-adds : (roots : List ℕ) (values : List (List ℕ)) (by rank index : ℕ) → rank < length roots → index < get_or roots rank 0 → (ls : List Leaf) → AllByRecursion (λ l. has_root roots l ≡ true) ls
    → sum_by added (filter (λ (a : Ask). a.word == first_word roots rank + index) (own_asks roots Sum (get_or values by []) ls)) ≡ own_sum values (rank, index) (by, ls)
own-adds roots values by rank index in-ranks in-roots [] h = refl
own-adds roots values by rank index in-ranks in-roots (l ∷ ls) h = go (word_of roots l == first_word roots rank + index) (is_on_root (rank, index) l) (asks_there roots l rank index h.0 in-ranks in-roots) (own-adds roots values by rank index in-ranks in-roots ls h.1)
  where
    rest : List Ask
    rest = filter (λ (a : Ask). a.word == first_word roots rank + index) (own_asks roots Sum (get_or values by []) ls)

    others : List Leaf
    others = filter (is_on_root (rank, index)) ls

    value : Leaf → ℕ
    value x = word_at values by x.local

    go : (b c : Bool) → b ≡ c → sum_by added rest ≡ sum_by value others → sum_by added (cond b (ask_of roots Sum (get_or values by []) l ∷ rest) rest) ≡ sum_by value (cond c (l ∷ others) others)
    go true true e r = sum_by-cons added (ask_of roots Sum (get_or values by []) l) rest ∙ (ap (λ n. value l + n) r ∙ sym (sum_by-cons value l others))
    go false false e r = r
    go true false e r = absurd (cc e)
    go false true e r = absurd (cc e)

-- what the leaves of all ranks add
all-add : (roots : List ℕ) (values : List (List ℕ)) (rank index : ℕ) → rank < length roots → index < get_or roots rank 0 → (n : ℕ) (lss : List (List Leaf)) → Rooted roots lss
    → sum_by added (asks_on (first_word roots rank + index) (asks_from roots values n lss)) ≡ sum_by (own_sum values (rank, index)) (enumerate_from n lss)
all-add roots values rank index in-ranks in-roots n [] h = refl
all-add roots values rank index in-ranks in-roots n (ls ∷ lss) h =
    let w : ℕ = first_word roots rank + index in
    let own : List Ask = own_asks roots Sum (get_or values n []) ls in
    let first : List Ask = filter (λ (a : Ask). a.word == w) own in
    let rest : List Ask = asks_on w (asks_from roots values (n + 1) lss) in
    ap (sum_by added) (filter-append (λ (a : Ask). a.word == w) own (all_asks (asks_from roots values (n + 1) lss)))
    ∙ (sum_by-append added first rest
    ∙ ((λ i. own-adds roots values n rank index in-ranks in-roots ls h.0 i + all-add roots values rank index in-ranks in-roots (n + 1) lss h.1 i)
    ∙ sym (sum_by-cons (own_sum values (rank, index)) (n, ls) (enumerate_from (n + 1) lss))))

pub leaves-add : (f : Forest) (values : List (List ℕ)) (rank index : ℕ) → rank < length f.roots → index < get_or f.roots rank 0 → Rooted f.roots f.leaves → sum_by added (asks_on (first_word f.roots rank + index) (asks_of f Sum values)) ≡ sum_by (own_sum values (rank, index)) (enumerate_from 0 f.leaves)
unfolding asks_of
leaves-add f values rank index in-ranks in-roots h = all-add f.roots values rank index in-ranks in-roots 0 f.leaves h

-- all of them are Sums
own-sums : (roots values : List ℕ) (p : Ask → Bool) (ls : List Leaf) → AllByRecursion (λ (a : Ask). a.op ≡ Sum) (filter p (own_asks roots Sum values ls))
own-sums roots values p [] = tt
own-sums roots values p (l ∷ ls) = go (p (ask_of roots Sum values l)) (own-sums roots values p ls)
  where
    rest : List Ask
    rest = filter p (own_asks roots Sum values ls)

    go : (b : Bool) → AllByRecursion (λ (a : Ask). a.op ≡ Sum) rest → AllByRecursion (λ (a : Ask). a.op ≡ Sum) (cond b (ask_of roots Sum values l ∷ rest) rest)
    go true r = (refl, r)
    go false r = r

ranks-sums : (roots : List ℕ) (values : List (List ℕ)) (p : Ask → Bool) (n : ℕ) (lss : List (List Leaf)) → AllByRecursion (λ (a : Ask). a.op ≡ Sum) (filter p (all_asks (asks_from roots values n lss)))
ranks-sums roots values p n [] = tt
ranks-sums roots values p n (ls ∷ lss) = subst (AllByRecursion (λ (a : Ask). a.op ≡ Sum)) (sym (filter-append p (own_asks roots Sum (get_or values n []) ls) (all_asks (asks_from roots values (n + 1) lss))))
    (all_append (λ (a : Ask). a.op ≡ Sum) (filter p (own_asks roots Sum (get_or values n []) ls)) (filter p (all_asks (asks_from roots values (n + 1) lss))) (own-sums roots (get_or values n []) p ls) (ranks-sums roots values p (n + 1) lss))

pub all-sums : (f : Forest) (values : List (List ℕ)) (p : Ask → Bool) → AllByRecursion (λ (a : Ask). a.op ≡ Sum) (filter p (all_asks (asks_of f Sum values)))
unfolding asks_of
all-sums f values p = ranks-sums f.roots values p 0 f.leaves

-- Sums that fit add up
pub sums-after : (first : ℕ) (asks : List Ask) → AllByRecursion (λ (a : Ask). a.op ≡ Sum) asks → first + sum_by added asks < 2 ^ 64 → word_after first asks ≡ first + sum_by added asks
unfolding step
sums-after first [] h fit = omega arith
sums-after first (a ∷ asks) h fit =
    let value : added a ≡ a.value = ap (λ (op : Op). added (record { word = a.word; op = op; value = a.value })) h.0 in
    let cons = sum_by-cons added a asks in
    let next : step a.op a.value first ≡ first + a.value = ap (λ (op : Op). step op a.value first) h.0 ∙ mod-small (first + a.value) (omega arith) in
    ap (λ w. word_after w asks) next ∙ (sums-after (first + a.value) asks h.1 (omega arith) ∙ omega arith)
  where
    mod-small : (x : ℕ) → x < 2 ^ 64 → x % 2 ^ 64 ≡ x
    mod-small x low = omega arith
