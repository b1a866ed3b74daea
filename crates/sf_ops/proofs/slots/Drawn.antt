-- What Sums of 1 on words that are 0 fetch: at each root of n leaves 0 to n - 1, each once.
use Rattle.std.proofs.Common.{◌≡◌, ℕ, zero, suc, ◌+◌, ◌^◌, ◌<◌, ◌≤◌, Bool, true, false, cond, ◌%◌, ◌&&◌, ◌==◌, nat_le, nat_lt, List, [], ◌∷◌, ◌++◌, length, map, get_or, sum_by, count_by, arith, refl, ap, sym, subst, ◌∙◌, ⊎_elim, add-one}
use Rattle.std.specs.Prelude.{filter, flat_map, zip}
use Rattle.std.specs.List.{AllByRecursion, enumerate_from}
use Rattle.std.proofs.lemmas.Bool.{cases_lt, eq-eqb, eqb-true, ltb-true, leb-true, le-leb, lt-ltb}
use Rattle.std.proofs.lemmas.List.Sums.{sum_by-cons}
use Rattle.std.proofs.lemmas.List.Elements.{filter-append}
use Rattle.std.proofs.lemmas.List.{length-append}
use Rattle.plain_lists.proofs.Finding.{same_tests}
use Rattle.plain_lists.proofs.Filters.{count-append}
use Rattle.plain_lists.proofs.Each.{all_append}
use Rattle.sf_defs.specs.declared.Leaf.{Leaf}
use Rattle.sf_defs.specs.declared.Op.{Op}
use Rattle.sf_defs.specs.declared.Op.TheVariants.{Sum}
use Rattle.sf_defs.specs.declared.Ask.{Ask}
use Rattle.sf_defs.specs.Asks.{Entry, on_word, step, word_after}
use Rattle.sf_defs.specs.PrintedOrder.{kind_of}
use Rattle.sf_defs.specs.Rounds.{rank_entries, asks_on, all_asks}
use Rattle.sf_defs.specs.Forest.{Forest, has_root, is_on_root}
use Rattle.round_laws.specs.LastValues.{took}
use Rattle.round_laws.proofs.Entries.{numbered}
use Rattle.sf_defs.specs.slots.Slots.{own_drawn_at}
use Rattle.sf_ops.specs.Asked.{first_word, word_of, ask_of, own_asks, asks_of}
use Rattle.sf_ops.proofs.Words.{first_word-more}
use Rattle.sf_ops.proofs.Conditions.{word-within}
use Rattle.sf_ops.specs.slots.Ones.{AreOnes, AddsOne}
use Rattle.sf_ops.proofs.slots.Counted.{one_if, count-cons}

-- ---- words of roots

-- the words of a rank stand before those of any later one
first_word-before : (roots : List ℕ) (rank k : ℕ) → rank < k → k ≤ length roots → first_word roots rank + get_or roots rank 0 ≤ first_word roots k
first_word-before roots rank zero h le = absurd (omega arith)
first_word-before roots rank (suc k) h le =
    let more : first_word roots (suc k) ≡ first_word roots k + get_or roots k 0 = ap (first_word roots) (sym (add-one k)) ∙ first_word-more roots k (omega arith) in
    ⊎_elim
    (λ lt. let r = first_word-before roots rank k lt (omega arith) in omega arith)
    (λ ge. let same : k ≡ rank = omega arith in subst (λ i. first_word roots i + get_or roots i 0 ≤ first_word roots (suc k)) same (omega arith))
    (cases_lt rank k)

-- a word is that of one root
same_root : (roots : List ℕ) (i n j m : ℕ) → i < length roots → j < length roots → n < get_or roots i 0 → m < get_or roots j 0 → first_word roots i + n ≡ first_word roots j + m → (i ≡ j) × (n ≡ m)
same_root roots i n j m in-i in-j low high e = ⊎_elim
    (λ lt. let w = first_word-before roots i j lt (omega arith) in absurd (omega arith))
    (λ ge. ⊎_elim
    (λ lt. let w = first_word-before roots j i lt (omega arith) in absurd (omega arith))
    (λ le. let same : i ≡ j = omega arith in (same, let first = ap (first_word roots) same in omega arith))
    (cases_lt j i))
    (cases_lt i j)

-- a leaf asks on the word of a root where it is on the root
pub asks_there : (roots : List ℕ) (l : Leaf) (rank index : ℕ) → has_root roots l ≡ true → rank < length roots → index < get_or roots rank 0 → (word_of roots l == first_word roots rank + index) ≡ is_on_root (rank, index) l
asks_there roots l rank index has in-ranks in-roots = same_tests (word_of roots l == first_word roots rank + index) (is_on_root (rank, index) l)
    (λ h.
    let both = same_root roots l.rank l.index rank index (word-within roots l has).0 in-ranks (ltb-true l.index (get_or roots l.rank 0) has) in-roots (eqb-true (word_of roots l) (first_word roots rank + index) h) in
    (λ i. eq-eqb l.rank rank both.0 i && eq-eqb l.index index both.1 i))
    (λ h. eq-eqb (word_of roots l) (first_word roots rank + index) (λ i. first_word roots (eqb-true l.rank rank (first_true (l.rank == rank) (l.index == index) h) i) + eqb-true l.index index (second_true (l.rank == rank) (l.index == index) h) i))
  where
    first_true : (a b : Bool) → (a && b) ≡ true → a ≡ true
    first_true true b h = refl
    first_true false b h = h

    second_true : (a b : Bool) → (a && b) ≡ true → b ≡ true
    second_true true b h = h
    second_true false b h = absurd (cc h)

-- ---- the asks on a word

-- the leaves of all ranks have roots
abbrev pub Rooted : List ℕ → List (List Leaf) → Type 0
Rooted roots lss = AllByRecursion (λ ls. AllByRecursion (λ l. has_root roots l ≡ true) ls) lss

-- what all leaves of ranks from n on ask
abbrev pub asks_from : List ℕ → Op → List (List ℕ) → ℕ → List (List Leaf) → List (List Ask)
asks_from roots op values n lss = map (λ r. own_asks roots op (get_or values r.0 []) r.1) (enumerate_from n lss)

pub asks-as : (f : Forest) (op : Op) (values : List (List ℕ)) → asks_of f op values ≡ asks_from f.roots op values 0 f.leaves
unfolding asks_of
asks-as f op values = refl

-- as many asks of a rank on the word of a root as leaves on the root
own_asks-count : (roots : List ℕ) (op : Op) (values : List ℕ) (rank index : ℕ) → rank < length roots → index < get_or roots rank 0 → (ls : List Leaf) → AllByRecursion (λ l. has_root roots l ≡ true) ls → length (filter (λ (a : Ask). a.word == first_word roots rank + index) (own_asks roots op values ls)) ≡ count_by (is_on_root (rank, index)) ls
own_asks-count roots op values rank index in-ranks in-roots [] h = refl
own_asks-count roots op values rank index in-ranks in-roots (l ∷ ls) h =
    let c = count-cons (is_on_root (rank, index)) l ls in
    go (word_of roots l == first_word roots rank + index) (is_on_root (rank, index) l) (asks_there roots l rank index h.0 in-ranks in-roots) (own_asks-count roots op values rank index in-ranks in-roots ls h.1) ∙ sym c
  where
    rest : List Ask
    rest = filter (λ (a : Ask). a.word == first_word roots rank + index) (own_asks roots op values ls)

    go : (b c : Bool) → b ≡ c → length rest ≡ count_by (is_on_root (rank, index)) ls → length (cond b (ask_of roots op values l ∷ rest) rest) ≡ one_if c + count_by (is_on_root (rank, index)) ls
    go true true e r = omega arith
    go false false e r = omega arith
    go true false e r = absurd (cc e)
    go false true e r = absurd (cc e)

-- as many asks on the word of a root as its degree
pub asks-count : (roots : List ℕ) (op : Op) (values : List (List ℕ)) (rank index : ℕ) → rank < length roots → index < get_or roots rank 0 → (n : ℕ) (lss : List (List Leaf)) → Rooted roots lss → length (asks_on (first_word roots rank + index) (asks_from roots op values n lss)) ≡ sum_by (count_by (is_on_root (rank, index))) lss
asks-count roots op values rank index in-ranks in-roots n [] h = refl
asks-count roots op values rank index in-ranks in-roots n (ls ∷ lss) h =
    let w : ℕ = first_word roots rank + index in
    let own : List Ask = own_asks roots op (get_or values n []) ls in
    let parts : asks_on w (asks_from roots op values n (ls ∷ lss)) ≡ filter (λ (a : Ask). a.word == w) own ++ asks_on w (asks_from roots op values (n + 1) lss) = filter-append (λ (a : Ask). a.word == w) own (all_asks (asks_from roots op values (n + 1) lss)) in
    let size = ap length parts ∙ length-append (filter (λ (a : Ask). a.word == w) own) (asks_on w (asks_from roots op values (n + 1) lss)) in
    let a = own_asks-count roots op (get_or values n []) rank index in-ranks in-roots ls h.0 in
    let r = asks-count roots op values rank index in-ranks in-roots (n + 1) lss h.1 in
    let c = sum_by-cons (count_by (is_on_root (rank, index))) ls lss in
    omega arith

-- each leaf of the ranks from n on has the value 1
abbrev pub OnesFrom : List (List ℕ) → ℕ → List (List Leaf) → Type 0
OnesFrom values n [] = Unit {0}
OnesFrom values n (ls ∷ lss) = AreOnes (get_or values n []) ls × OnesFrom values (n + 1) lss

own_asks-ones : (roots values : List ℕ) (p : Ask → Bool) (ls : List Leaf) → AreOnes values ls → AllByRecursion AddsOne (filter p (own_asks roots Sum values ls))
own_asks-ones roots values p [] h = tt
own_asks-ones roots values p (l ∷ ls) h = go (p (ask_of roots Sum values l)) (own_asks-ones roots values p ls h.1)
  where
    rest : List Ask
    rest = filter p (own_asks roots Sum values ls)

    go : (b : Bool) → AllByRecursion AddsOne rest → AllByRecursion AddsOne (cond b (ask_of roots Sum values l ∷ rest) rest)
    go true r = ((refl, h.0.1), r)
    go false r = r

pub asks-ones : (roots : List ℕ) (values : List (List ℕ)) (p : Ask → Bool) (n : ℕ) (lss : List (List Leaf)) → OnesFrom values n lss → AllByRecursion AddsOne (filter p (all_asks (asks_from roots Sum values n lss)))
asks-ones roots values p n [] h = tt
asks-ones roots values p n (ls ∷ lss) h =
    let own : List Ask = own_asks roots Sum (get_or values n []) ls in
    subst (AllByRecursion AddsOne) (sym (filter-append p own (all_asks (asks_from roots Sum values (n + 1) lss))))
    (all_append AddsOne (filter p own) (filter p (all_asks (asks_from roots Sum values (n + 1) lss))) (own_asks-ones roots (get_or values n []) p ls h.0) (asks-ones roots values p (n + 1) lss h.1))

-- Sums of 1 are Sums
pub ones-kind : (asks : List Ask) → 0 < length asks → AllByRecursion AddsOne asks → kind_of asks ≡ Sum
ones-kind [] some h = absurd (omega arith)
ones-kind (a ∷ asks) some h = ap (λ (op : Op). kind_of (record { word = a.word; op = op; value = a.value } ∷ asks)) h.0.0

-- and add as much as they are
pub ones-after : (word : ℕ) (asks : List Ask) → AllByRecursion AddsOne asks → word + length asks < 2 ^ 64 → word_after word asks ≡ word + length asks
unfolding step
ones-after word [] h fits = omega arith
ones-after word (a ∷ asks) h fits =
    ap (λ n. word_after n asks) (ap (λ (op : Op). step op a.value word) h.0.0 ∙ (ap (λ v. (word + v) % 2 ^ 64) h.0.1 ∙ small (word + 1) (omega arith)))
    ∙ (ones-after (word + 1) asks h.1 (omega arith) ∙ omega arith)
  where
    small : (n : ℕ) → n < 2 ^ 64 → n % 2 ^ 64 ≡ n
    small n h = omega arith

-- ---- what was fetched

-- the ask of a leaf with 1 took number n where it fetched n
pub took-one : (a : Ask) (rank index g n : ℕ) → AddsOne a → took n (record { rank = rank; index = index; ask = a; got = g }) ≡ (g == n)
took-one a rank index g n h = ap (λ (op : Op). took n (record { rank = rank; index = index; ask = record { word = a.word; op = op; value = a.value }; got = g })) h.0
    ∙ (ap (λ v. nat_le g n && nat_lt n (g + v)) h.1 ∙ same_tests (nat_le g n && nat_lt n (g + 1)) (g == n) (λ e. eq-eqb g n (between e)) (λ e. let same = eqb-true g n e in (λ i. le-leb g n (omega arith) i && lt-ltb n (g + 1) (omega arith) i)))
  where
    between : (nat_le g n && nat_lt n (g + 1)) ≡ true → g ≡ n
    between e = go (nat_le g n) refl e
      where
        go : (b : Bool) → nat_le g n ≡ b → (b && nat_lt n (g + 1)) ≡ true → g ≡ n
        go true l t = let low = leb-true g n l in let high = ltb-true n (g + 1) t in omega arith
        go false l t = absurd (cc t)

-- of the entries of a rank on the word of a root, as many took n as leaves on the root drew n
took-rank : (roots values : List ℕ) (rank index n : ℕ) → rank < length roots → index < get_or roots rank 0 → (by k : ℕ) (ls : List Leaf) (got : List ℕ) → AllByRecursion (λ l. has_root roots l ≡ true) ls → AreOnes values ls → length got ≡ length ls → count_by (took n) (on_word (first_word roots rank + index) (numbered by k (own_asks roots Sum values ls) got)) ≡ count_by (λ d. d == n) (own_drawn_at (rank, index) (ls, got))
took-rank roots values rank index n in-ranks in-roots by k [] got has ones size = refl
took-rank roots values rank index n in-ranks in-roots by k (l ∷ ls) [] has ones size = absurd (omega arith)
took-rank roots values rank index n in-ranks in-roots by k (l ∷ ls) (g ∷ got) has ones size =
    go (word_of roots l == first_word roots rank + index) (is_on_root (rank, index) l) (asks_there roots l rank index has.0 in-ranks in-roots) (took-rank roots values rank index n in-ranks in-roots by (k + 1) ls got has.1 ones.1 (omega arith))
  where
    entry : Entry
    entry = record { rank = by; index = k; ask = ask_of roots Sum values l; got = g }

    more : List Entry
    more = on_word (first_word roots rank + index) (numbered by (k + 1) (own_asks roots Sum values ls) got)

    rest : List (Leaf × ℕ)
    rest = filter (λ (x : Leaf × ℕ). is_on_root (rank, index) x.0) (zip ls got)

    go : (b c : Bool) → b ≡ c → count_by (took n) more ≡ count_by (λ d. d == n) (own_drawn_at (rank, index) (ls, got)) → count_by (took n) (cond b (entry ∷ more) more) ≡ count_by (λ d. d == n) (map (λ (x : Leaf × ℕ). x.1) (cond c ((l, g) ∷ rest) rest))
    go true true e r = count-cons (took n) entry more ∙ ((λ i. one_if (took-one (ask_of roots Sum values l) by k g n (refl, ones.0.1) i) + r i) ∙ sym (count-cons (λ d. d == n) g (own_drawn_at (rank, index) (ls, got))))
    go false false e r = r
    go true false e r = absurd (cc e)
    go false true e r = absurd (cc e)

-- the same of all ranks
pub took-all : (roots : List ℕ) (values : List (List ℕ)) (rank index n : ℕ) → rank < length roots → index < get_or roots rank 0 → (k : ℕ) (lss : List (List Leaf)) (gots : List (List ℕ)) → Rooted roots lss → OnesFrom values k lss → map length gots ≡ map length lss
    → count_by (took n) (on_word (first_word roots rank + index) (flat_map (λ x. rank_entries x.0 x.1.0 x.1.1) (enumerate_from k (zip (asks_from roots Sum values k lss) gots)))) ≡ count_by (λ d. d == n) (flat_map (own_drawn_at (rank, index)) (zip lss gots))
took-all roots values rank index n in-ranks in-roots k [] gots has ones size = refl
took-all roots values rank index n in-ranks in-roots k (ls ∷ lss) [] has ones size = absurd (cc size)
took-all roots values rank index n in-ranks in-roots k (ls ∷ lss) (got ∷ gots) has ones size =
    let w : ℕ = first_word roots rank + index in
    let own : List Entry = rank_entries k (own_asks roots Sum (get_or values k []) ls) got in
    let later : List Entry = flat_map (λ x. rank_entries x.0 x.1.0 x.1.1) (enumerate_from (k + 1) (zip (asks_from roots Sum values (k + 1) lss) gots)) in
    let parts = ap (count_by (took n)) (filter-append (λ (e : Entry). e.ask.word == w) own later) ∙ count-append (took n) (on_word w own) (on_word w later) in
    let a = took-rank roots (get_or values k []) rank index n in-ranks in-roots k 0 ls got has.0 ones.0 (head_same (length got) (length ls) (map length gots) (map length lss) size) in
    let r = took-all roots values rank index n in-ranks in-roots (k + 1) lss gots has.1 ones.1 (tail_same (length got) (length ls) (map length gots) (map length lss) size) in
    let c = count-append (λ d. d == n) (own_drawn_at (rank, index) (ls, got)) (flat_map (own_drawn_at (rank, index)) (zip lss gots)) in
    parts ∙ ((λ i. a i + r i) ∙ sym c)
  where
    head_same : (x y : ℕ) (xs ys : List ℕ) → x ∷ xs ≡ y ∷ ys → x ≡ y
    head_same x y xs ys e = cc e

    tail_same : (x y : ℕ) (xs ys : List ℕ) → x ∷ xs ≡ y ∷ ys → xs ≡ ys
    tail_same x y xs ys e = cc e

-- as many numbers as leaves on the root
own_drawn-length : (root : ℕ × ℕ) (ls : List Leaf) (got : List ℕ) → length got ≡ length ls → length (own_drawn_at root (ls, got)) ≡ count_by (is_on_root root) ls
own_drawn-length root [] got e = refl
own_drawn-length root (l ∷ ls) [] e = absurd (omega arith)
own_drawn-length root (l ∷ ls) (g ∷ got) e = go (is_on_root root l) (own_drawn-length root ls got (omega arith)) ∙ sym (count-cons (is_on_root root) l ls)
  where
    rest : List (Leaf × ℕ)
    rest = filter (λ (x : Leaf × ℕ). is_on_root root x.0) (zip ls got)

    go : (b : Bool) → length (own_drawn_at root (ls, got)) ≡ count_by (is_on_root root) ls → length (map (λ (x : Leaf × ℕ). x.1) (cond b ((l, g) ∷ rest) rest)) ≡ one_if b + count_by (is_on_root root) ls
    go true r = omega arith
    go false r = omega arith

pub drawn-length : (root : ℕ × ℕ) (lss : List (List Leaf)) (gots : List (List ℕ)) → map length gots ≡ map length lss → length (flat_map (own_drawn_at root) (zip lss gots)) ≡ sum_by (count_by (is_on_root root)) lss
drawn-length root [] gots e = refl
drawn-length root (ls ∷ lss) [] e = absurd (cc e)
drawn-length root (ls ∷ lss) (got ∷ gots) e =
    let size = length-append (own_drawn_at root (ls, got)) (flat_map (own_drawn_at root) (zip lss gots)) in
    let a = own_drawn-length root ls got (head_same (length got) (length ls) (map length gots) (map length lss) e) in
    let r = drawn-length root lss gots (tail_same (length got) (length ls) (map length gots) (map length lss) e) in
    let c = sum_by-cons (count_by (is_on_root root)) ls lss in
    omega arith
  where
    head_same : (x y : ℕ) (xs ys : List ℕ) → x ∷ xs ≡ y ∷ ys → x ≡ y
    head_same x y xs ys e = cc e

    tail_same : (x y : ℕ) (xs ys : List ℕ) → x ∷ xs ≡ y ∷ ys → xs ≡ ys
    tail_same x y xs ys e = cc e
