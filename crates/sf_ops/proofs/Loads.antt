-- What the loads of a forest's leaves fetch.
use Rattle.std.proofs.Common.{◌≡◌, ℕ, zero, suc, ◌+◌, ◌<◌, ◌^◌, Bool, true, false, cond, ◌==◌, List, [], ◌∷◌, ◌++◌, length, map, get_or, set, take, drop, sum, sum_by, count_by, Option, Some, option_map, arith, refl, ap, sym, subst, ◌∙◌, add-one}
use Rattle.std.specs.List.{AllByRecursion, enumerate_from, find}
use Rattle.std.proofs.lemmas.Bool.{eq-eqb, eqb-true, cond-true, cond-false, ltb-true, both_ways}
use Rattle.std.proofs.lemmas.List.{get_or-set_same, get_or-set_other, length-map}
use Rattle.std.proofs.lemmas.List.Sums.{sum_by-cons}
use Rattle.std.proofs.lemmas.Simd.{map-map}
use Rattle.std.proofs.lemmas.Grind.{common_steps}
use Rattle.std.proofs.Math.Seq.{drop-cons}
use Rattle.plain_lists.proofs.Each.{all_at, all_weaker, all_from, all_map, all_flat_map, all_in_flat_map, all_filter}
use Rattle.plain_lists.proofs.Filters.{filter-swap, map_same, count_nothing}
use Rattle.sf_defs.specs.declared.Op.{Op}
use Rattle.sf_defs.specs.declared.Op.TheVariants.{Load, Replace}
use Rattle.sf_defs.specs.declared.Ask.{Ask}
use Rattle.sf_defs.specs.declared.Leaf.{Leaf}
use Rattle.sf_defs.specs.Asks.{Entry, on_word}
use Rattle.sf_defs.specs.PrintedOrder.{kind_of, is_load}
use Rattle.sf_defs.specs.Rounds.{Round, IsLegal, entries, all_asks, asks_on, added, same_op}
use Rattle.sf_defs.specs.Forest.{Forest, IsForest, has_root, leaves_on, root_at}
use Rattle.round_laws.proofs.Shuffles.{rank_of_all}
use Rattle.round_laws.proofs.Entries.{numbered, of_rank-entries}
use Rattle.round_laws.proofs.LoadsAndLeast.{legal-loads}
use Rattle.sf_ops.specs.Asked.{first_word, word_of, own_asks, ask_of, asks_of, words_of, AreRootValues, MayAsk}
use Rattle.sf_ops.specs.Copies.{handed, value_or}
use Rattle.sf_ops.proofs.Words.{get_or-asks_of, length-asks_of}
use Rattle.sf_ops.proofs.Conditions.{leaves_have_roots}

-- what holds without the first holds after it
after_first : (P : Entry → Type 0) (b : Bool) (e : Entry) (es : List Entry) → AllByRecursion P (cond b (e ∷ es) es) → AllByRecursion P es
after_first P true e es h = h.1
after_first P false e es h = h

-- a rank whose entries on each word fetched its first value fetched the first values
fetched_firsts : (before : List ℕ) (rank n : ℕ) (asks : List Ask) (got : List ℕ) → length got ≡ length asks → AllByRecursion (λ (a : Ask). a.word < length before) asks → ((w : ℕ) → w < length before → AllByRecursion (λ (e : Entry). e.got ≡ get_or before w 0) (on_word w (numbered rank n asks got))) → got ≡ map (λ (a : Ask). get_or before a.word 0) asks
fetched_firsts before rank n [] [] same in-range each = refl
fetched_firsts before rank n [] (g ∷ got) same in-range each = absurd (omega arith)
fetched_firsts before rank n (a ∷ asks) [] same in-range each = absurd (omega arith)
fetched_firsts before rank n (a ∷ asks) (g ∷ got) same in-range each =
    let entry : Entry = record { rank = rank; index = n; ask = a; got = g } in
    let more : ℕ → List Entry = λ (w : ℕ). on_word w (numbered rank (n + 1) asks got) in
    let own : AllByRecursion (λ (e : Entry). e.got ≡ get_or before a.word 0) (entry ∷ more a.word) = subst (AllByRecursion (λ (e : Entry). e.got ≡ get_or before a.word 0)) (cond-true (a.word == a.word) (entry ∷ more a.word) (more a.word) (eq-eqb a.word a.word refl)) (each a.word in-range.0) in
    let rest : got ≡ map (λ (x : Ask). get_or before x.word 0) asks = fetched_firsts before rank (n + 1) asks got (omega arith) in-range.1 (λ w h. after_first (λ (e : Entry). e.got ≡ get_or before w 0) (a.word == w) entry (more w) (each w h)) in
    ap (λ (m : ℕ). m ∷ got) own.0 ∙ ap (λ (ms : List ℕ). get_or before a.word 0 ∷ ms) rest

length_at : {X : Type 0} (xs : List (List X)) (k : ℕ) → length (get_or xs k []) ≡ get_or (map length xs) k 0
length_at [] k = refl
length_at (x ∷ xs) zero = refl
length_at (x ∷ xs) (suc k) = length_at xs k

-- in a legal round of loads a rank fetches the first values
rank_fetched : (r : Round) → IsLegal r → ((w : ℕ) → w < length r.before → kind_of (asks_on w r.asks) ≡ Load) → (rank : ℕ) → rank < length r.asks → get_or r.got rank [] ≡ map (λ (a : Ask). get_or r.before a.word 0) (get_or r.asks rank [])
rank_fetched r legal loads rank within = fetched_firsts r.before rank 0 (get_or r.asks rank []) (get_or r.got rank [])
    (length_at r.got rank ∙ (ap (λ (ns : List ℕ). get_or ns rank 0) legal.fetched ∙ sym (length_at r.asks rank)))
    (all_at (λ own. AllByRecursion (λ (a : Ask). a.word < length r.before) own) r.asks rank [] (all_in_flat_map (λ (a : Ask). a.word < length r.before) (λ own. own) r.asks legal.conditions.in_range) within)
    (λ w h. subst (AllByRecursion (λ (e : Entry). e.got ≡ get_or r.before w 0)) (filter-swap (λ (e : Entry). e.rank == rank) (λ (e : Entry). e.ask.word == w) (entries r.asks r.got) ∙ ap (on_word w) (of_rank-entries rank r.asks r.got)) (rank_of_all (λ (e : Entry). e.got ≡ get_or r.before w 0) rank (on_word w (entries r.asks r.got)) (legal-loads r legal w h (loads w h)).0))

-- loads are of the kind Load
loads_kind : (asks : List Ask) → AllByRecursion (λ (a : Ask). a.op ≡ Load) asks → kind_of asks ≡ Load
loads_kind [] h = refl
loads_kind (a ∷ asks) h = cond-true (is_load a.op) (kind_of asks) a.op (ap is_load h.0) ∙ loads_kind asks h.1

-- what holds of each leaf's load holds of all loads
pub all_loads : (P : Ask → Type 0) (f : Forest) → ((l : Leaf) → P (ask_of f.roots Load [] l)) → AllByRecursion P (all_asks (asks_of f Load []))
unfolding asks_of
all_loads P f each = all_flat_map P (λ own. own) (asks_of f Load []) (all_map (λ own. AllByRecursion P own) (λ (r : ℕ × List Leaf). own_asks f.roots Load (get_or [] r.0 []) r.1) (enumerate_from 0 f.leaves) (all_from (λ (r : ℕ × List Leaf). AllByRecursion P (own_asks f.roots Load (get_or [] r.0 []) r.1)) (λ r. all_map P (ask_of f.roots Load []) r.1 (all_from (λ l. P (ask_of f.roots Load [] l)) each r.1)) (enumerate_from 0 f.leaves)))

-- the loads on a word are loads
loads_on : (f : Forest) (w : ℕ) → AllByRecursion (λ (a : Ask). a.op ≡ Load) (asks_on w (asks_of f Load []))
loads_on f w = all_filter (λ (a : Ask). a.op ≡ Load) (λ (a : Ask). a.word == w) (all_asks (asks_of f Load [])) (all_loads (λ (a : Ask). a.op ≡ Load) f (λ l. refl))

-- loads add nothing
add_nothing : (asks : List Ask) → AllByRecursion (λ (a : Ask). a.op ≡ Load) asks → sum_by added asks ≡ 0
add_nothing [] h = refl
add_nothing (a ∷ asks) h = let none : added a ≡ 0 = ap (λ (op : Op). added record { word = a.word; op = op; value = a.value }) h.0 in let rest = add_nothing asks h.1 in let cons = sum_by-cons added a asks in omega arith

-- loads may be asked
pub loads_may : (f : Forest) (roots : List (List ℕ)) → ((w : ℕ) → get_or (words_of roots) w 0 < 2 ^ 64) → MayAsk f Load [] roots
loads_may f roots small = record {
  plain_loads = all_loads (λ (a : Ask). a.op ≡ Load → a.value ≡ 0) f (λ l load. refl);
  one_replace = λ w h. let none : count_by (λ (a : Ask). same_op a.op Replace) (asks_on w (asks_of f Load [])) ≡ 0 = count_nothing (λ (a : Ask). same_op a.op Replace) (asks_on w (asks_of f Load [])) (all_weaker (λ (a : Ask). a.op ≡ Load) (λ (a : Ask). same_op a.op Replace ≡ false) (λ a load. ap (λ (op : Op). same_op op Replace) load) (asks_on w (asks_of f Load [])) (loads_on f w)) in omega arith;
  sums_fit = λ w h. let none = add_nothing (asks_on w (asks_of f Load [])) (loads_on f w) in let fits = small w in omega arith;
}

-- the value of a leaf's root
abbrev pub root_value : List (List ℕ) → Leaf → ℕ
root_value roots l = get_or (get_or roots l.rank []) l.index 0

-- the word of a root has its value
word_value : (roots : List (List ℕ)) (rank index : ℕ) → index < length (get_or roots rank []) → get_or (words_of roots) (first_word (map length roots) rank + index) 0 ≡ get_or (get_or roots rank []) index 0
word_value [] rank index h = absurd (omega arith)
word_value (v ∷ vs) zero index h = in_first v (words_of vs) index h
  where
    in_first : (xs ys : List ℕ) (i : ℕ) → i < length xs → get_or (xs ++ ys) (0 + i) 0 ≡ get_or xs i 0
    in_first xs ys i h = grind (arith, common_steps)
word_value (v ∷ vs) (suc rank) index h = ap (λ (n : ℕ). get_or (v ++ words_of vs) (n + index) 0) (first_cons (length v) (take rank (map length vs))) ∙ after v (words_of vs) (first_word (map length vs) rank) index ∙ word_value vs rank index h
  where
    first_cons : (n : ℕ) (ns : List ℕ) → sum (n ∷ ns) ≡ n + sum ns
    first_cons n ns = grind (arith, common_steps)

    after : (xs ys : List ℕ) (n i : ℕ) → get_or (xs ++ ys) (length xs + n + i) 0 ≡ get_or ys (n + i) 0
    after xs ys n i = grind (arith, common_steps)

-- what a rank's leaves fetched are their roots' values
pub loads_fetch_roots : (r : Round) (f : Forest) (roots : List (List ℕ)) → IsLegal r → IsForest f → AreRootValues f roots → r.before ≡ words_of roots → r.asks ≡ asks_of f Load [] → (rank : ℕ) → rank < length f.leaves → rank < length r.asks → get_or r.got rank [] ≡ map (root_value roots) (leaves_on f rank)
loads_fetch_roots r f roots legal right values before asks rank in-leaves within =
    rank_fetched r legal (λ w h. subst (λ (asked : List (List Ask)). kind_of (asks_on w asked) ≡ Load) (sym asks) (loads_kind (asks_on w (asks_of f Load [])) (loads_on f w))) rank within
    ∙ (ap (λ (ws : List ℕ). map (λ (a : Ask). get_or ws a.word 0) (get_or r.asks rank [])) before
    ∙ (ap (λ (asked : List (List Ask)). map (λ (a : Ask). get_or (words_of roots) a.word 0) (get_or asked rank [])) asks
    ∙ (ap (map (λ (a : Ask). get_or (words_of roots) a.word 0)) (get_or-asks_of f Load [] rank)
    ∙ (map-map (λ (a : Ask). get_or (words_of roots) a.word 0) (ask_of f.roots Load []) (leaves_on f rank)
    ∙ map_same (λ (l : Leaf). get_or (words_of roots) (word_of f.roots l) 0) (root_value roots) (leaves_on f rank) (all_weaker (λ l. has_root f.roots l ≡ true) (λ l. get_or (words_of roots) (word_of f.roots l) 0 ≡ root_value roots l) each (leaves_on f rank) (all_at (λ own. AllByRecursion (λ l. has_root f.roots l ≡ true) own) f.leaves rank [] (leaves_have_roots f right) in-leaves))))))
  where
    each : (l : Leaf) → has_root f.roots l ≡ true → get_or (words_of roots) (word_of f.roots l) 0 ≡ root_value roots l
    each l has =
        let index : l.index < get_or f.roots l.rank 0 = ltb-true l.index (get_or f.roots l.rank 0) has in
        let place : l.index < length (get_or roots l.rank []) = subst (λ (n : ℕ). l.index < n) (ap (λ (ns : List ℕ). get_or ns l.rank 0) (sym values) ∙ sym (length_at roots l.rank)) index in
        ap (λ (ns : List ℕ). get_or (words_of roots) (first_word ns l.rank + l.index) 0) (sym values) ∙ word_value roots l.rank l.index place

-- leaves that are handed their roots' values have them
pub handed_values : (roots : List (List ℕ)) (leaves : List Leaf) (other local : ℕ) → handed leaves (map (root_value roots) leaves) other local ≡ value_or roots other (option_map root_at (find (λ (l : Leaf). l.local == local) leaves))
handed_values roots [] other local = refl
handed_values roots (l ∷ ls) other local = ap (λ (n : ℕ). cond (l.local == local) (root_value roots l) n) (handed_values roots ls other local) ∙ step (l.local == local) (find (λ (x : Leaf). x.local == local) ls)
  where
    step : (b : Bool) (o : Option Leaf) → cond b (root_value roots l) (value_or roots other (option_map root_at o)) ≡ value_or roots other (option_map root_at (cond b (Some l) o))
    step true o = refl
    step false o = refl

-- one leaf more is handed its value
pub handed_more : (leaves : List Leaf) (got own initial : List ℕ) (i : ℕ) (l : Leaf) (g : ℕ) → i < length leaves → length got ≡ length leaves → get_or leaves i l ≡ l → get_or got i 0 ≡ g → l.local < length own → ((local : ℕ) → get_or own local 0 ≡ handed (drop (i + 1) leaves) (drop (i + 1) got) (get_or initial local 0) local) → (local : ℕ) → get_or (set own l.local g) local 0 ≡ handed (drop i leaves) (drop i got) (get_or initial local 0) local
handed_more leaves got own initial i l g within count here value place so_far local =
    go (l.local == local) refl ∙ sym (ap (λ (ls : List Leaf). handed ls (drop i got) (get_or initial local 0) local) leaf ∙ ap (λ (gs : List ℕ). handed (l ∷ drop (suc i) leaves) gs (get_or initial local 0) local) fetched)
  where
    leaf : drop i leaves ≡ l ∷ drop (suc i) leaves
    leaf = drop-cons leaves i l within ∙ ap (λ (x : Leaf). x ∷ drop (suc i) leaves) here

    fetched : drop i got ≡ g ∷ drop (suc i) got
    fetched = drop-cons got i 0 (omega arith) ∙ ap (λ (x : ℕ). x ∷ drop (suc i) got) value

    later : get_or own local 0 ≡ handed (drop (suc i) leaves) (drop (suc i) got) (get_or initial local 0) local
    later = so_far local ∙ ap (λ (n : ℕ). handed (drop n leaves) (drop n got) (get_or initial local 0) local) (add-one i)

    go : (b : Bool) → (l.local == local) ≡ b → get_or (set own l.local g) local 0 ≡ cond (l.local == local) g (handed (drop (suc i) leaves) (drop (suc i) got) (get_or initial local 0) local)
    go true e = ap (λ (n : ℕ). get_or (set own l.local g) n 0) (sym (eqb-true l.local local e)) ∙ (get_or-set_same own l.local g 0 place ∙ sym (cond-true (l.local == local) g _ e))
    go false e = get_or-set_other own l.local local g 0 (λ m. both_ways (l.local == local) e (eq-eqb l.local local (sym m))) ∙ (later ∙ sym (cond-false (l.local == local) g _ e))

-- as many lists of fetched values as ranks
pub length-got : (r : Round) (f : Forest) → IsLegal r → r.asks ≡ asks_of f Load [] → length r.got ≡ length f.leaves
length-got r f legal asks = sym (length-map r.got length) ∙ (ap length legal.fetched ∙ (length-map r.asks length ∙ (ap length asks ∙ length-asks_of f Load [])))
