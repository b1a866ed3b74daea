-- The words and asks of a forest meet the conditions of a round.
use Rattle.std.proofs.Common.{◌≡◌, ◌⊎◌, ℕ, ◌^◌, ◌<◌, ◌≤◌, Bool, true, false, List, [], ◌∷◌, length, get_or, sum, sum_by, arith, refl, ap, sym, subst, ◌∙◌, inl, inr, ⊎_elim, zero, suc, ◌==◌, slice_get, Some}
use Rattle.std.specs.List.{AllByRecursion, enumerate_from}
use Rattle.std.proofs.lemmas.Bool.{ltb-true, cond-false}
use Rattle.std.proofs.lemmas.List.Sums.{sum_by-cons}
use Rattle.std.proofs.lemmas.List.{length-map}
use Rattle.plain_lists.proofs.Each.{all_at, all_both, all_weaker, all_map, all_flat_map, all_filter, all_enumerated}
use Rattle.sf_defs.specs.declared.Op.{Op}
use Rattle.sf_defs.specs.declared.Op.TheVariants.{Load, Sum, Min, Max, Or, And, Replace}
use Rattle.sf_defs.specs.declared.Ask.{Ask}
use Rattle.sf_defs.specs.declared.Leaf.{Leaf}
use Rattle.sf_defs.specs.PrintedOrder.{kind_of, is_load}
use Rattle.sf_defs.specs.Rounds.{MeetsConditions, all_asks, asks_on}
use Rattle.sf_defs.specs.Forest.{Forest, IsForest, has_root, leaves_on, flaw}
use Rattle.sf_graph.specs.Parts.{IsForRanks}
use Rattle.sf_graph.proofs.Ranks.{ranks_have_roots}
use Rattle.sf_ops.specs.Asked.{word_of, own_asks, ask_of, asks_of, words_of, AreRootValues, MayAsk}
use Rattle.sf_ops.proofs.Words.{first_word-within, length-words_of, length-asks_of}

-- what holds of each ask of each leaf holds of all asks
pub all_asked : (P : Ask → Type 0) (Q : Leaf → Type 0) (f : Forest) (op : Op) (values : List (List ℕ)) → ((own : List ℕ) (l : Leaf) → Q l → P (ask_of f.roots op own l)) → AllByRecursion (λ own. AllByRecursion Q own) f.leaves → AllByRecursion (λ own. AllByRecursion P own) (asks_of f op values)
unfolding asks_of
all_asked P Q f op values each all = all_map (λ own. AllByRecursion P own) (λ (r : ℕ × List Leaf). own_asks f.roots op (get_or values r.0 []) r.1) (enumerate_from 0 f.leaves)
    (all_weaker (λ (r : ℕ × List Leaf). AllByRecursion Q r.1) (λ (r : ℕ × List Leaf). AllByRecursion P (own_asks f.roots op (get_or values r.0 []) r.1)) (λ r own. all_map P (ask_of f.roots op (get_or values r.0 [])) r.1 (all_weaker Q (λ l. P (ask_of f.roots op (get_or values r.0 []) l)) (λ l q. each (get_or values r.0 []) l q) r.1 own)) (enumerate_from 0 f.leaves)
    (all_enumerated (λ own. AllByRecursion Q own) 0 f.leaves all))

-- each leaf of a forest names a root
pub leaves_have_roots : (f : Forest) → IsForest f → AllByRecursion (λ own. AllByRecursion (λ l. has_root f.roots l ≡ true) own) f.leaves
unfolding flaw
leaves_have_roots f right = ranks_have_roots f.roots 0 f.leaves right

-- a rank with roots is one
rank_has_roots : (roots : List ℕ) (rank index : ℕ) → index < get_or roots rank 0 → rank < length roots
rank_has_roots [] rank index h = absurd (omega arith)
rank_has_roots (n ∷ ns) zero index h = omega arith
rank_has_roots (n ∷ ns) (suc rank) index h = let below = rank_has_roots ns rank index h in omega arith

-- a leaf with a root has a word
pub word-within : (roots : List ℕ) (l : Leaf) → has_root roots l ≡ true → (l.rank < length roots) × (word_of roots l < sum roots)
word-within roots l h =
    let index : l.index < get_or roots l.rank 0 = ltb-true l.index (get_or roots l.rank 0) h in
    let rank = rank_has_roots roots l.rank l.index index in
    let within = first_word-within roots l.rank rank in
    (rank, omega arith)

-- asks of one operation are of one kind
kind_of_one : (op : Op) (asks : List Ask) → AllByRecursion (λ (a : Ask). a.op ≡ op) asks → AllByRecursion (λ (a : Ask). (a.op ≡ Load) ⊎ (op ≡ kind_of asks)) asks
kind_of_one op [] h = tt
kind_of_one op (a ∷ asks) h = go (is_load op) refl
  where
    load : (o : Op) → is_load o ≡ true → o ≡ Load
    load Load e = refl
    load Sum e = cc e
    load Min e = cc e
    load Max e = cc e
    load Or e = cc e
    load And e = cc e
    load Replace e = cc e

    go : (b : Bool) → is_load op ≡ b → AllByRecursion (λ (x : Ask). (x.op ≡ Load) ⊎ (op ≡ kind_of (a ∷ asks))) (a ∷ asks)
    go true e = all_weaker (λ (x : Ask). x.op ≡ op) (λ (x : Ask). (x.op ≡ Load) ⊎ (op ≡ kind_of (a ∷ asks))) (λ x same. inl (same ∙ load op e)) (a ∷ asks) h
    go false e =
        let kind : op ≡ kind_of (a ∷ asks) = sym h.0 ∙ sym (cond-false (is_load a.op) (kind_of asks) a.op (ap is_load h.0 ∙ e)) in
        all_weaker (λ (x : Ask). x.op ≡ op) (λ (x : Ask). (x.op ≡ Load) ⊎ (op ≡ kind_of (a ∷ asks))) (λ x same. inr kind) (a ∷ asks) h

pub one_kind : (op : Op) (asks : List Ask) → AllByRecursion (λ (a : Ask). a.op ≡ op) asks → AllByRecursion (λ (a : Ask). (a.op ≡ Load) ⊎ (a.op ≡ kind_of asks)) asks
one_kind op asks h = all_both (λ (a : Ask). a.op ≡ op) (λ (a : Ask). (a.op ≡ Load) ⊎ (op ≡ kind_of asks)) (λ (a : Ask). (a.op ≡ Load) ⊎ (a.op ≡ kind_of asks)) (λ a same kind. ⊎_elim (λ load. inl load) (λ k. inr (same ∙ k)) kind) asks h (kind_of_one op asks h)

-- the leaves of a rank are few
few_asked : (f : Forest) (op : Op) (values : List (List ℕ)) → sum_by length f.leaves < 2 ^ 32 → AllByRecursion (λ (own : List Ask). length own < 2 ^ 32) (asks_of f op values)
unfolding asks_of
few_asked f op values few = all_map (λ (own : List Ask). length own < 2 ^ 32) (λ (r : ℕ × List Leaf). own_asks f.roots op (get_or values r.0 []) r.1) (enumerate_from 0 f.leaves)
    (all_weaker (λ (r : ℕ × List Leaf). length r.1 < 2 ^ 32) (λ (r : ℕ × List Leaf). length (own_asks f.roots op (get_or values r.0 []) r.1) < 2 ^ 32) (λ r own. subst (λ (n : ℕ). n < 2 ^ 32) (sym (length-map r.1 (ask_of f.roots op (get_or values r.0 [])))) own) (enumerate_from 0 f.leaves)
    (all_enumerated (λ (own : List Leaf). length own < 2 ^ 32) 0 f.leaves (each_few f.leaves few)))
  where
    each_few : (ls : List (List Leaf)) → sum_by length ls < 2 ^ 32 → AllByRecursion (λ (own : List Leaf). length own < 2 ^ 32) ls
    each_few [] few = tt
    each_few (l ∷ ls) few = let e = sum_by-cons length l ls in (omega arith, each_few ls (omega arith))

-- what is asked of a forest's roots may be asked of a round
pub forest_meets : (f : Forest) (op : Op) (leaves roots : List (List ℕ)) → IsForest f → IsForRanks f → AreRootValues f roots → MayAsk f op leaves roots → MeetsConditions (words_of roots) (asks_of f op leaves)
forest_meets f op leaves roots right ranks values may = record {
  some_rank = subst (λ (n : ℕ). 1 ≤ n) (sym (length-asks_of f op leaves ∙ ranks.ranks)) ranks.some_rank;
  few_ranks = subst (λ (n : ℕ). n ≤ 64) (sym (length-asks_of f op leaves ∙ ranks.ranks)) ranks.few_ranks;
  few_words = subst (λ (n : ℕ). n < 2 ^ 32) (sym count) ranks.few_roots;
  few_asks = few_asked f op leaves ranks.few_leaves;
  in_range = all_flat_map (λ (a : Ask). a.word < length (words_of roots)) (λ own. own) (asks_of f op leaves) (all_asked (λ (a : Ask). a.word < length (words_of roots)) (λ l. has_root f.roots l ≡ true) f op leaves (λ own l has. subst (λ (n : ℕ). word_of f.roots l < n) (sym count) (word-within f.roots l has).1) (leaves_have_roots f right));
  plain_loads = may.plain_loads;
  words_suit = λ w within. record {
    one_kind = one_kind op (asks_on w (asks_of f op leaves)) (all_filter (λ (a : Ask). a.op ≡ op) (λ (a : Ask). a.word == w) (all_asks (asks_of f op leaves)) same);
    one_replace = may.one_replace w within;
    sums_fit = may.sums_fit w within;
  };
}
  where
    count : length (words_of roots) ≡ sum f.roots
    count = length-words_of roots ∙ ap sum values

    same : AllByRecursion (λ (a : Ask). a.op ≡ op) (all_asks (asks_of f op leaves))
    same = all_flat_map (λ (a : Ask). a.op ≡ op) (λ own. own) (asks_of f op leaves) (all_asked (λ (a : Ask). a.op ≡ op) (λ l. has_root f.roots l ≡ true) f op leaves (λ own l has. refl) (leaves_have_roots f right))

-- a leaf that a reader gives stands at its place
pub at_place : {X : Type 0} (xs : List X) (i : ℕ) (x : X) → slice_get xs i ≡ Some x → (i < length xs) × (get_or xs i x ≡ x)
at_place [] i x e = absurd (cc e)
at_place (y ∷ ys) zero x e = (omega arith, sym (some_same y x e))
  where
    some_same : {X : Type 0} (a b : X) → Some a ≡ Some b → b ≡ a
    some_same a b h = cc h
at_place (y ∷ ys) (suc i) x e = let rest = at_place ys i x e in (omega (arith, rest.0), rest.1)

-- each leaf of a rank names a root
pub leaf_has_root : (f : Forest) (rank i : ℕ) (l : Leaf) → IsForest f → rank < length f.leaves → i < length (leaves_on f rank) → get_or (leaves_on f rank) i l ≡ l → has_root f.roots l ≡ true
leaf_has_root f rank i l right in-ranks in-leaves here = subst (λ (x : Leaf). has_root f.roots x ≡ true) here (all_at (λ l. has_root f.roots l ≡ true) (leaves_on f rank) i l (all_at (λ own. AllByRecursion (λ l. has_root f.roots l ≡ true) own) f.leaves rank [] (leaves_have_roots f right) in-ranks) in-leaves)
