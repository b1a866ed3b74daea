-- Sums of 1 draw each number once, and words that are gathered come back.
use Rattle.std.proofs.Common.{◌≡◌, ℕ, ◌+◌, ◌<◌, true, cond, ◌==◌, List, [], ◌∷◌, length, map, get_or, count_by, Option, Some, None, arith, refl, ap, sym, subst, ◌∙◌}
use Rattle.std.specs.Prelude.{find, option_map}
use Rattle.std.specs.List.{AllByRecursion}
use Rattle.std.proofs.lemmas.Bool.{ltb-true}
use Rattle.plain_lists.proofs.Finding.{find-has}
use Rattle.sf_defs.specs.declared.Leaf.{Leaf}
use Rattle.sf_defs.specs.declared.Ask.{Ask}
use Rattle.sf_defs.specs.Asks.{Entry, on_word, word_after}
use Rattle.sf_defs.specs.Rounds.{Round, IsLegal, entries, asks_on}
use Rattle.sf_defs.specs.Forest.{Forest, IsForest, root_at, leaves_on, root_of, has_root, roots_on}
use Rattle.round_laws.specs.LastValues.{took}
use Rattle.round_laws.proofs.LastValues.{legal-last}
use Rattle.round_laws.proofs.Sums.{legal-sums}
use Rattle.round_laws.proofs.Entries.{asks_on-entries}
use Rattle.rank_laws.proofs.Forests.{sound}
use Rattle.rank_laws.proofs.Inverting.{leaf-found}
use Rattle.sf_defs.specs.slots.Slots.{HasLoneLeaves}
use Rattle.sf_ops.specs.Copies.{AreCopies, value_or}
use Rattle.sf_ops.specs.slots.Gathered.{gathered}
use Rattle.sf_ops.specs.slots.Ones.{AddsOne}
use Rattle.sf_ops.proofs.slots.Counted.{count-cons}
use Rattle.sf_ops.proofs.slots.Drawn.{ones-kind, ones-after, took-one}
use Rattle.sf_ops.proofs.slots.Draws.{ones-added, rank_of_root}
use Rattle.sf_ops.proofs.slots.Gathers.{gathered-at}

-- where all asks add 1, as many took a number as fetched it
took-fetched : (n : ℕ) (es : List Entry) → AllByRecursion AddsOne (map (λ (e : Entry). e.ask) es) → count_by (took n) es ≡ count_by (λ e. e.got == n) es
took-fetched n [] h = refl
took-fetched n (e ∷ es) h =
    count-cons (took n) e es
    ∙ ((λ i. cond (took-one e.ask e.rank e.index e.got n h.0 i) 1 0 + took-fetched n es h.1 i) ∙ sym (count-cons (λ (x : Entry). x.got == n) e es))

-- Sums of 1 on a word that is 0 draw each number once
pub ones-once : (r : Round) → IsLegal r → (w : ℕ) → w < length r.before → get_or r.before w 0 ≡ 0 → AllByRecursion AddsOne (asks_on w r.asks) → (n : ℕ) → n < length (asks_on w r.asks) → count_by (λ e. e.got == n) (on_word w (entries r.asks r.got)) ≡ 1
ones-once r legal w within first ones n low =
    let on : List Ask = asks_on w r.asks in
    let suits = legal.conditions.words_suit w within in
    let size = ones-added on ones in
    let fits = suits.sums_fit in
    let last : get_or r.after w 0 ≡ length on = legal-last r legal w within ∙ (ap (λ v. word_after v on) first ∙ (ones-after 0 on ones (omega arith) ∙ omega arith)) in
    let one = legal-sums r legal w n within (ones-kind on (omega arith) ones) (omega arith) (omega arith) in
    let asked = asks_on-entries w r.asks r.got legal.fetched in
    sym (took-fetched n (on_word w (entries r.asks r.got)) (subst (AllByRecursion AddsOne) (sym asked) ones)) ∙ one

-- the root of a leaf is there
root_there : (m : Forest) → IsForest m → (rank local : ℕ) (root : ℕ × ℕ) → root_of m rank local ≡ Some root → root.1 < roots_on m root.0
unfolding root_of
root_there m right rank local root e = go (find (λ (l : Leaf). l.local == local) (leaves_on m rank)) refl e
  where
    go : (o : Option Leaf) → find (λ (l : Leaf). l.local == local) (leaves_on m rank) ≡ o → option_map root_at o ≡ Some root → root.1 < roots_on m root.0
    go None f h = absurd (cc h)
    go (Some l) f h =
        let has = find-has (λ (x : Leaf). has_root m.roots x ≡ true) (λ (x : Leaf). x.local == local) (leaves_on m rank) l (sound m right rank).rooted f in
        let same : root_at l ≡ root = cc h in
        subst (λ (x : ℕ × ℕ). x.1 < roots_on m x.0) same (ltb-true l.index (roots_on m l.rank) has)

-- words that are gathered and scattered come back to each leaf
pub words-back : (m : Forest) (words before after : List (List ℕ)) → IsForest m → HasLoneLeaves m → AreCopies m (gathered m words) before after → (rank local : ℕ) (root : ℕ × ℕ) → root_of m rank local ≡ Some root → get_or (get_or after rank []) local 0 ≡ get_or (get_or words rank []) local 0
words-back m words before after right lone copies rank local root e =
    let there = root_there m right rank local root e in
    let one = lone root.0 root.1 there in
    let leaf = leaf-found m rank local root (omega arith) e in
    copies rank local
    ∙ (ap (value_or (gathered m words) (get_or (get_or before rank []) local 0)) e
    ∙ (gathered-at m words root.0 root.1 (rank_of_root m.roots root.0 root.1 there) there ∙ ap (value_or words 0) leaf))
