-- Sums over the copies of points, by a reduction and a broadcast.
use Rattle.std.proofs.Common.{◌≡◌, ℕ, zero, suc, ◌+◌, ◌^◌, ◌<◌, true, false, List, [], ◌∷◌, ◌==◌, length, map, get_or, sum, sum_by, Option, Some, None, arith, refl, ap, sym, subst, ◌∙◌}
use Rattle.std.specs.Prelude.{unwrap_or}
use Rattle.std.specs.List.{AllByRecursion}
use Rattle.plain_lists.proofs.Each.{all_weaker, all_from}
use Rattle.plain_lists.proofs.Filters.{count_nothing, filter_whole}
use Rattle.sf_defs.specs.declared.Op.TheVariants.{Load, Replace, Sum}
use Rattle.sf_defs.specs.declared.Ask.{Ask}
use Rattle.sf_defs.specs.Rounds.{added, all_asks, asks_on, same_op}
use Rattle.sf_defs.specs.Forest.{Forest, IsForest, root_of, roots_on}
use Rattle.sf_ops.specs.Asked.{asks_of, first_word, words_of, AreRootValues, MayAsk}
use Rattle.sf_ops.specs.Copies.{value_or, AreCopies}
use Rattle.sf_ops.specs.Folds.{AreFolds}
use Rattle.sf_ops.proofs.Conditions.{leaves_have_roots}
use Rattle.sf_ops.proofs.Words.{first_word-within, length-words_of}
use Rattle.rank_laws.proofs.Inverting.{root-there}
use Rattle.sf_defs.specs.sums.Sums.{sum_at, word_at, AreSums, SumsFit}
use Rattle.sf_ops.proofs.sums.Lists.{length-at}
use Rattle.sf_ops.proofs.sums.Asked.{all-sums, leaves-add, sums-after, word-there, word_root}

-- a place below a number that stands in a list
in-list : (xs : List ℕ) (k n : ℕ) → n < get_or xs k 0 → k < length xs
in-list [] k n h = absurd (omega arith)
in-list (x ∷ xs) zero n h = omega arith
in-list (x ∷ xs) (suc k) n h = let r = in-list xs k n h in omega arith

module _ (f : Forest) (values : List (List ℕ)) (right : IsForest f) (places : AreRootValues f values) where
  -- as many words as roots
  word-count : length (words_of values) ≡ sum f.roots
  word-count = length-words_of values ∙ ap sum places

  -- the word of a root
  root-word : (rank index : ℕ) → index < roots_on f rank → get_or (words_of values) (first_word f.roots rank + index) 0 ≡ word_at values rank index
  root-word rank index low = ap (λ roots. get_or (words_of values) (first_word roots rank + index) 0) (sym places) ∙ word-there values rank index (subst (λ n. index < n) (sym (length-at values rank ∙ ap (λ ns. get_or ns rank 0) places)) low)

  -- it and all that is added to it
  word-sum : (rank index : ℕ) → index < roots_on f rank → get_or (words_of values) (first_word f.roots rank + index) 0 + sum_by added (asks_on (first_word f.roots rank + index) (asks_of f Sum values)) ≡ sum_at f values (rank, index)
  unfolding sum_at
  word-sum rank index low = λ i. root-word rank index low i + leaves-add f values rank index (in-list f.roots rank index low) low (leaves_have_roots f right) i

  -- the sums may be asked
  pub may-sum : SumsFit f values → MayAsk f Sum values values
  may-sum fit = record {
    plain_loads = all_weaker (λ (a : Ask). a.op ≡ Sum) (λ (a : Ask). a.op ≡ Load → a.value ≡ 0) (λ a is load. absurd (apart (sym is ∙ load))) all (subst (AllByRecursion (λ (a : Ask). a.op ≡ Sum)) (filter_whole (λ (a : Ask). true) all (all_from (λ (a : Ask). true ≡ true) (λ a. refl) all)) (all-sums f values (λ a. true)));
    one_replace = λ w h. let none = count_nothing (λ (a : Ask). same_op a.op Replace) (asks_on w (asks_of f Sum values)) (all_weaker (λ (a : Ask). a.op ≡ Sum) (λ (a : Ask). same_op a.op Replace ≡ false) (λ a is. ap (λ op. same_op op Replace) is) (asks_on w (asks_of f Sum values)) (all-sums f values (λ (a : Ask). a.word == w))) in omega arith;
    sums_fit = λ w h. let r = word_root f.roots w (subst (λ n. w < n) word-count h) in subst (λ v. get_or (words_of values) v 0 + sum_by added (asks_on v (asks_of f Sum values)) < 2 ^ 64) (sym r.is) (subst (λ n. n < 2 ^ 64) (sym (word-sum r.rank r.index r.in_roots)) (fit r.rank r.index));
  }
    where
      apart : Sum ≡ Load → ⊥
      apart e = cc e

      all : List Ask
      all = all_asks (asks_of f Sum values)

  -- what the reduction leaves at a root
  reduced : (roots : List (List ℕ)) → SumsFit f values → AreFolds (asks_of f Sum values) (words_of values) (words_of roots) → AreRootValues f roots → (rank index : ℕ) → index < roots_on f rank → word_at roots rank index ≡ sum_at f values (rank, index)
  reduced roots fit folds shape rank index low =
      let w : ℕ = first_word f.roots rank + index in
      let there = word-there roots rank index (subst (λ n. index < n) (sym (length-at roots rank ∙ ap (λ ns. get_or ns rank 0) shape)) low) in
      let sum = word-sum rank index low in
      let last = first_word-within f.roots rank (in-list f.roots rank index low) in
      let count = word-count in
      let inside : w < length (words_of values) = omega arith in
      sym there ∙ (ap (λ ns. get_or (words_of roots) (first_word ns rank + index) 0) shape ∙ (folds.words w inside ∙ (sums-after (get_or (words_of values) w 0) (asks_on w (asks_of f Sum values)) (all-sums f values (λ (a : Ask). a.word == w)) (subst (λ n. n < 2 ^ 64) (sym sum) (fit rank index)) ∙ sum)))

  -- and the broadcast at each place
  pub all-summed : (roots sums : List (List ℕ)) → SumsFit f values → AreFolds (asks_of f Sum values) (words_of values) (words_of roots) → AreRootValues f roots → AreCopies f roots roots sums → map length sums ≡ map length roots → AreSums f values sums
  all-summed roots sums fit folds shape copies same = record {
    shape = same ∙ (shape ∙ sym places);
    each = λ rank local low. copies rank local ∙ go rank local (subst (λ n. local < n) (length-at values rank ∙ ap (λ ns. get_or ns rank 0) places) low) (root_of f rank local) refl;
  }
    where
      go : (rank local : ℕ) → local < roots_on f rank → (o : Option (ℕ × ℕ)) → root_of f rank local ≡ o → value_or roots (word_at roots rank local) o ≡ sum_at f values (unwrap_or o (rank, local))
      go rank local low None e = reduced roots fit folds shape rank local low
      go rank local low (Some root) e = reduced roots fit folds shape root.0 root.1 (root-there f right rank local root e)
