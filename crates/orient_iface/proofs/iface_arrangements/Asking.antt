-- What the reduction asks for.
use Rattle.std.proofs.Common.{◌≡◌, ℕ, ◌^◌, ◌<◌, false, cond, ◌==◌, List, [], ◌∷◌, length, map, get_or, sum_by, refl, subst, sym, ap, ◌∙◌, arith}
use Rattle.std.specs.List.{AllByRecursion}
use Rattle.std.proofs.lemmas.List.Sums.{sum_by-cons}
use Rattle.plain_lists.proofs.Each.{all_filter, all_flat_map, all_weaker}
use Rattle.plain_lists.proofs.Filters.{count_nothing}
use Rattle.rank_chart_laws.proofs.field_laws.Sums.{all-or}
use Rattle.sf_defs.specs.declared.Op.TheVariants.{Load, Sum, Max, Replace}
use Rattle.sf_defs.specs.declared.Ask.{Ask}
use Rattle.sf_defs.specs.declared.Leaf.{Leaf}
use Rattle.sf_defs.specs.Forest.{Forest, leaves_on}
use Rattle.std.proofs.lemmas.List.{length-map}
use Rattle.orient_iface.proofs.iface_keys.Bounds.{length-entry}
use Rattle.sf_defs.specs.Rounds.{added, all_asks, asks_on, same_op}
use Rattle.sf_ops.specs.Asked.{asks_of, words_of, CoverLeaves, MayAsk}
use Rattle.rank_cones.proofs.arrangement_laws.Greatest.{all-max}

-- asks of Max may be asked of any words
pub may-ask : (f : Forest) (words roots : List (List ℕ)) → AllByRecursion (AllByRecursion (λ w. w < 2 ^ 64)) roots → MayAsk f Max words roots
may-ask f words roots low = record {
  plain_loads = all_weaker (λ (a : Ask). a.op ≡ Max) (λ (a : Ask). a.op ≡ Load → a.value ≡ 0) (λ a e h. let z : Max ≡ Load = sym e ∙ h in absurd (cc z)) (all_asks (asks_of f Max words)) (all-max f words);
  one_replace = λ w h. let e = count_nothing (λ (a : Ask). same_op a.op Replace) (asks_on w (asks_of f Max words)) (all_weaker (λ (a : Ask). a.op ≡ Max) (λ (a : Ask). same_op a.op Replace ≡ false) (λ a e. ap (λ o. same_op o Replace) e) (asks_on w (asks_of f Max words)) (on-word w)) in omega (arith, e);
  sums_fit = λ w h.
      let none = none-added (asks_on w (asks_of f Max words)) (on-word w) in
      let small = all-or (λ k. k < 2 ^ 64) (words_of roots) w 0 (all_flat_map (λ k. k < 2 ^ 64) (λ (own : List ℕ). own) roots low) (omega arith) in
      omega (arith, none, small);
}
  where
    on-word : (w : ℕ) → AllByRecursion (λ (a : Ask). a.op ≡ Max) (asks_on w (asks_of f Max words))
    on-word w = all_filter (λ (a : Ask). a.op ≡ Max) (λ (a : Ask). a.word == w) (all_asks (asks_of f Max words)) (all-max f words)

    none-added : (asks : List Ask) → AllByRecursion (λ (a : Ask). a.op ≡ Max) asks → sum_by added asks ≡ 0
    none-added [] h = refl
    none-added (a ∷ asks) h =
        let first : added a ≡ 0 = ap (λ o. cond (same_op o Sum) a.value 0) h.0 in
        let rest = none-added asks h.1 in
        omega (arith, first, rest, sum_by-cons added a asks)

-- where some lists have a value at each leaf, lists of the same lengths have one
pub covers-same : (f : Forest) (vs ws : List (List ℕ)) → map length ws ≡ map length vs → CoverLeaves f vs → CoverLeaves f ws
covers-same f vs ws e h = record {
  ranks = sym (length-map ws length) ∙ (ap length e ∙ (length-map vs length ∙ h.ranks));
  places = λ rank low. subst (λ n. AllByRecursion (λ (l : Leaf). l.local < n) (leaves_on f rank)) (length-entry vs rank ∙ (ap (λ ns. get_or ns rank 0) (sym e) ∙ sym (length-entry ws rank))) (h.places rank low);
}
