-- Asks of the one operation Min meet the conditions of a round.
use Rattle.std.proofs.Common.{◌≡◌, ℕ, ◌^◌, ◌<◌, ◌≤◌, List, [], ◌∷◌, length, get_or, arith, refl, sym, ◌∙◌, inr}
use Rattle.std.specs.Prelude.{◌⊎◌, ◌==◌, count_by, sum_by}
use Rattle.std.specs.List.{AllByRecursion}
use Rattle.std.proofs.lemmas.List.Sums.{sum_by-cons}
use Rattle.plain_lists.proofs.Each.{all_filter, all_flat_map, all_weaker}
use Rattle.sf_defs.specs.declared.Ask.{Ask}
use Rattle.sf_defs.specs.declared.Op.TheVariants.{Load, Min, Replace}
use Rattle.sf_defs.specs.PrintedOrder.{kind_of}
use Rattle.sf_defs.specs.Rounds.{MeetsConditions, SuitsWord, added, all_asks, asks_on, same_op}
use Rattle.sf_count.specs.Asks.{AreMins, IsMin}

abbrev IsOne : Ask → Type 0
IsOne a = a.op ≡ Min

kinds : (asks all : List Ask) → kind_of all ≡ Min → AllByRecursion IsOne asks → AllByRecursion (λ a. (a.op ≡ Load) ⊎ (a.op ≡ kind_of all)) asks
kinds asks all is = all_weaker IsOne (λ a. (a.op ≡ Load) ⊎ (a.op ≡ kind_of all)) (λ a one. inr (one ∙ sym is)) asks

kind_is : (a : Ask) (asks : List Ask) → a.op ≡ Min → kind_of (a ∷ asks) ≡ Min
kind_is a asks is = rw is refl

one_kind : (asks : List Ask) → AllByRecursion IsOne asks → AllByRecursion (λ a. (a.op ≡ Load) ⊎ (a.op ≡ kind_of asks)) asks
one_kind [] h = h
one_kind (a ∷ asks) h = kinds (a ∷ asks) (a ∷ asks) (kind_is a asks h.0) h

none_replaced : (asks : List Ask) → AllByRecursion IsOne asks → count_by (λ (a : Ask). same_op a.op Replace) asks ≡ 0
none_replaced [] h = refl
none_replaced (a ∷ asks) h = rw h.0 (none_replaced asks h.1)

none_added : (asks : List Ask) → AllByRecursion IsOne asks → sum_by added asks ≡ 0
none_added [] h = refl
none_added (a ∷ asks) h = rw (sum_by-cons added a asks, h.0, none_added asks h.1) refl

suits : (first : ℕ) (asks : List Ask) → first < 2 ^ 64 → AllByRecursion IsOne asks → SuitsWord first asks
suits first asks fits h = record {
  one_kind = one_kind asks h;
  one_replace = let none = none_replaced asks h in omega arith;
  sums_fit = let none = none_added asks h in omega arith;
}

pub meets : (words : ℕ) (before : List ℕ) (asks : List (List Ask)) → length before ≡ words → words < 2 ^ 32 → ((w : ℕ) → get_or before w 0 < 2 ^ 64) → 1 ≤ length asks → length asks ≤ 64 → AllByRecursion (AreMins words) asks → MeetsConditions before asks
meets words before asks is few small some most all =
    let each = all_flat_map (IsMin words) (λ own. own) asks (all_weaker (AreMins words) (λ own. AllByRecursion (IsMin words) own) (λ own h. h.1) asks all) in
    let mins = all_weaker (IsMin words) IsOne (λ a h. h.0) (all_asks asks) each in
    record {
      some_rank = some;
      few_ranks = most;
      few_words = omega arith;
      few_asks = all_weaker (AreMins words) (λ own. length own < 2 ^ 32) (λ own h. h.0) asks all;
      in_range = all_weaker (IsMin words) (λ a. a.word < length before) (λ a h. rw is h.1) (all_asks asks) each;
      plain_loads = all_weaker IsOne (λ a. a.op ≡ Load → a.value ≡ 0) (λ a one load. let bad = rw one at load in cc) (all_asks asks) mins;
      words_suit = λ w lt. suits (get_or before w 0) (asks_on w asks) (small w) (all_filter IsOne (λ (a : Ask). a.word == w) (all_asks asks) mins);
    }
