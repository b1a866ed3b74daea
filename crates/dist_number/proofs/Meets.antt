-- One Sum of each rank meets the conditions of a round.
use Rattle.std.proofs.Common.{◌≡◌, ◌⊎◌, ℕ, ◌+◌, ◌*◌, ◌^◌, ◌<◌, ◌≤◌, List, [], ◌∷◌, map, length, get_or, cond, sum_by, count_by, refl, sym, ap, ◌∙◌, subst, arith, inr}
use Rattle.std.specs.List.{AllByRecursion}
use Rattle.std.proofs.lemmas.List.Sums.{sum_by-cons}
use Rattle.std.proofs.lemmas.List.{length-map}
use Rattle.plain_lists.proofs.Each.{all_map, all_from}
use Rattle.sf_defs.specs.declared.Op.TheVariants.{Sum, Load, Replace}
use Rattle.sf_defs.specs.declared.Ask.{Ask}
use Rattle.sf_defs.specs.PrintedOrder.{kind_of}
use Rattle.sf_defs.specs.Rounds.{Round, IsLegal, added, all_asks, asks_on, same_op, SuitsWord, MeetsConditions}
use Rattle.dist_number.specs.Asked.{sum_of, sums_of}
use Rattle.dist_number.specs.Drawn.{HasOneWord}

-- all of them are on the one word
pub all_asks-sums : (values : List ℕ) → all_asks (sums_of values) ≡ map sum_of values
unfolding sums_of
all_asks-sums [] = refl
all_asks-sums (v ∷ vs) = ap (λ (l : List Ask). sum_of v ∷ l) (all_asks-sums vs)

pub asks_on-sums : (values : List ℕ) → asks_on 0 (sums_of values) ≡ map sum_of values
unfolding sums_of
asks_on-sums [] = refl
asks_on-sums (v ∷ vs) = ap (λ (l : List Ask). sum_of v ∷ l) (asks_on-sums vs)

-- they are Sums
pub kind-sums : (values : List ℕ) → 1 ≤ length values → kind_of (map sum_of values) ≡ Sum
kind-sums [] some = absurd (omega (arith, some))
kind-sums (v ∷ vs) some = refl

no-replace : (values : List ℕ) → count_by (λ (a : Ask). same_op a.op Replace) (map sum_of values) ≡ 0
no-replace [] = refl
no-replace (v ∷ vs) = omega (arith, sum_by-cons (λ (a : Ask). cond (same_op a.op Replace) 1 0) (sum_of v) (map sum_of vs), no-replace vs)

-- of the values
pub added-sums : (values : List ℕ) → sum_by added (map sum_of values) ≡ sum_by (λ v. v) values
added-sums [] = refl
added-sums (v ∷ vs) = sum_by-cons added (sum_of v) (map sum_of vs) ∙ (ap (λ n. v + n) (added-sums vs) ∙ sym (sum_by-cons (λ n. n) v vs))

-- numbers below 2^32 add up to less than so many times 2^32
sum-small : (values : List ℕ) → AllByRecursion (λ v. v < 2 ^ 32) values → sum_by (λ v. v) values ≤ length values * 2 ^ 32
sum-small [] h = omega arith
sum-small (v ∷ vs) h = omega (arith, h.0, sum-small vs h.1, sum_by-cons (λ n. n) v vs)

-- at most 64 ranks with numbers of 32 bits
pub sums-meet : (values : List ℕ) → 1 ≤ length values → length values ≤ 64 → AllByRecursion (λ v. v < 2 ^ 32) values → MeetsConditions (0 ∷ []) (sums_of values)
unfolding sums_of
sums-meet values some few small =
    let count = length-map values (λ (v : ℕ). sum_of v ∷ []) in
    record {
      some_rank = omega (arith, some, count);
      few_ranks = omega (arith, few, count);
      few_words = omega arith;
      few_asks = all_map (λ (own : List Ask). length own < 2 ^ 32) (λ (v : ℕ). sum_of v ∷ []) values (all_from _ (λ v. omega arith) values);
      in_range = subst (AllByRecursion (λ (a : Ask). a.word < 1)) (sym (all_asks-sums values)) (all_map (λ (a : Ask). a.word < 1) sum_of values (all_from _ (λ v. omega arith) values));
      plain_loads = subst (AllByRecursion (λ (a : Ask). a.op ≡ Load → a.value ≡ 0)) (sym (all_asks-sums values)) (all_map (λ (a : Ask). a.op ≡ Load → a.value ≡ 0) sum_of values (all_from _ (λ v e. absurd (cc e)) values));
      words_suit = λ w low. suits w (omega (arith, low));
    }
  where
    first : SuitsWord 0 (map sum_of values)
    first = record {
      one_kind = all_map (λ (a : Ask). (a.op ≡ Load) ⊎ (a.op ≡ kind_of (map sum_of values))) sum_of values (all_from _ (λ v. inr (sym (kind-sums values some))) values);
      one_replace = omega (arith, no-replace values);
      sums_fit = omega (arith, added-sums values, sum-small values small, few);
    }

    suits : (w : ℕ) → w ≡ 0 → SuitsWord (get_or (0 ∷ []) w 0) (asks_on w (sums_of values))
    suits w is = subst (λ v. SuitsWord (get_or (0 ∷ []) v 0) (asks_on v (sums_of values))) (sym is) (subst (SuitsWord 0) (sym (asks_on-sums values)) first)

-- ---- what such a round fetches

-- in a legal round of them each rank fetches one number, and the word has one last value
pub one-each : (r : Round) (values : List ℕ) → IsLegal r → r.before ≡ 0 ∷ [] → r.asks ≡ sums_of values → HasOneWord r
unfolding sums_of
one-each r values legal before asks = record {
  got = lengths r.got values (legal.fetched ∙ ap (map length) asks);
  after = legal.lasts ∙ ap length before;
}
  where
    lengths : (got : List (List ℕ)) (vs : List ℕ) → map length got ≡ map length (map (λ (v : ℕ). sum_of v ∷ []) vs) → AllByRecursion (λ (own : List ℕ). length own ≡ 1) got
    lengths [] vs e = tt
    lengths (own ∷ got) [] e = absurd (cc e)
    lengths (own ∷ got) (v ∷ vs) e = (cc e, lengths got vs (cc e))

-- as many lists as ranks
pub count-got : (r : Round) (values : List ℕ) → IsLegal r → r.asks ≡ sums_of values → length r.got ≡ length values
unfolding sums_of
count-got r values legal asks = omega (arith, ap length legal.fetched, length-map r.got (length {A = ℕ}), length-map r.asks (length {A = Ask}), ap length asks, length-map values (λ (v : ℕ). sum_of v ∷ []))
