-- What holders ask meets the conditions of a round.
use Rattle.std.proofs.Common.{◌≡◌, ◌⊎◌, ℕ, zero, suc, ◌+◌, ◌<◌, ◌≤◌, ◌^◌, false, cond, not, ◌==◌, List, [], ◌∷◌, map, length, get_or, sum_by, refl, sym, ap, ap₂, ◌∙◌, inr, arith}
use Rattle.std.specs.Prelude.{replicate}
use Rattle.std.specs.List.{AllByRecursion}
use Rattle.std.proofs.lemmas.List.{length-map, length-replicate}
use Rattle.std.proofs.lemmas.List.Filters.{length-filter_both}
use Rattle.std.proofs.lemmas.List.Sums.{sum_by-cons}
use Rattle.plain_lists.specs.Lists.{below}
use Rattle.plain_lists.proofs.Below.{length-below, below-all}
use Rattle.plain_lists.proofs.Each.{all_weaker, all_from, all_map, all_filter, all_flat_map}
use Rattle.plain_lists.proofs.Filters.{count_nothing}
use Rattle.mesh_defs.specs.Mesh.{Mesh}
use Rattle.sf_defs.specs.declared.Op.TheVariants.{Load, Sum, Min, Replace}
use Rattle.sf_defs.specs.declared.Ask.{Ask}
use Rattle.sf_defs.specs.PrintedOrder.{is_load, kind_of}
use Rattle.sf_defs.specs.Rounds.{all_asks, asks_on, same_op, added, SuitsWord, MeetsConditions}
use Rattle.rank_defs.specs.Ranks.{IsRightAssignment, assigned}
use Rattle.headline_laws.specs.seed_laws.Given.{has_vertex, vertices_of}
use Rattle.headline_laws.specs.seed_laws.Asked.{no_rank, before_owners, holder_ask, asks_at, rank_vertices, holder_asks}

-- ---- asks that are minima

abbrev pub IsMin : Ask → Type 0
IsMin a = a.op ≡ Min

pub kind-min : (a : Ask) (asks : List Ask) → AllByRecursion IsMin (a ∷ asks) → kind_of (a ∷ asks) ≡ Min
kind-min a asks all = ap (λ op. cond (is_load op) (kind_of asks) op) all.0

kinds-one : (asks : List Ask) → AllByRecursion IsMin asks → AllByRecursion (λ a. (a.op ≡ Load) ⊎ (a.op ≡ kind_of asks)) asks
kinds-one [] all = tt
kinds-one (a ∷ asks) all = all_weaker IsMin (λ b. (b.op ≡ Load) ⊎ (b.op ≡ kind_of (a ∷ asks))) (λ b is. inr (is ∙ sym (kind-min a asks all))) (a ∷ asks) all

nothing-added : (asks : List Ask) → AllByRecursion IsMin asks → sum_by added asks ≡ 0
nothing-added [] all = refl
nothing-added (a ∷ asks) all = sum_by-cons added a asks ∙ ap₂ (λ op n. cond (same_op op Sum) a.value 0 + n) all.0 (nothing-added asks all.1)

-- they suit a word with a small first value
pub mins-suit : (first : ℕ) (asks : List Ask) → first < 2 ^ 64 → AllByRecursion IsMin asks → SuitsWord first asks
mins-suit first asks low all = record {
  one_kind = kinds-one asks all;
  one_replace = let none = count_nothing (λ (a : Ask). same_op a.op Replace) asks (all_weaker IsMin (λ (a : Ask). same_op a.op Replace ≡ false) (λ a is. ap (λ op. same_op op Replace) is) asks all) in omega (arith, none);
  sums_fit = let none = nothing-added asks all in omega (arith, none, low);
}

-- ---- of holders

module _ (m : Mesh) (a : List ℕ) (n : ℕ) where
  pub rank_vertices-below : (r : ℕ) → AllByRecursion (λ v. v < length m.at) (rank_vertices m a r)
  unfolding rank_vertices vertices_of
  rank_vertices-below r = all_filter (λ v. v < length m.at) (has_vertex (assigned m a r)) (below (length m.at)) (below-all (length m.at))

  pub length-rank_vertices : (r : ℕ) → length (rank_vertices m a r) ≤ length m.at
  unfolding rank_vertices vertices_of
  length-rank_vertices r = let count = length-below (length m.at) in let few = length-filter_both (has_vertex (assigned m a r)) (λ v. not (has_vertex (assigned m a r) v)) (λ v. refl) (below (length m.at)) in omega (arith, count, few)

  -- what holds of each ask
  pub all-holder_asks : (P : Ask → Type 0) → ((r v : ℕ) → r < n → v < length m.at → P (holder_ask r v)) → AllByRecursion P (all_asks (holder_asks m a n))
  unfolding holder_asks
  all-holder_asks P each = all_flat_map P (λ own. own) (map (λ r. asks_at r (rank_vertices m a r)) (below n))
      (all_map (AllByRecursion P) (λ r. asks_at r (rank_vertices m a r)) (below n)
      (all_weaker (λ r. r < n) (λ r. AllByRecursion P (asks_at r (rank_vertices m a r)))
      (λ r low. all_map P (holder_ask r) (rank_vertices m a r) (all_weaker (λ v. v < length m.at) (λ v. P (holder_ask r v)) (λ v within. each r v low within) (rank_vertices m a r) (rank_vertices-below r)))
      (below n) (below-all n)))

  pub all-mins : AllByRecursion IsMin (all_asks (holder_asks m a n))
  all-mins = all-holder_asks IsMin (λ r v low within. refl)

  pub mins-on : (w : ℕ) → AllByRecursion IsMin (asks_on w (holder_asks m a n))
  mins-on w = all_filter IsMin (λ (b : Ask). b.word == w) (all_asks (holder_asks m a n)) all-mins

  pub length-before : length (before_owners m) ≡ length m.at
  unfolding before_owners
  length-before = length-replicate (length m.at) no_rank

  pub before-at : (w : ℕ) → w < length m.at → get_or (before_owners m) w 0 ≡ no_rank
  unfolding before_owners
  before-at w low = at (length m.at) w low
    where
      at : (k w : ℕ) → w < k → get_or (replicate k no_rank) w 0 ≡ no_rank
      at zero w low = absurd (omega (arith, low))
      at (suc k) zero low = refl
      at (suc k) (suc w) low = at k w (omega (arith, low))

  pub length-holder_asks : length (holder_asks m a n) ≡ n
  unfolding holder_asks
  length-holder_asks = length-map (below n) (λ r. asks_at r (rank_vertices m a r)) ∙ length-below n

  few-each : length m.at < 2 ^ 32 → AllByRecursion (λ (own : List Ask). length own < 2 ^ 32) (holder_asks m a n)
  unfolding holder_asks
  few-each few = all_map (λ (own : List Ask). length own < 2 ^ 32) (λ r. asks_at r (rank_vertices m a r)) (below n)
      (all_from (λ r. length (asks_at r (rank_vertices m a r)) < 2 ^ 32) (λ r. let count = length-map (rank_vertices m a r) (holder_ask r) in let most = length-rank_vertices r in omega (arith, count, most, few)) (below n))

-- so holders may ask
pub holders-meet : (m : Mesh) (a : List ℕ) (n : ℕ) → IsRightAssignment m n a → length m.at < 2 ^ 32 → MeetsConditions (before_owners m) (holder_asks m a n)
holders-meet m a n right few =
    let ranks = length-holder_asks m a n in
    let words = length-before m a n in
    record {
      some_rank = omega (arith, ranks, right.some_rank);
      few_ranks = omega (arith, ranks, right.few_ranks);
      few_words = omega (arith, words, few);
      few_asks = few-each m a n few;
      in_range = all-holder_asks m a n (λ b. b.word < length (before_owners m)) (λ r v low within. omega (arith, words, within));
      plain_loads = all-holder_asks m a n (λ b. b.op ≡ Load → b.value ≡ 0) (λ r v low within load. absurd (cc load));
      words_suit = λ w low. mins-suit (get_or (before_owners m) w 0) (asks_on w (holder_asks m a n)) (let is = before-at m a n w (omega (arith, words, low)) in omega (arith, is)) (mins-on m a n w);
    }
