-- A word that begins at the greatest number ends at the least of what is asked.
use Rattle.std.proofs.Common.{◌≡◌, ◌≢◌, ◌⊎◌, ℕ, zero, suc, ◌^◌, ◌<◌, ◌≤◌, min, true, false, ◌==◌, List, [], ◌∷◌, map, length, get_or, sum_by, Option, Some, None, refl, sym, ap, ◌∙◌, subst, inl, inr, ⊎_elim, arith}
use Rattle.std.specs.Prelude.{filter, filter_map, fold}
use Rattle.std.specs.List.{AllByRecursion, cons_option}
use Rattle.std.proofs.lemmas.List.{length-map}
use Rattle.std.proofs.lemmas.List.Sums.{sum_by-cons}
use Rattle.plain_lists.specs.Lists.{below}
use Rattle.plain_lists.proofs.Each.{all_from, all_map}
use Rattle.plain_lists.proofs.Least.{least-bound}
use Rattle.plain_lists.proofs.Filters.{filter_whole, count_nothing}
use Rattle.plex_base.specs.declared.key.PointKey.{PointKey}
use Rattle.mesh_defs.specs.Mesh.{Mesh}
use Rattle.mesh_defs.specs.Diagram.{twist_key}
use Rattle.sf_defs.specs.declared.Op.TheVariants.{Load, Min, Replace}
use Rattle.sf_defs.specs.declared.Ask.{Ask}
use Rattle.sf_defs.specs.Asks.{step, word_after}
use Rattle.sf_defs.specs.Rounds.{Round, IsLegal, MeetsConditions, SuitsWord, added, all_asks, asks_on, same_op}
use Rattle.sf_ops.proofs.Conditions.{one_kind}
use Rattle.sf_ops.proofs.Folds.{AreFolds-legal}
use Rattle.rank_defs.specs.Ranks.{IsAssignment, least}
use Rattle.rank_laws.specs.orient_laws.Named.{own_twist}
use Rattle.rank_laws.proofs.orient_laws.OwnSights.{twist-of_ranks}
use Rattle.orient_iface.specs.iface_twist.Least.{number_of, numbers, greatest, own_asks, AreOwnKeys}

-- the least with a number
abbrev pub ask : ℕ → Ask
ask k = record { word = 0; op = Min; value = k }

-- what all ranks ask
pub all-are : (own : List (Option PointKey)) → all_asks (map own_asks own) ≡ map ask (numbers own)
all-are [] = refl
all-are (None ∷ own) = all-are own
all-are (Some k ∷ own) = λ i. ask k.0 ∷ all-are own i

-- all on the one word
pub on-word : (own : List (Option PointKey)) → asks_on 0 (map own_asks own) ≡ map ask (numbers own)
on-word own = ap (filter (λ (a : Ask). a.word == 0)) (all-are own) ∙ filter_whole (λ (a : Ask). a.word == 0) (map ask (numbers own)) (all_map (λ (a : Ask). (a.word == 0) ≡ true) ask (numbers own) (all_from (λ k. (0 == 0) ≡ true) (λ k. refl) (numbers own)))

nothing-added : (ks : List ℕ) → sum_by added (map ask ks) ≡ 0
nothing-added [] = refl
nothing-added (k ∷ ks) = let e = nothing-added ks in let s = sum_by-cons added (ask k) (map ask ks) in omega (arith, e, s)

few-asks : (own : List (Option PointKey)) → AllByRecursion (λ asks. length asks < 2 ^ 32) (map own_asks own)
few-asks own = all_map (λ asks. length asks < 2 ^ 32) own_asks own (all_from (λ k. length (own_asks k) < 2 ^ 32) each own)
  where
    each : (k : Option PointKey) → length (own_asks k) < 2 ^ 32
    each None = omega arith
    each (Some k) = omega arith

-- the round may be run
pub meets : (own : List (Option PointKey)) → AreOwnKeys own → MeetsConditions (greatest ∷ []) (map own_asks own)
meets own right =
    let long = length-map own own_asks in
    record {
      some_rank = omega (arith, long, right.some_rank);
      few_ranks = omega (arith, long, right.few_ranks);
      few_words = omega arith;
      few_asks = few-asks own;
      in_range = subst (AllByRecursion (λ (a : Ask). a.word < 1)) (sym (all-are own)) (all_map (λ (a : Ask). a.word < 1) ask (numbers own) (all_from (λ k. 0 < 1) (λ k. omega arith) (numbers own)));
      plain_loads = subst (AllByRecursion (λ (a : Ask). a.op ≡ Load → a.value ≡ 0)) (sym (all-are own)) (all_map (λ (a : Ask). a.op ≡ Load → a.value ≡ 0) ask (numbers own) (all_from (λ k. Min ≡ Load → k ≡ 0) (λ k e. absurd (cc e)) (numbers own)));
      words_suit = suits;
    }
  where
    suits : (w : ℕ) → w < 1 → SuitsWord (get_or (greatest ∷ []) w 0) (asks_on w (map own_asks own))
    suits zero low = subst (SuitsWord greatest) (sym (on-word own)) (record {
      one_kind = one_kind Min (map ask (numbers own)) (all_map (λ (a : Ask). a.op ≡ Min) ask (numbers own) (all_from (λ k. Min ≡ Min) (λ k. refl) (numbers own)));
      one_replace = let e = count_nothing (λ (a : Ask). same_op a.op Replace) (map ask (numbers own)) (all_map (λ (a : Ask). same_op a.op Replace ≡ false) ask (numbers own) (all_from (λ k. same_op Min Replace ≡ false) (λ k. refl) (numbers own))) in omega (arith, e);
      sums_fit = let e = nothing-added (numbers own) in omega (arith, e);
    })
    suits (suc w) low = absurd (omega (arith, low))

-- what such asks leave of a word
after-least : (word : ℕ) (ks : List ℕ) → word_after word (map ask ks) ≡ fold min word ks
unfolding step
after-least word [] = refl
after-least word (k ∷ ks) = after-least (min word k) ks

-- the word stays where no one asks, and else becomes the least
ends-least : (ks : List ℕ) → AllByRecursion (λ k. k < greatest) ks → ((fold min greatest ks ≡ greatest) × (least ks ≡ None)) ⊎ ((fold min greatest ks < greatest) × (least ks ≡ Some (fold min greatest ks)))
ends-least [] h = inl (refl, refl)
ends-least (k ∷ ks) h =
    let first : min greatest k ≡ k = (let low = h.0 in omega (arith, low)) in
    let same : fold min greatest (k ∷ ks) ≡ fold min k ks = ap (λ x. fold min x ks) first in
    let low : fold min k ks ≤ k = (least-bound k ks).0 in
    let lt = h.0 in
    inr (omega (arith, same, low, lt), ap Some (sym same))

least-word : (own : List (Option PointKey)) → AreOwnKeys own → (word : ℕ) → word ≡ word_after greatest (asks_on 0 (map own_asks own)) → ((word ≡ greatest) × (least (numbers own) ≡ None)) ⊎ ((word < greatest) × (least (numbers own) ≡ Some word))
least-word own right word is =
    let end : word ≡ fold min greatest (numbers own) = is ∙ (ap (word_after greatest) (on-word own) ∙ after-least greatest (numbers own)) in
    subst (λ w. ((w ≡ greatest) × (least (numbers own) ≡ None)) ⊎ ((w < greatest) × (least (numbers own) ≡ Some w))) (sym end) (ends-least (numbers own) right.low)

-- the last word of the round
last-word : (r : Round) (own : List (Option PointKey)) → IsLegal r → r.before ≡ greatest ∷ [] → r.asks ≡ map own_asks own → get_or r.after 0 0 ≡ word_after greatest (asks_on 0 (map own_asks own))
last-word r own legal before asks = (AreFolds-legal r (map own_asks own) (greatest ∷ []) r.after legal before asks refl).words 0 (omega arith)

-- that word is the least of the ranks' keys, or as it was where no rank has one
module _ (r : Round) (own : List (Option PointKey)) (right : AreOwnKeys own) (legal : IsLegal r) (before : r.before ≡ greatest ∷ []) (asks : r.asks ≡ map own_asks own) (word : ℕ) (is : word ≡ get_or r.after 0 0) where
  abbrev Ends : Type 0
  Ends = ((word ≡ greatest) × (least (numbers own) ≡ None)) ⊎ ((word < greatest) × (least (numbers own) ≡ Some word))

  ends : Ends
  ends = least-word own right word (is ∙ last-word r own legal before asks)

  pub least-none : word ≡ greatest → None ≡ least (numbers own)
  least-none same = ⊎_elim (λ (e : (word ≡ greatest) × (least (numbers own) ≡ None)). sym e.1) (λ (e : (word < greatest) × (least (numbers own) ≡ Some word)). absurd (omega (arith, same, e.0))) ends

  pub least-some : word ≢ greatest → Some word ≡ least (numbers own)
  least-some other = ⊎_elim (λ (e : (word ≡ greatest) × (least (numbers own) ≡ None)). absurd (other e.0)) (λ (e : (word < greatest) × (least (numbers own) ≡ Some word)). sym e.1) ends

-- the twist key of a mesh is the least of its ranks' own
pub twist-is : (m : Mesh) (n : ℕ) (a : List ℕ) (own : List (Option PointKey)) → IsAssignment m n a → map number_of own ≡ map (own_twist m a) (below n) → least (numbers own) ≡ twist_key m
twist-is m n a own parts same = ap least (given-images own ∙ (ap given same ∙ sym (given-below (below n)))) ∙ twist-of_ranks m n a parts
  where
    given : List (Option ℕ) → List ℕ
    given os = filter_map (λ (o : Option ℕ). o) os

    given-images : (ks : List (Option PointKey)) → numbers ks ≡ given (map number_of ks)
    given-images [] = refl
    given-images (k ∷ ks) = ap (cons_option (number_of k)) (given-images ks)

    given-below : (rs : List ℕ) → filter_map (own_twist m a) rs ≡ given (map (own_twist m a) rs)
    given-below [] = refl
    given-below (r ∷ rs) = ap (cons_option (own_twist m a r)) (given-below rs)
