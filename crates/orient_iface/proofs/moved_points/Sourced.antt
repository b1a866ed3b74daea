-- From where the point at each place came.
use Rattle.std.proofs.Common.{◌≡◌, ◌≢◌, ◌⊎◌, ℕ, ◌+◌, ◌<◌, ◌≤◌, true, ◌==◌, List, [], ◌∷◌, map, length, get_or, set, refl, sym, ap, ◌∙◌, subst, ⊎_elim, inl, inr, arith}
use Rattle.std.specs.List.{list_any, AllByRecursion, position_or_len}
use Rattle.std.proofs.lemmas.Bool.{eqb-true, cases_eq}
use Rattle.std.proofs.lemmas.List.{length-set, get_or-set_same, get_or-set_other}
use Rattle.plain_lists.specs.Lists.{below}
use Rattle.plain_lists.proofs.Below.{map-below-length}
use Rattle.plain_lists.proofs.Each.{all_at}
use Rattle.plain_lists.proofs.Finding.{position-within}
use Rattle.rank_chart_laws.proofs.meeting_laws.Lists.{first_passes}
use Rattle.rank_chart_laws.specs.moved_laws.Moves.{moved_place, IsReordering}

-- the places to which the points before k went know from where they came
pub record AreSources (moves : List ℕ) (k : ℕ) (sources : List ℕ) : Type 0 where
  pub many : length sources ≡ length moves
  pub each : (i : ℕ) → i < k → get_or sources (moved_place moves i) 0 ≡ i

pub sources-more : (moves : List ℕ) (k : ℕ) (sources : List ℕ) → IsReordering moves → k < length moves → AreSources moves k sources → AreSources moves (k + 1) (set sources (moved_place moves k) k)
sources-more moves k sources order low before = record {
  many = length-set sources (moved_place moves k) k ∙ before.many;
  each = λ i less. ⊎_elim
      (λ (same : i ≡ k). ap (λ j. get_or (set sources (moved_place moves k) k) (moved_place moves j) 0) same ∙ get_or-set_same sources (moved_place moves k) k 0 (let many = before.many in omega (arith, inside, many)) ∙ sym same)
      (λ (other : i ≡ k → ⊥). get_or-set_other sources (moved_place moves k) (moved_place moves i) k 0 (λ e. other (order.once i k (omega (arith, less, low)) low e)) ∙ before.each i (earlier i less other))
      (cases_eq i k);
}
  where
    inside : moved_place moves k < length moves
    inside = all_at (λ j. j < length moves) moves k 0 order.low low

    earlier : (i : ℕ) → i < k + 1 → (i ≡ k → ⊥) → i < k
    earlier i less other = omega (arith, less, other)

pub sources-all : (moves : List ℕ) (k : ℕ) (sources : List ℕ) → IsReordering moves → length moves ≤ k → AreSources moves k sources → sources ≡ map (λ j. position_or_len (λ w. w == j) moves) (below (length moves))
sources-all moves k sources order le all =
    itself sources ∙ sym (map-below-length (λ j. position_or_len (λ w. w == j) moves) (λ x. x) sources 0 (λ j low. place j (omega (arith, low, all.many))))
    ∙ ap (λ n. map (λ j. position_or_len (λ w. w == j) moves) (below n)) all.many
  where
    itself : (xs : List ℕ) → xs ≡ map (λ x. x) xs
    itself [] = refl
    itself (x ∷ xs) = ap (λ l. x ∷ l) (itself xs)

    place : (j : ℕ) → j < length moves → position_or_len (λ w. w == j) moves ≡ get_or sources j 0
    place j low =
        let at = position_or_len (λ w. w == j) moves in
        let within : at < length moves = position-within (λ w. w == j) moves (order.onto j low) in
        let here : moved_place moves at ≡ j = eqb-true (moved_place moves at) j (first_passes (λ w. w == j) moves 0 (order.onto j low)) in
        sym (all.each at (omega (arith, within, le))) ∙ ap (λ w. get_or sources w 0) here
