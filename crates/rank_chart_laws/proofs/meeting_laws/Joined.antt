-- The forest that ranks join after the meeting is the forest of the points that they share.
use Rattle.std.proofs.Common.{◌≡◌, ℕ, suc, ◌+◌, ◌*◌, ◌/◌, ◌%◌, ◌^◌, ◌<◌, Bool, true, not, ◌==◌, List, [], ◌∷◌, ◌++◌, map, length, get_or, refl, sym, ap, ap₂, ◌∙◌, arith}
use Rattle.std.specs.List.{filter, enumerate_from}
use Rattle.std.proofs.lemmas.Bool.{eq-eqb, not-true, both_ways}
use Rattle.std.proofs.lemmas.List.{length-map, map-append, get_or-map}
use Rattle.std.proofs.lemmas.List.Elements.{filter-append}
use Rattle.plain_lists.specs.Lists.{below}
use Rattle.plain_lists.proofs.Finding.{position-within}
use Rattle.sf_defs.specs.declared.Leaf.{Leaf}
use Rattle.sf_defs.specs.Forest.{leaf}
use Rattle.sf_defs.specs.meeting.Meeting.{AreMet}
use Rattle.rank_laws.specs.share_laws.Packed.{no_vertex}
use Rattle.rank_chart_laws.specs.meeting_laws.Sets.{RankChart, no_chart, chart_at, point_count, has_set, first_with, place_with, home_of, set_leaves, forest_of_sets, AreRankCharts}
use Rattle.rank_chart_laws.specs.meeting_laws.Steps.{chosen, vertex_at, owner_at, vertex_home, may_share, set_at, candidates, behind, meeting_forest, all_keys, all_ids, joined_leaves, joined_forest}
use Rattle.rank_chart_laws.proofs.meeting_laws.Lists.{by_number, chosen_enumerated, chosen_same, chosen_from, narrower, first_passes, passes_at}
use Rattle.rank_chart_laws.proofs.meeting_laws.Homes.{single, owner-first, first-single, single-home}
use Rattle.rank_chart_laws.proofs.meeting_laws.Copies.{sharing}
use Rattle.rank_chart_laws.proofs.meeting_laws.Meeting.{candidate-is, set-right, set-here, place-small, met-first}

-- a rank and a place from one number
two-parts : (a b : ℕ) → b < 2 ^ 32 → ((a * 2 ^ 32 + b) / 2 ^ 32 ≡ a) × ((a * 2 ^ 32 + b) % 2 ^ 32 ≡ b)
two-parts a b h = (omega arith, omega arith)

enumerated-append : {X : Type 0} (n : ℕ) (xs ys : List X) → enumerate_from n (xs ++ ys) ≡ enumerate_from n xs ++ enumerate_from (n + length xs) ys
enumerated-append n [] ys = ap (λ k. enumerate_from k ys) (let e : n ≡ n + 0 = omega arith in e)
enumerated-append n (x ∷ xs) ys = ap (λ l. (n, x) ∷ l) (enumerated-append (n + 1) xs ys ∙ ap (λ k. enumerate_from (n + 1) xs ++ enumerate_from k ys) (let e : n + 1 + length xs ≡ n + suc (length xs) = omega arith in e))

module _ (charts : List RankChart) (right : AreRankCharts charts) (met : List (List ℕ)) (are : AreMet (meeting_forest charts) (all_keys charts) (all_ids charts) met) (r : ℕ) (low : r < length charts) where
  c : RankChart
  c = chart_at charts r

  is_later : ℕ × List ℕ → Bool
  is_later s = not (first_with charts s.1 == r)

  -- the leaves of vertices
  vertices-part : chosen (λ i. not (owner_at (chart_at charts r) i == r)) (λ i. leaf ((chart_at charts r).cells + i) (owner_at (chart_at charts r) i, (chart_at charts (owner_at (chart_at charts r) i)).cells + (vertex_home charts (chart_at charts r) i).1)) (length (chart_at charts r).vertices)
      ≡ map (λ (s : ℕ × List ℕ). leaf ((chart_at charts r).cells + s.0) (home_of charts s.1)) (filter (λ (s : ℕ × List ℕ). not (first_with charts s.1 == r)) (enumerate_from 0 (map single (chart_at charts r).vertices)))
  vertices-part = sym (
      chosen_enumerated (λ (s : ℕ × List ℕ). not (first_with charts s.1 == r)) (λ (s : ℕ × List ℕ). leaf ((chart_at charts r).cells + s.0) (home_of charts s.1)) 0 (map single (chart_at charts r).vertices) []
      ∙ ap (chosen (λ i. not (first_with charts (at i) == r)) (λ i. leaf ((chart_at charts r).cells + (0 + i)) (home_of charts (at i)))) (length-map (chart_at charts r).vertices single)
      ∙ chosen_same (λ i. not (first_with charts (at i) == r)) (λ i. not (owner_at (chart_at charts r) i == r)) (λ i. leaf ((chart_at charts r).cells + (0 + i)) (home_of charts (at i))) (λ i. leaf ((chart_at charts r).cells + i) (owner_at (chart_at charts r) i, (chart_at charts (owner_at (chart_at charts r) i)).cells + (vertex_home charts (chart_at charts r) i).1)) (length (chart_at charts r).vertices)
      (λ i l. ap (λ q. not (q == r)) (ap (first_with charts) (at-is i l) ∙ first-single charts right (vertex_at (chart_at charts r) i) ∙ sym (owner-first charts right r i low l)))
      (λ i l t. ap₂ (λ n h. leaf ((chart_at charts r).cells + n) h) (let e : 0 + i ≡ i = omega arith in e) (ap (home_of charts) (at-is i l) ∙ single-home charts right r i low l)))
    where
      at : ℕ → List ℕ
      at i = get_or (map single (chart_at charts r).vertices) i []

      at-is : (i : ℕ) → i < length (chart_at charts r).vertices → get_or (map single (chart_at charts r).vertices) i [] ≡ single (vertex_at (chart_at charts r) i)
      at-is i l = get_or-map single (chart_at charts r).vertices i no_vertex [] l

  -- what a candidate met tells where its set is first
  met-home : (j : ℕ) → j < length (candidates charts r) → (get_or (get_or met r []) j 0 / 2 ^ 32, get_or (get_or met r []) j 0 % 2 ^ 32) ≡ home_of charts (set_at (chart_at charts r) (get_or (candidates charts r) j 0))
  met-home j in_range =
      let s : List ℕ = set_at (chart_at charts r) (get_or (candidates charts r) j 0) in
      let e = met-first charts right r j low in_range met are in
      let home-low : first_with charts s < length charts = position-within (has_set s) charts (passes_at (has_set s) charts no_chart r low (set-here charts right r (get_or (candidates charts r) j 0) low (candidate-is charts r j in_range).0)) in
      let parts = two-parts (first_with charts s) (place_with s (chart_at charts (first_with charts s))) (place-small charts right (first_with charts s) s home-low) in
      let rank : get_or (get_or met r []) j 0 / 2 ^ 32 ≡ first_with charts s = ap (λ n. n / 2 ^ 32) e ∙ parts.0 in
      let place : get_or (get_or met r []) j 0 % 2 ^ 32 ≡ place_with s (chart_at charts (first_with charts s)) = ap (λ n. n % 2 ^ 32) e ∙ parts.1 in
      λ i. (rank i, place i)

  -- a set that an earlier rank has is a candidate
  later-shared : (k : ℕ) → k < length (chart_at charts r).sets → not (first_with charts (set_at (chart_at charts r) k) == r) ≡ true → may_share charts r (set_at (chart_at charts r) k) ≡ true
  later-shared k l h =
      let s : List ℕ = set_at (chart_at charts r) k in
      let here = set-here charts right r k low l in
      let some = passes_at (has_set s) charts no_chart r low here in
      sharing charts right r (first_with charts s) s low (position-within (has_set s) charts some) (λ same. both_ways _ (not-true _ h) (eq-eqb (first_with charts s) r (sym same))) (set-right charts right r k low l).second here (first_passes (has_set s) charts no_chart some)

  -- the leaves of sets
  sets-part : chosen (λ j. not (get_or (get_or met r []) j 0 / 2 ^ 32 == r)) (λ j. leaf (behind (chart_at charts r) (get_or (candidates charts r) j 0)) (get_or (get_or met r []) j 0 / 2 ^ 32, get_or (get_or met r []) j 0 % 2 ^ 32)) (length (candidates charts r))
      ≡ map (λ (s : ℕ × List ℕ). leaf ((chart_at charts r).cells + s.0) (home_of charts s.1)) (filter (λ (s : ℕ × List ℕ). not (first_with charts s.1 == r)) (enumerate_from (0 + length (map single (chart_at charts r).vertices)) (chart_at charts r).sets))
  sets-part =
      chosen_same (λ j. not (get_or (get_or met r []) j 0 / 2 ^ 32 == r)) (λ j. later (get_or (candidates charts r) j 0)) (λ j. leaf (behind (chart_at charts r) (get_or (candidates charts r) j 0)) (get_or (get_or met r []) j 0 / 2 ^ 32, get_or (get_or met r []) j 0 % 2 ^ 32)) (λ j. to (get_or (candidates charts r) j 0)) (length (candidates charts r))
      (λ j l. ap (λ (h : ℕ × ℕ). not (h.0 == r)) (met-home j l))
      (λ j l t. ap (leaf (behind (chart_at charts r) (get_or (candidates charts r) j 0))) (met-home j l))
      ∙ chosen_from later to (candidates charts r)
      ∙ ap (map to) (narrower later (λ k. may_share charts r (set_at (chart_at charts r) k)) (length (chart_at charts r).sets) later-shared)
      ∙ sym (
      chosen_enumerated (λ (s : ℕ × List ℕ). not (first_with charts s.1 == r)) (λ (s : ℕ × List ℕ). leaf ((chart_at charts r).cells + s.0) (home_of charts s.1)) (0 + length (map single (chart_at charts r).vertices)) (chart_at charts r).sets []
      ∙ chosen_same later later (λ k. leaf ((chart_at charts r).cells + (0 + length (map single (chart_at charts r).vertices) + k)) (home_of charts (set_at (chart_at charts r) k))) to (length (chart_at charts r).sets) (λ k l. refl)
      (λ k l t. ap (λ n. leaf n (home_of charts (set_at (chart_at charts r) k))) (let long = length-map (chart_at charts r).vertices single in let e : (chart_at charts r).cells + (0 + length (map single (chart_at charts r).vertices) + k) ≡ behind (chart_at charts r) k = omega arith in e)))
    where
      later : ℕ → Bool
      later k = not (first_with charts (set_at (chart_at charts r) k) == r)

      to : ℕ → Leaf
      to k = leaf (behind (chart_at charts r) k) (home_of charts (set_at (chart_at charts r) k))

  -- the leaves of a rank
  pub leaves-joined : joined_leaves charts r (get_or met r []) ≡ set_leaves charts r (chart_at charts r)
  leaves-joined =
      ap₂ (λ a b. a ++ b) vertices-part sets-part
      ∙ sym (
      ap (λ l. map to (filter later l)) (enumerated-append 0 (map single (chart_at charts r).vertices) (chart_at charts r).sets)
      ∙ ap (map to) (filter-append later (enumerate_from 0 (map single (chart_at charts r).vertices)) (enumerate_from (0 + length (map single (chart_at charts r).vertices)) (chart_at charts r).sets))
      ∙ map-append to (filter later (enumerate_from 0 (map single (chart_at charts r).vertices))) (filter later (enumerate_from (0 + length (map single (chart_at charts r).vertices)) (chart_at charts r).sets)))
    where
      later : ℕ × List ℕ → Bool
      later s = not (first_with charts s.1 == r)

      to : ℕ × List ℕ → Leaf
      to s = leaf ((chart_at charts r).cells + s.0) (home_of charts s.1)

-- the forests are one
pub joined-forest : (charts : List RankChart) (met : List (List ℕ)) → AreRankCharts charts → AreMet (meeting_forest charts) (all_keys charts) (all_ids charts) met → joined_forest charts met ≡ forest_of_sets charts
unfolding joined_forest forest_of_sets
joined-forest charts met right are = λ i. record { roots = map point_count charts; leaves = leaves i }
  where
    leaves : map (λ r. joined_leaves charts r (get_or met r [])) (below (length charts)) ≡ map (λ (r : ℕ × RankChart). set_leaves charts r.0 r.1) (enumerate_from 0 charts)
    leaves = by_number (λ r. joined_leaves charts r (get_or met r [])) (λ (r : ℕ × RankChart). set_leaves charts r.0 r.1) charts no_chart (λ r low. leaves-joined charts right met are r low)
