-- A label point by point.
use Rattle.std.proofs.Common.{◌≡◌, ℕ, ℤ, zero, suc, ◌+◌, ◌<◌, Bool, true, false, ◌&&◌, ◌||◌, ◌==◌, List, [], ◌∷◌, ◌++◌, map, length, refl, sym, ap, ap₂, ◌∙◌, ⊎_elim, arith, append-nil}
use Rattle.std.specs.Prelude.{filter, flat_map, fold}
use Rattle.std.specs.List.{list_any, AllByRecursion}
use Rattle.std.proofs.lemmas.Bool.{and_parts, and_from, or_cases, or_left, or_right, eq-eqb, eqb-true, cases_eq}
use Rattle.std.proofs.lemmas.List.Concat.{flat_map-append}
use Rattle.std.proofs.lemmas.List.Folds.{list_any-append}
use Rattle.std.proofs.lemmas.List.Sums.{fold-append}
use Rattle.plain_lists.specs.Lists.{below}
use Rattle.plain_lists.proofs.Each.{all_weaker}
use Rattle.plain_lists.proofs.Finding.{same_tests, any_same, any_agree, any_map, any_filter}
use Rattle.plex_defs.specs.Labels.{same_pair, with_pair, label_of, values_at}
use Rattle.rank_chart_laws.proofs.label_laws.SameSets.{same-labels}
use Rattle.rank_chart_laws.specs.moved_laws.Moves.{moved_place, moved_label}
use Rattle.rank_chart_laws.proofs.moved_laws.Labels.{any-joined, any-swap}

-- the pairs of a point, moved
abbrev pub moved_pairs : List ℕ → List (ℕ × ℤ) → ℕ → List (ℕ × ℤ)
moved_pairs moves label p = map (λ value. (moved_place moves p, value)) (values_at label p)

-- one point more
pub pairs-more : (moves : List ℕ) (label : List (ℕ × ℤ)) (p : ℕ) → label_of (flat_map (moved_pairs moves label) (below (p + 1))) ≡ fold with_pair (label_of (flat_map (moved_pairs moves label) (below p))) (moved_pairs moves label p)
pairs-more moves label p =
    ap (λ k. label_of (flat_map (moved_pairs moves label) (below k))) next
    ∙ ap label_of (flat_map-append (moved_pairs moves label) (below p) (p ∷ []) ∙ ap (λ l. flat_map (moved_pairs moves label) (below p) ++ l) (append-nil (moved_pairs moves label p)))
    ∙ fold-append with_pair [] (flat_map (moved_pairs moves label) (below p)) (moved_pairs moves label p)
  where
    next : p + 1 ≡ suc p
    next = omega arith

-- a number below n is one of them
one-below : (s : ℕ → Bool) (n v : ℕ) → v < n → list_any (λ p. (v == p) && s p) (below n) ≡ s v
one-below s n v low = same_tests (list_any (λ p. (v == p) && s p) (below n)) (s v) (passes (below n)) (there n low)
  where
    passes : (ps : List ℕ) → list_any (λ p. (v == p) && s p) ps ≡ true → s v ≡ true
    passes [] h = absurd (cc h)
    passes (p ∷ ps) h = ⊎_elim (λ here. let both = and_parts (v == p) (s p) here in ap s (eqb-true v p both.0) ∙ both.1) (λ later. passes ps later) (or_cases ((v == p) && s p) (list_any (λ q. (v == q) && s q) ps) h)

    there : (k : ℕ) → v < k → s v ≡ true → list_any (λ p. (v == p) && s p) (below k) ≡ true
    there zero lt h = absurd (omega (arith, lt))
    there (suc k) lt h = list_any-append (λ p. (v == p) && s p) (below k) (k ∷ []) ∙ ⊎_elim
        (λ same. or_right (list_any (λ p. (v == p) && s p) (below k)) (((v == k) && s k) || false) (or_left ((v == k) && s k) false (and_from (v == k) (s k) (eq-eqb v k same) (ap s (sym same) ∙ h))))
        (λ other. or_left (list_any (λ p. (v == p) && s p) (below k)) (((v == k) && s k) || false) (there k (omega (arith, lt, other)) h))
        (cases_eq v k)

-- the pairs of all points are those of the label, moved
pub all-moved : (moves : List ℕ) (label : List (ℕ × ℤ)) (n : ℕ) → AllByRecursion (λ (pair : ℕ × ℤ). pair.0 < n) label → label_of (flat_map (moved_pairs moves label) (below n)) ≡ moved_label moves label
unfolding moved_label
all-moved moves label n low = same-labels (flat_map (moved_pairs moves label) (below n)) (map mv label) (λ q. each (same_pair q))
  where
    mv : ℕ × ℤ → ℕ × ℤ
    mv pair = (moved_place moves pair.0, pair.1)

    each : (t : ℕ × ℤ → Bool) → list_any t (flat_map (moved_pairs moves label) (below n)) ≡ list_any t (map mv label)
    each t =
        any-joined t (moved_pairs moves label) (below n)
        ∙ any_same (λ p. list_any t (moved_pairs moves label p)) (λ p. list_any (λ (pair : ℕ × ℤ). (pair.0 == p) && t (moved_place moves p, pair.1)) label)
        (λ p. any_map t (λ value. (moved_place moves p, value)) (values_at label p) ∙ any_map (λ value. t (moved_place moves p, value)) (λ (pair : ℕ × ℤ). pair.1) (filter (λ (pair : ℕ × ℤ). pair.0 == p) label) ∙ any_filter (λ (pair : ℕ × ℤ). t (moved_place moves p, pair.1)) (λ (pair : ℕ × ℤ). pair.0 == p) label) (below n)
        ∙ any-swap (λ p (pair : ℕ × ℤ). (pair.0 == p) && t (moved_place moves p, pair.1)) (below n) label
        ∙ any_agree (λ (pair : ℕ × ℤ). list_any (λ p. (pair.0 == p) && t (moved_place moves p, pair.1)) (below n)) (λ (pair : ℕ × ℤ). t (mv pair)) label
        (all_weaker (λ (pair : ℕ × ℤ). pair.0 < n) (λ (pair : ℕ × ℤ). list_any (λ p. (pair.0 == p) && t (moved_place moves p, pair.1)) (below n) ≡ t (mv pair)) (λ pair less. one-below (λ p. t (moved_place moves p, pair.1)) n pair.0 less) label low)
        ∙ sym (any_map t mv label)
