-- Sets that two ranks have are among those that meet.
use Rattle.std.proofs.Common.{◌≡◌, ◌≢◌, ◌⊎◌, inl, inr, ℕ, ◌<◌, Bool, true, false, not, ◌||◌, ◌==◌, nat_lt, List, [], ◌∷◌, map, length, refl, sym, ap, ap₂, ◌∙◌, get_or, take, suc, zero, ◌≤◌, arith, subst}
use Rattle.std.specs.List.{list_any, list_all, AllByRecursion}
use Rattle.std.proofs.lemmas.Bool.{eqb-true, eq-eqb, ne_eqb, lt-ltb, or_left, or_right, and_from}
use Rattle.std.proofs.lemmas.List.Folds.{list_all_at}
use Rattle.plain_lists.specs.Lists.{below}
use Rattle.plain_lists.proofs.Each.{all_both}
use Rattle.plain_lists.proofs.Finding.{any_map}
use Rattle.sf_defs.specs.Forest.{degree, leaf, is_on_root}
use Rattle.rank_laws.specs.share_laws.Packed.{no_vertex}
use Rattle.rank_chart_laws.specs.meeting_laws.Sets.{RankChart, chart_at, has_set, has_vertex, first_having, AreRankCharts}
use Rattle.rank_chart_laws.specs.meeting_laws.Steps.{vertex_place, vertex_at, owner_at, vertex_home, ghost_leaves, vertex_forest, is_copied, may_share}
use Rattle.rank_chart_laws.proofs.meeting_laws.Lists.{passes_below, chosen_any, counted_in_some}
use Rattle.rank_chart_laws.proofs.meeting_laws.Homes.{IsPair, pair-inside, placed-vertex, chart-right, owner-first}

-- where each passes, all pass
pub all_pass : {X : Type 0} (p : X → Bool) (xs : List X) → AllByRecursion (λ x. p x ≡ true) xs → list_all p xs ≡ true
all_pass p [] h = refl
all_pass p (x ∷ xs) h = and_from (p x) (list_all p xs) h.0 (all_pass p xs h.1)

module _ (charts : List RankChart) (right : AreRankCharts charts) where
  -- a vertex that another rank has is copied
  pub copied : (r q v : ℕ) → r < length charts → q < length charts → r ≢ q → has_vertex v (chart_at charts r) ≡ true → has_vertex v (chart_at charts q) ≡ true → is_copied charts r v ≡ true
  unfolding is_copied degree vertex_forest
  copied r q v low low' ne h h' = go (owner_at (chart_at charts r) here == r) refl
    where
      here : ℕ
      here = vertex_place v (chart_at charts r)

      there : ℕ
      there = vertex_place v (chart_at charts q)

      owner : owner_at (chart_at charts r) here ≡ first_having charts v
      owner = owner-first charts right r here low (placed-vertex (chart_at charts r) v h).0 ∙ ap (first_having charts) (placed-vertex (chart_at charts r) v h).1

      owner' : owner_at (chart_at charts q) there ≡ first_having charts v
      owner' = owner-first charts right q there low' (placed-vertex (chart_at charts q) v h').0 ∙ ap (first_having charts) (placed-vertex (chart_at charts q) v h').1

      ghost : owner_at (chart_at charts q) there ≡ r → list_any (is_on_root (r, here)) (ghost_leaves charts q) ≡ true
      ghost e = chosen_any (is_on_root (r, here)) (λ i. not (owner_at (chart_at charts q) i == q)) (λ i. leaf i (vertex_home charts (chart_at charts q) i)) (length (chart_at charts q).vertices) there (placed-vertex (chart_at charts q) v h').0
          (ap not (ne_eqb (owner_at (chart_at charts q) there) q (λ same. ne (sym e ∙ same))))
          (and_from (owner_at (chart_at charts q) there == r) (vertex_place (vertex_at (chart_at charts q) there) (chart_at charts (owner_at (chart_at charts q) there)) == here)
          (eq-eqb (owner_at (chart_at charts q) there) r e)
          (eq-eqb (vertex_place (vertex_at (chart_at charts q) there) (chart_at charts (owner_at (chart_at charts q) there))) here (ap₂ (λ w p. vertex_place w (chart_at charts p)) (placed-vertex (chart_at charts q) v h').1 e)))

      go : (b : Bool) → (owner_at (chart_at charts r) here == r) ≡ b → (not (owner_at (chart_at charts r) here == r) || nat_lt 0 (degree (vertex_forest charts) r here)) ≡ true
      go false e = or_left _ _ (ap not e)
      go true e = or_right (not (owner_at (chart_at charts r) here == r)) _
          (lt-ltb 0 (degree (vertex_forest charts) r here)
          (counted_in_some (is_on_root (r, here)) (map (ghost_leaves charts) (below (length charts)))
          (any_map (list_any (is_on_root (r, here))) (ghost_leaves charts) (below (length charts))
          ∙ passes_below (λ p. list_any (is_on_root (r, here)) (ghost_leaves charts p)) (length charts) q low' (ghost (owner' ∙ sym owner ∙ eqb-true (owner_at (chart_at charts r) here) r e)))))

  -- a set that two ranks have may be shared
  pub sharing : (r q : ℕ) (s : List ℕ) → r < length charts → q < length charts → r ≢ q → IsPair s → has_set s (chart_at charts r) ≡ true → has_set s (chart_at charts q) ≡ true → may_share charts r s ≡ true
  unfolding may_share
  sharing r q s low low' ne two h h' = all_pass (λ v. (v == no_vertex) || is_copied charts r v) s
      (all_both (λ v. (v ≡ no_vertex) ⊎ (has_vertex v (chart_at charts r) ≡ true)) (λ v. (v ≡ no_vertex) ⊎ (has_vertex v (chart_at charts q) ≡ true)) (λ v. ((v == no_vertex) || is_copied charts r v) ≡ true) each s
      (pair-inside charts (chart_at charts r) s (chart-right charts right r low) two h) (pair-inside charts (chart_at charts q) s (chart-right charts right q low') two h'))
    where
      each : (v : ℕ) → (v ≡ no_vertex) ⊎ (has_vertex v (chart_at charts r) ≡ true) → (v ≡ no_vertex) ⊎ (has_vertex v (chart_at charts q) ≡ true) → ((v == no_vertex) || is_copied charts r v) ≡ true
      each v (inl e) g = or_left _ _ (eq-eqb v no_vertex e)
      each v (inr f) (inl e) = or_left _ _ (eq-eqb v no_vertex e)
      each v (inr f) (inr g) = or_right (v == no_vertex) _ (copied r q v low low' ne f g)

-- ---- whether a vertex is copied, from what is looked up

pub copied-then : (charts : List RankChart) (r v owner : ℕ) → owner_at (chart_at charts r) (vertex_place v (chart_at charts r)) ≡ owner → owner ≢ r → not (owner == r) ≡ is_copied charts r v
unfolding is_copied
copied-then charts r v owner e ne = ap not (ne_eqb owner r ne) ∙ sym (or_left _ _ (ap not (ne_eqb (owner_at (chart_at charts r) (vertex_place v (chart_at charts r))) r (λ same. ne (sym e ∙ same)))))

pub copied-else : (charts : List RankChart) (r v owner : ℕ) → owner_at (chart_at charts r) (vertex_place v (chart_at charts r)) ≡ owner → owner ≡ r → nat_lt 0 (degree (vertex_forest charts) r (vertex_place v (chart_at charts r))) ≡ is_copied charts r v
unfolding is_copied
copied-else charts r v owner e same = sym (ap (λ b. not b || nat_lt 0 (degree (vertex_forest charts) r (vertex_place v (chart_at charts r)))) (eq-eqb (owner_at (chart_at charts r) (vertex_place v (chart_at charts r))) r (e ∙ same)))

-- a vertex that has no copy keeps its set from being shared, and where each has one nothing does
pub kept-alone : (charts : List RankChart) (r : ℕ) (s : List ℕ) (i : ℕ) → i < length s → get_or s i 0 ≢ no_vertex → is_copied charts r (get_or s i 0) ≡ false → false ≡ may_share charts r s
unfolding may_share
kept-alone charts r s i low ne alone = sym (list_all_at (λ v. (v == no_vertex) || is_copied charts r v) s i 0 low (ap₂ (λ a b. a || b) (ne_eqb (get_or s i 0) no_vertex ne) alone))

pub may-be : (charts : List RankChart) (r : ℕ) (s : List ℕ) (i : ℕ) → list_all (λ v. (v == no_vertex) || is_copied charts r v) (take i s) ≡ true → length s ≤ i → true ≡ may_share charts r s
unfolding may_share
may-be charts r s i h end = sym (subst (λ l. list_all (λ v. (v == no_vertex) || is_copied charts r v) l ≡ true) (whole i s end) h)
  where
    whole : (n : ℕ) (xs : List ℕ) → length xs ≤ n → take n xs ≡ xs
    whole zero [] h = refl
    whole (suc n) [] h = refl
    whole zero (x ∷ xs) h = absurd (omega arith)
    whole (suc n) (x ∷ xs) h = ap (λ l. x ∷ l) (whole n xs (omega arith))
