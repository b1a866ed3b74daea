-- What a set meets at the owner of its first vertex: the first rank that has the set, and its place there.
use Rattle.std.proofs.Common.{◌≡◌, ◌⊎◌, inl, inr, ℕ, zero, suc, ◌+◌, ◌*◌, ◌^◌, ◌<◌, ◌≤◌, Bool, true, false, ◌&&◌, ◌==◌, min, fold, List, [], ◌∷◌, map, length, get_or, Some, option_map, refl, sym, ap, ap₂, ◌∙◌, subst, ⊎_elim, arith}
use Rattle.std.specs.Prelude.{find, flat_map}
use Rattle.std.specs.List.{list_any, AllByRecursion, position_or_len, filter}
use Rattle.std.specs.Cmp.Lexicographic.{same_text}
use Rattle.std.proofs.lemmas.Bool.{cases_lt, eqb-true, eq-eqb, and_parts, and_from, or_right}
use Rattle.std.proofs.lemmas.List.{get_or-map}
use Rattle.std.proofs.lemmas.List.Folds.{flat_map-map}
use Rattle.plain_lists.specs.Lists.{below, same_list}
use Rattle.plain_lists.proofs.Each.{all_at, all_both, all_weaker, all_map, all_filter, all_flat_map}
use Rattle.plain_lists.proofs.Below.{below-all, get_or-map-below}
use Rattle.plain_lists.proofs.Filters.{filter_passing}
use Rattle.plain_lists.proofs.Finding.{any_map, any_filter, find-map, position-within}
use Rattle.plain_lists.proofs.Least.{least-is}
use Rattle.plain_lists.proofs.Sorted.{same_list-self}
use Rattle.sf_defs.specs.declared.Leaf.{Leaf}
use Rattle.sf_defs.specs.Forest.{leaf, is_on_root, root_of, root_at}
use Rattle.sf_defs.specs.meeting.Meeting.{key_at, id_at, meets, ids_meeting, met_on, AreMet}
use Rattle.rank_laws.specs.share_laws.Packed.{no_vertex, packed}
use Rattle.rank_chart_laws.specs.meeting_laws.Sets.{RankChart, no_chart, chart_at, lower_sets, point_count, has_set, first_with, place_with, has_vertex, first_having, IsSetOf, AreRankCharts}
use Rattle.rank_chart_laws.specs.meeting_laws.Steps.{vertex_place, may_share, set_at, candidates, meeting_place, point_id, behind, meeting_leaves, meeting_keys, meeting_ids, meeting_forest, all_keys, all_ids}
use Rattle.rank_chart_laws.proofs.meeting_laws.Lists.{passes_below, found_below, enumerated_below, any_flat, first_passes, first_least, first_within, passes_at, sum_has}
use Rattle.rank_chart_laws.proofs.meeting_laws.Homes.{IsPair, has-pair, place-pair, pair-inside, chart-right, home-first}
use Rattle.rank_chart_laws.proofs.meeting_laws.Copies.{sharing}

-- ---- filled sets by their packed words

-- two numbers below a base, from their sum
apart : (a b c d : ℕ) → b < 2 ^ 32 → d < 2 ^ 32 → a * 2 ^ 32 + b ≡ c * 2 ^ 32 + d → (a ≡ c) × (b ≡ d)
apart a b c d p q e = (omega arith, omega arith)

place-below : (xs : List ℕ) (k : ℕ) → AllByRecursion (λ v. v ≤ no_vertex) xs → get_or xs k no_vertex < 2 ^ 32
place-below [] k h = omega arith
place-below (x ∷ xs) zero h = omega (arith, h.0)
place-below (x ∷ xs) (suc k) h = place-below xs k h.1

-- lists of one length that agree at each place are one
same-places : (n : ℕ) (xs ys : List ℕ) → length xs ≡ n → length ys ≡ n → ((k : ℕ) → k < n → get_or xs k no_vertex ≡ get_or ys k no_vertex) → xs ≡ ys
same-places n [] [] p q e = refl
same-places n [] (y ∷ ys) p q e = absurd (omega arith)
same-places n (x ∷ xs) [] p q e = absurd (omega arith)
same-places zero (x ∷ xs) (y ∷ ys) p q e = absurd (omega arith)
same-places (suc n) (x ∷ xs) (y ∷ ys) p q e = ap₂ (λ v vs. v ∷ vs) (e 0 (omega arith)) (same-places n xs ys (omega arith) (omega arith) (λ k low. e (suc k) (omega arith)))

packed-filled : (s t : List ℕ) → length s ≡ 4 → length t ≡ 4 → AllByRecursion (λ v. v ≤ no_vertex) s → AllByRecursion (λ v. v ≤ no_vertex) t → packed s ≡ packed t → s ≡ t
unfolding packed
packed-filled s t p q h i e = same-places 4 s t p q each
  where
    first : (get_or s 0 no_vertex ≡ get_or t 0 no_vertex) × (get_or s 1 no_vertex ≡ get_or t 1 no_vertex)
    first = apart (get_or s 0 no_vertex) (get_or s 1 no_vertex) (get_or t 0 no_vertex) (get_or t 1 no_vertex) (place-below s 1 h) (place-below t 1 i) (ap (λ l. get_or l 0 0) e)

    second : (get_or s 2 no_vertex ≡ get_or t 2 no_vertex) × (get_or s 3 no_vertex ≡ get_or t 3 no_vertex)
    second = apart (get_or s 2 no_vertex) (get_or s 3 no_vertex) (get_or t 2 no_vertex) (get_or t 3 no_vertex) (place-below s 3 h) (place-below t 3 i) (ap (λ l. get_or l 1 0) e)

    each : (k : ℕ) → k < 4 → get_or s k no_vertex ≡ get_or t k no_vertex
    each zero low = first.0
    each (suc zero) low = first.1
    each (suc (suc zero)) low = second.0
    each (suc (suc (suc zero))) low = second.1
    each (suc (suc (suc (suc k)))) low = absurd (omega arith)

-- ---- the forest of the meeting

module _ (charts : List RankChart) where
  -- a candidate is the place of a set that may be shared
  pub candidate-is : (r j : ℕ) → j < length (candidates charts r) → (get_or (candidates charts r) j 0 < length (chart_at charts r).sets) × (may_share charts r (set_at (chart_at charts r) (get_or (candidates charts r) j 0)) ≡ true)
  candidate-is r j low = all_at (λ k. (k < length (chart_at charts r).sets) × (may_share charts r (set_at (chart_at charts r) k) ≡ true)) (candidates charts r) j 0
      (all_both (λ k. k < length (chart_at charts r).sets) (λ k. may_share charts r (set_at (chart_at charts r) k) ≡ true) (λ k. (k < length (chart_at charts r).sets) × (may_share charts r (set_at (chart_at charts r) k) ≡ true)) (λ k p q. (p, q)) (candidates charts r)
      (all_filter (λ k. k < length (chart_at charts r).sets) (λ k. may_share charts r (set_at (chart_at charts r) k)) (below (length (chart_at charts r).sets)) (below-all (length (chart_at charts r).sets)))
      (filter_passing (λ k. may_share charts r (set_at (chart_at charts r) k)) (below (length (chart_at charts r).sets))))
      low

  -- a set that may be shared is a candidate
  candidate-at : (r k : ℕ) → k < length (chart_at charts r).sets → may_share charts r (set_at (chart_at charts r) k) ≡ true → (j : ℕ) × (j < length (candidates charts r)) × (get_or (candidates charts r) j 0 ≡ k)
  candidate-at r k low h = (position_or_len (λ i. i == k) (candidates charts r), position-within (λ i. i == k) (candidates charts r) there, eqb-true (get_or (candidates charts r) (position_or_len (λ i. i == k) (candidates charts r)) 0) k (first_passes (λ i. i == k) (candidates charts r) 0 there))
    where
      there : list_any (λ i. i == k) (candidates charts r) ≡ true
      there = any_filter (λ i. i == k) (λ i. may_share charts r (set_at (chart_at charts r) i)) (below (length (chart_at charts r).sets)) ∙ passes_below (λ i. may_share charts r (set_at (chart_at charts r) i) && (i == k)) (length (chart_at charts r).sets) k low (and_from (may_share charts r (set_at (chart_at charts r) k)) (k == k) h (eq-eqb k k refl))

  -- the id and the key of a candidate
  id-of : (r j : ℕ) → r < length charts → j < length (candidates charts r) → id_at (all_ids charts) r j ≡ point_id r (behind (chart_at charts r) (get_or (candidates charts r) j 0))
  unfolding all_ids
  id-of r j low in_range = ap (λ l. get_or l j 0) (get_or-map-below (meeting_ids charts) (length charts) r [] low) ∙ get_or-map (λ k. point_id r (behind (chart_at charts r) k)) (candidates charts r) j 0 0 in_range

  key-of : (r j : ℕ) → r < length charts → j < length (candidates charts r) → key_at (all_keys charts) r j ≡ packed (set_at (chart_at charts r) (get_or (candidates charts r) j 0))
  unfolding all_keys
  key-of r j low in_range = ap (λ l. get_or l j []) (get_or-map-below (meeting_keys charts) (length charts) r [] low) ∙ get_or-map (λ k. packed (set_at (chart_at charts r) k)) (candidates charts r) j 0 [] in_range

  -- its leaf
  abbrev leaf-of : ℕ → ℕ → Leaf
  leaf-of r j = leaf j (meeting_place charts r (set_at (chart_at charts r) (get_or (candidates charts r) j 0)))

  root-is : (r j : ℕ) → r < length charts → j < length (candidates charts r) → root_of (meeting_forest charts) r j ≡ Some (meeting_place charts r (set_at (chart_at charts r) (get_or (candidates charts r) j 0)))
  unfolding root_of meeting_forest
  root-is r j low in_range =
      ap (λ ls. option_map root_at (find (λ (l : Leaf). l.local == j) ls)) (get_or-map-below (meeting_leaves charts) (length charts) r [] low)
      ∙ ap (option_map root_at) (find-map (λ (l : Leaf). l.local == j) (leaf-of r) (below (length (candidates charts r))) ∙ ap (option_map (leaf-of r)) (found_below (length (candidates charts r)) j in_range))

  -- the ids that meet, by rank
  abbrev part : ℕ × ℕ → List ℕ → ℕ → List ℕ
  part root key q = map (λ (l : Leaf). id_at (all_ids charts) q l.local) (filter (meets (all_keys charts) root key q) (meeting_leaves charts q))

  ids-by_rank : (root : ℕ × ℕ) (key : List ℕ) → ids_meeting (meeting_forest charts) (all_keys charts) (all_ids charts) root key ≡ flat_map (part root key) (below (length charts))
  unfolding ids_meeting meeting_forest
  ids-by_rank root key =
      ap (flat_map by) (enumerated_below (meeting_leaves charts) (length charts))
      ∙ flat_map-map by with (below (length charts))
    where
      by : ℕ × List Leaf → List ℕ
      by r = map (λ (l : Leaf). id_at (all_ids charts) r.0 l.local) (filter (meets (all_keys charts) root key r.0) r.1)

      with : ℕ → ℕ × List Leaf
      with q = (q, meeting_leaves charts q)

-- a leaf on an equal root
on-root : (j : ℕ) (root other : ℕ × ℕ) → other ≡ root → is_on_root root (leaf j other) ≡ true
on-root j root other e = and_from (other.0 == root.0) (other.1 == root.1) (eq-eqb other.0 root.0 (ap (λ x. x.0) e)) (eq-eqb other.1 root.1 (ap (λ x. x.1) e))

-- ---- what meets

module _ (charts : List RankChart) (right : AreRankCharts charts) where
  -- each set of a rank is right, and the rank has it
  pub set-right : (r k : ℕ) → r < length charts → k < length (chart_at charts r).sets → IsSetOf (chart_at charts r) (set_at (chart_at charts r) k)
  set-right r k low in_range = all_at (IsSetOf (chart_at charts r)) (chart_at charts r).sets k [] (chart-right charts right r low).sets in_range

  pub set-here : (r k : ℕ) → r < length charts → k < length (chart_at charts r).sets → has_set (set_at (chart_at charts r) k) (chart_at charts r) ≡ true
  set-here r k low in_range = has-pair (chart_at charts r) (set_at (chart_at charts r) k) (set-right r k low in_range).second
      ∙ passes_at (same_list (set_at (chart_at charts r) k)) (chart_at charts r).sets [] k in_range (same_list-self (set_at (chart_at charts r) k))

  -- places have 32 bits
  pub place-small : (r : ℕ) (s : List ℕ) → r < length charts → place_with s (chart_at charts r) < 2 ^ 32
  place-small r s low =
      let within = first_within (same_list s) (lower_sets (chart_at charts r)) in
      let few = sum_has point_count charts no_chart r low in
      omega (arith, right.few_points)

  -- all ranks that have a set meet at one place
  one-place : (r : ℕ) (s : List ℕ) → r < length charts → length s ≡ 4 → get_or s 0 no_vertex < no_vertex → IsPair s → has_set s (chart_at charts r) ≡ true
      → meeting_place charts r s ≡ (first_having charts (get_or s 0 no_vertex), vertex_place (get_or s 0 no_vertex) (chart_at charts (first_having charts (get_or s 0 no_vertex))))
  unfolding meeting_place
  one-place r s low four first two h = home-first charts right r (get_or s 0 no_vertex) low (go (all_at (λ v. (v ≡ no_vertex) ⊎ (has_vertex v (chart_at charts r) ≡ true)) s 0 no_vertex (pair-inside charts (chart_at charts r) s (chart-right charts right r low) two h) (omega arith)))
    where
      go : (get_or s 0 no_vertex ≡ no_vertex) ⊎ (has_vertex (get_or s 0 no_vertex) (chart_at charts r) ≡ true) → has_vertex (get_or s 0 no_vertex) (chart_at charts r) ≡ true
      go (inl e) = absurd (omega arith)
      go (inr t) = t

  module _ (r j : ℕ) (low : r < length charts) (in_range : j < length (candidates charts r)) where
    k : ℕ
    k = get_or (candidates charts r) j 0

    abbrev s : List ℕ
    s = set_at (chart_at charts r) (get_or (candidates charts r) j 0)

    abbrev home : ℕ
    home = first_with charts s

    abbrev goal : ℕ
    goal = point_id (first_with charts s) (place_with s (chart_at charts (first_with charts s)))

    is : IsSetOf (chart_at charts r) s
    is = set-right r (get_or (candidates charts r) j 0) low (candidate-is charts r j in_range).0

    here : has_set s (chart_at charts r) ≡ true
    here = set-here r (get_or (candidates charts r) j 0) low (candidate-is charts r j in_range).0

    -- the first rank that has the set is one of the ranks
    home-low : first_with charts s < length charts
    home-low = position-within (has_set s) charts (passes_at (has_set s) charts no_chart r low here)

    home-has : has_set s (chart_at charts (first_with charts s)) ≡ true
    home-has = first_passes (has_set s) charts no_chart (passes_at (has_set s) charts no_chart r low here)

    -- no place of the set is below the first one
    least : (q i : ℕ) → q < length charts → i < length (chart_at charts q).sets → set_at (chart_at charts q) i ≡ s → goal ≤ point_id q (behind (chart_at charts q) i)
    least q i q-low i-low e = ⊎_elim earlier same (cases_lt (first_with charts s) q)
      where
        there : has_set s (chart_at charts q) ≡ true
        there = subst (λ t. has_set t (chart_at charts q) ≡ true) e (set-here q i q-low i-low)

        rank : first_with charts s ≤ q
        rank = first_least (has_set s) charts no_chart q q-low there

        earlier : first_with charts s < q → goal ≤ point_id q (behind (chart_at charts q) i)
        earlier lt = let small = place-small (first_with charts s) s home-low in omega arith

        place : place_with s (chart_at charts q) ≤ behind (chart_at charts q) i
        place =
            let at = place-pair (chart_at charts q) s is.second in
            let first = first_least (same_list s) (chart_at charts q).sets [] i i-low (ap (same_list s) e ∙ same_list-self s) in
            omega arith

        same : q ≤ first_with charts s → goal ≤ point_id q (behind (chart_at charts q) i)
        same ge =
            let one : first_with charts s ≡ q = omega (arith, rank) in
            let moved : place_with s (chart_at charts (first_with charts s)) ≡ place_with s (chart_at charts q) = ap (λ p. place_with s (chart_at charts p)) one in
            omega (arith, place)

    -- the place of the set among the sets of the first rank
    abbrev at : ℕ
    at = position_or_len (same_list s) (chart_at charts (first_with charts s)).sets

    among-sets : list_any (same_list s) (chart_at charts (first_with charts s)).sets ≡ true
    among-sets = sym (has-pair (chart_at charts (first_with charts s)) s is.second) ∙ home-has

    at-low : at < length (chart_at charts (first_with charts s)).sets
    at-low = position-within (same_list s) (chart_at charts (first_with charts s)).sets among-sets

    at-is : set_at (chart_at charts (first_with charts s)) at ≡ s
    at-is = sym (same_text s (set_at (chart_at charts (first_with charts s)) at) (sym (first_passes (same_list s) (chart_at charts (first_with charts s)).sets [] among-sets)))

    at-id : point_id (first_with charts s) (behind (chart_at charts (first_with charts s)) at) ≡ goal
    at-id = let e = place-pair (chart_at charts (first_with charts s)) s is.second in omega arith

    -- there it may be shared too
    at-shared : may_share charts (first_with charts s) (set_at (chart_at charts (first_with charts s)) at) ≡ true
    at-shared = ap (may_share charts (first_with charts s)) at-is ∙ go (first_with charts s == r) refl
      where
        go : (b : Bool) → (first_with charts s == r) ≡ b → may_share charts (first_with charts s) s ≡ true
        go true e = subst (λ q. may_share charts q s ≡ true) (sym (eqb-true (first_with charts s) r e)) (candidate-is charts r j in_range).1
        go false e = sharing charts right (first_with charts s) r s home-low low (λ same. absurd (cc (e, eq-eqb (first_with charts s) r same))) is.second home-has here

    abbrev root : ℕ × ℕ
    root = meeting_place charts r s

    -- no id that the set meets is below the first place
    all-above : AllByRecursion (λ y. goal ≤ y) (ids_meeting (meeting_forest charts) (all_keys charts) (all_ids charts) root (packed s))
    all-above = subst (AllByRecursion (λ y. goal ≤ y)) (sym (ids-by_rank charts root (packed s)))
        (all_flat_map (λ y. goal ≤ y) (part charts root (packed s)) (below (length charts)) (all_weaker (λ q. q < length charts) (λ q. AllByRecursion (λ y. goal ≤ y) (part charts root (packed s) q)) by-rank (below (length charts)) (below-all (length charts))))
      where
        by-leaf : (q : ℕ) → q < length charts → (l : Leaf) → l.local < length (candidates charts q) → meets (all_keys charts) root (packed s) q l ≡ true → goal ≤ id_at (all_ids charts) q l.local
        by-leaf q q-low l l-low e =
            let c = candidate-is charts q l.local l-low in
            let alike : packed (set_at (chart_at charts q) (get_or (candidates charts q) l.local 0)) ≡ packed s = sym (key-of charts q l.local q-low l-low) ∙ same_text (key_at (all_keys charts) q l.local) (packed s) (sym (and_parts (is_on_root root l) (same_list (key_at (all_keys charts) q l.local) (packed s)) e).1) in
            let other = set-right q (get_or (candidates charts q) l.local 0) q-low c.0 in
            subst (λ n. goal ≤ n) (sym (id-of charts q l.local q-low l-low))
            (least q (get_or (candidates charts q) l.local 0) q-low c.0 (packed-filled (set_at (chart_at charts q) (get_or (candidates charts q) l.local 0)) s other.four is.four other.numbers is.numbers alike))

        by-rank : (q : ℕ) → q < length charts → AllByRecursion (λ y. goal ≤ y) (part charts root (packed s) q)
        by-rank q q-low = all_map (λ y. goal ≤ y) (λ (l : Leaf). id_at (all_ids charts) q l.local) (filter (meets (all_keys charts) root (packed s) q) (meeting_leaves charts q))
            (all_both (λ (l : Leaf). l.local < length (candidates charts q)) (λ l. meets (all_keys charts) root (packed s) q l ≡ true) (λ (l : Leaf). goal ≤ id_at (all_ids charts) q l.local) (by-leaf q q-low) (filter (meets (all_keys charts) root (packed s) q) (meeting_leaves charts q))
            (all_filter (λ (l : Leaf). l.local < length (candidates charts q)) (meets (all_keys charts) root (packed s) q) (meeting_leaves charts q) (all_map (λ (l : Leaf). l.local < length (candidates charts q)) (leaf-of charts q) (below (length (candidates charts q))) (below-all (length (candidates charts q)))))
            (filter_passing (meets (all_keys charts) root (packed s) q) (meeting_leaves charts q)))

    -- and the first place is one of them
    one-at : list_any (λ y. y == goal) (ids_meeting (meeting_forest charts) (all_keys charts) (all_ids charts) root (packed s)) ≡ true
    one-at = ap (list_any (λ y. y == goal)) (ids-by_rank charts root (packed s)) ∙ sym (any_flat (λ y. y == goal) (part charts root (packed s)) (below (length charts)))
        ∙ passes_below (λ q. list_any (λ y. y == goal) (part charts root (packed s) q)) (length charts) (first_with charts s) home-low by-home
      where
        q : ℕ
        q = first_with charts s

        by-home : list_any (λ y. y == goal) (part charts root (packed s) (first_with charts s)) ≡ true
        by-home =
            let (i, i-low, i-is) = candidate-at charts (first_with charts s) at at-low at-shared in
            let set : set_at (chart_at charts (first_with charts s)) (get_or (candidates charts (first_with charts s)) i 0) ≡ s = ap (set_at (chart_at charts (first_with charts s))) i-is ∙ at-is in
            any_map (λ y. y == goal) (λ (l : Leaf). id_at (all_ids charts) (first_with charts s) l.local) (filter (meets (all_keys charts) root (packed s) (first_with charts s)) (meeting_leaves charts (first_with charts s)))
            ∙ any_filter (λ (l : Leaf). id_at (all_ids charts) (first_with charts s) l.local == goal) (meets (all_keys charts) root (packed s) (first_with charts s)) (meeting_leaves charts (first_with charts s))
            ∙ any_map (λ (l : Leaf). meets (all_keys charts) root (packed s) (first_with charts s) l && (id_at (all_ids charts) (first_with charts s) l.local == goal)) (leaf-of charts (first_with charts s)) (below (length (candidates charts (first_with charts s))))
            ∙ passes_below (λ n. meets (all_keys charts) root (packed s) (first_with charts s) (leaf-of charts (first_with charts s) n) && (id_at (all_ids charts) (first_with charts s) n == goal)) (length (candidates charts (first_with charts s))) i i-low
            (and_from (meets (all_keys charts) root (packed s) (first_with charts s) (leaf-of charts (first_with charts s) i)) (id_at (all_ids charts) (first_with charts s) i == goal)
            (and_from (is_on_root root (leaf-of charts (first_with charts s) i)) (same_list (key_at (all_keys charts) (first_with charts s) i) (packed s))
            (on-root i root (meeting_place charts (first_with charts s) (set_at (chart_at charts (first_with charts s)) (get_or (candidates charts (first_with charts s)) i 0))) (ap (meeting_place charts (first_with charts s)) set ∙ one-place (first_with charts s) s home-low is.four is.first is.second home-has ∙ sym (one-place r s low is.four is.first is.second here)))
            (ap (λ w. same_list w (packed s)) (key-of charts (first_with charts s) i home-low i-low ∙ ap packed set) ∙ same_list-self (packed s)))
            (eq-eqb (id_at (all_ids charts) (first_with charts s) i) goal (id-of charts (first_with charts s) i home-low i-low ∙ ap (λ n. point_id (first_with charts s) (behind (chart_at charts (first_with charts s)) n)) i-is ∙ at-id)))

    -- what the set meets
    pub met-first : (met : List (List ℕ)) → AreMet (meeting_forest charts) (all_keys charts) (all_ids charts) met → id_at met r j ≡ goal
    met-first met are =
        are.each r j
        ∙ ap (met_on (meeting_forest charts) (all_keys charts) (all_ids charts) r j) (root-is charts r j low in_range)
        ∙ ap (λ key. fold min (id_at (all_ids charts) r j) (ids_meeting (meeting_forest charts) (all_keys charts) (all_ids charts) root key)) (key-of charts r j low in_range)
        ∙ least-is goal (id_at (all_ids charts) r j) (ids_meeting (meeting_forest charts) (all_keys charts) (all_ids charts) root (packed s))
        (or_right (id_at (all_ids charts) r j == goal) _ one-at)
        (subst (λ n. goal ≤ n) (sym (id-of charts r j low in_range)) (least r (get_or (candidates charts r) j 0) low (candidate-is charts r j in_range).0 refl), all-above)
