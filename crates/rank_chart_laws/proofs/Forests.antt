-- The forest that charts of points tell is the one that charts of sets tell, where points below the cells are told by their sets and
-- cells are on one rank alone.
use Rattle.std.proofs.Common.{◌≡◌, ℕ, suc, ◌+◌, ◌<◌, Bool, true, false, not, ◌||◌, ◌==◌, List, [], ◌∷◌, ◌++◌, map, length, get_or, refl, sym, ap, ap₂, ◌∙◌, arith}
use Rattle.std.specs.List.{list_any, AllByRecursion, position_or_len, filter, enumerate_from}
use Rattle.std.proofs.lemmas.Bool.{eq-eqb}
use Rattle.std.proofs.lemmas.List.{length-map, get_or-map, length-append}
use Rattle.std.proofs.lemmas.List.Elements.{filter-append}
use Rattle.std.proofs.lemmas.List.Folds.{list_any-append}
use Rattle.plain_lists.specs.Lists.{below, same_list}
use Rattle.plain_lists.proofs.Each.{all_weaker, all_from, all_at, all_enumerated}
use Rattle.plain_lists.proofs.Below.{below-all, length-below, get_or-map-below}
use Rattle.plain_lists.proofs.Filters.{map_map_same, filter_none}
use Rattle.plain_lists.proofs.Finding.{any_map, any_agree, position_map, position_agree, position-append_none, position-within}
use Rattle.mesh_defs.specs.Points.{Point, same_point}
use Rattle.mesh_laws.proofs.Firsts.{same_point-self}
use Rattle.sf_defs.specs.declared.Leaf.{Leaf}
use Rattle.sf_defs.specs.Forest.{leaf}
use Rattle.rank_laws.specs.share_laws.Charts.{first_holder, first_home, forest_of_charts}
use Rattle.rank_chart_laws.specs.meeting_laws.Sets.{filled, RankChart, no_chart, chart_at, lower_sets, point_count, has_set, first_with, place_with, home_of, set_leaves, forest_of_sets}
use Rattle.rank_chart_laws.proofs.meeting_laws.Lists.{enumerated_below, chosen_enumerated, chosen_same, passes_below, passes_at}

abbrev pub fill : Point → List ℕ
fill p = filled p.vertices

enumerated-append : {X : Type 0} (n : ℕ) (xs ys : List X) → enumerate_from n (xs ++ ys) ≡ enumerate_from n xs ++ enumerate_from (n + length xs) ys
enumerated-append n [] ys = ap (λ k. enumerate_from k ys) (let e : n ≡ n + 0 = omega arith in e)
enumerated-append n (x ∷ xs) ys = ap (λ l. (n, x) ∷ l) (enumerated-append (n + 1) xs ys ∙ ap (λ k. enumerate_from (n + 1) xs ++ enumerate_from k ys) (let e : n + 1 + length xs ≡ n + suc (length xs) = omega arith in e))

-- on each of n ranks the cells and the points below them, and the chart of sets
module _ (n : ℕ) (T L : ℕ → List Point) (R : ℕ → RankChart) (Lower : Point → Type 0) where
  abbrev charts : List (List Point)
  charts = map (λ r. T r ++ L r) (below n)

  abbrev sets : List RankChart
  sets = map R (below n)

  module _ (cells : (r : ℕ) → (R r).cells ≡ length (T r)) (same : (r : ℕ) → lower_sets (R r) ≡ map fill (L r)) (alone : (r : ℕ) → r < n → AllByRecursion (λ p. first_holder (map (λ q. T q ++ L q) (below n)) p ≡ r) (T r)) (low : (r : ℕ) → AllByRecursion Lower (L r)) (told : (p q : Point) → Lower p → Lower q → same_point p q ≡ same_list (fill p) (fill q)) (apart : (r : ℕ) (p : Point) → Lower p → list_any (same_point p) (T r) ≡ false) where
    -- the tests of one rank agree
    agree : (r : ℕ) (p : Point) → Lower p → AllByRecursion (λ q. same_point p q ≡ same_list (fill p) (fill q)) (L r)
    agree r p l = all_weaker Lower (λ q. same_point p q ≡ same_list (fill p) (fill q)) (λ q k. told p q l k) (L r) (low r)

    has-same : (r : ℕ) (p : Point) → Lower p → list_any (same_point p) (T r ++ L r) ≡ has_set (fill p) (R r)
    has-same r p l = list_any-append (same_point p) (T r) (L r) ∙ ap (λ b. b || list_any (same_point p) (L r)) (apart r p l)
        ∙ any_agree (same_point p) (λ q. same_list (fill p) (fill q)) (L r) (agree r p l)
        ∙ sym (ap (list_any (same_list (fill p))) (same r) ∙ any_map (same_list (fill p)) fill (L r))

    place-same : (r : ℕ) (p : Point) → Lower p → position_or_len (same_point p) (T r ++ L r) ≡ place_with (fill p) (R r)
    place-same r p l = position-append_none (same_point p) (T r) (L r) (apart r p l)
        ∙ ap₂ (λ c k. c + k) (sym (cells r))
        (position_agree (same_point p) (λ q. same_list (fill p) (fill q)) (L r) (agree r p l) ∙ sym (ap (position_or_len (same_list (fill p))) (same r) ∙ position_map (same_list (fill p)) fill (L r)))

    first-same : (p : Point) → Lower p → first_holder charts p ≡ first_with sets (fill p)
    first-same p l = position_map (list_any (same_point p)) (λ r. T r ++ L r) (below n)
        ∙ position_agree (λ r. list_any (same_point p) (T r ++ L r)) (λ r. has_set (fill p) (R r)) (below n) (all_from (λ r. list_any (same_point p) (T r ++ L r) ≡ has_set (fill p) (R r)) (λ r. has-same r p l) (below n))
        ∙ sym (position_map (has_set (fill p)) R (below n))

    -- a point of a rank is first on one of the ranks
    first-low : (r : ℕ) (p : Point) → r < n → Lower p → list_any (same_point p) (L r) ≡ true → first_holder charts p < n
    first-low r p in_range l h =
        let some : list_any (list_any (same_point p)) charts ≡ true = any_map (list_any (same_point p)) (λ q. T q ++ L q) (below n) ∙ passes_below (λ q. list_any (same_point p) (T q ++ L q)) n r in_range (list_any-append (same_point p) (T r) (L r) ∙ ap (λ b. b || list_any (same_point p) (L r)) (apart r p l) ∙ h) in
        let within = position-within (list_any (same_point p)) charts some in
        let long = length-map (below n) (λ r. T r ++ L r) in
        let count = length-below n in
        omega arith

    home-same : (r : ℕ) (p : Point) → r < n → Lower p → list_any (same_point p) (L r) ≡ true → first_home charts p ≡ home_of sets (fill p)
    home-same r p in_range l h = λ i. (first-same p l i, place i)
      where
        k : ℕ
        k = first_holder (map (λ q. T q ++ L q) (below n)) p

        place : position_or_len (same_point p) (get_or charts (first_holder charts p) []) ≡ place_with (fill p) (chart_at sets (first_with sets (fill p)))
        place = ap (position_or_len (same_point p)) (get_or-map-below (λ q. T q ++ L q) n (first_holder charts p) [] (first-low r p in_range l h))
            ∙ place-same (first_holder charts p) p l
            ∙ ap (place_with (fill p)) (sym (get_or-map-below R n (first_holder charts p) no_chart (first-low r p in_range l h)))
            ∙ ap (λ q. place_with (fill p) (chart_at sets q)) (first-same p l)

    abbrev later : ℕ → ℕ × Point → Bool
    later r p = not (first_holder charts p.1 == r)

    abbrev to : ℕ × Point → Leaf
    to p = leaf p.0 (first_home charts p.1)

    abbrev no_point : Point
    no_point = record { dim = 0; vertices = [] }

    -- cells are no leaves
    no-tops : (r : ℕ) → r < n → filter (later r) (enumerate_from 0 (T r)) ≡ []
    no-tops r in_range = filter_none (later r) (enumerate_from 0 (T r)) (all_weaker (λ (p : ℕ × Point). first_holder charts p.1 ≡ r) (λ p. later r p ≡ false) (λ p e. ap not (eq-eqb (first_holder charts p.1) r e)) (enumerate_from 0 (T r)) (all_enumerated (λ p. first_holder charts p ≡ r) 0 (T r) (alone r in_range)))

    -- the leaves of a rank
    rank-same : (r : ℕ) → r < n → map to (filter (later r) (enumerate_from 0 (T r ++ L r))) ≡ set_leaves sets r (R r)
    rank-same r in_range =
        ap (λ l. map to (filter (later r) l)) (enumerated-append 0 (T r) (L r))
        ∙ ap (map to) (filter-append (later r) (enumerate_from 0 (T r)) (enumerate_from (0 + length (T r)) (L r)) ∙ ap (λ l. l ++ filter (later r) (enumerate_from (0 + length (T r)) (L r))) (no-tops r in_range))
        ∙ chosen_enumerated (later r) to (0 + length (T r)) (L r) no_point
        ∙ chosen_same (λ i. later r (0 + length (T r) + i, get_or (L r) i no_point)) (λ i. not (first_with sets (get_or (map fill (L r)) i []) == r)) (λ i. to (0 + length (T r) + i, get_or (L r) i no_point)) (λ i. leaf ((R r).cells + (0 + i)) (home_of sets (get_or (map fill (L r)) i []))) (length (L r))
        (λ i l. ap (λ q. not (q == r)) (first-same (get_or (L r) i no_point) (lower i l) ∙ ap (first_with sets) (sym (at i l))))
        (λ i l t. ap₂ leaf (place i) (home-same r (get_or (L r) i no_point) in_range (lower i l) (there i l) ∙ ap (home_of sets) (sym (at i l))))
        ∙ sym (ap (λ l. map (λ (s : ℕ × List ℕ). leaf ((R r).cells + s.0) (home_of sets s.1)) (filter (λ (s : ℕ × List ℕ). not (first_with sets s.1 == r)) (enumerate_from 0 l))) (same r)
        ∙ chosen_enumerated (λ (s : ℕ × List ℕ). not (first_with sets s.1 == r)) (λ (s : ℕ × List ℕ). leaf ((R r).cells + s.0) (home_of sets s.1)) 0 (map fill (L r)) []
        ∙ ap (λ k. map (λ i. leaf ((R r).cells + (0 + i)) (home_of sets (get_or (map fill (L r)) i []))) (filter (λ i. not (first_with sets (get_or (map fill (L r)) i []) == r)) (below k))) (length-map (L r) fill))
      where
        lower : (i : ℕ) → i < length (L r) → Lower (get_or (L r) i no_point)
        lower i l = all_at Lower (L r) i no_point (low r) l

        at : (i : ℕ) → i < length (L r) → get_or (map fill (L r)) i [] ≡ fill (get_or (L r) i no_point)
        at i l = get_or-map fill (L r) i no_point [] l

        there : (i : ℕ) → i < length (L r) → list_any (same_point (get_or (L r) i no_point)) (L r) ≡ true
        there i l = passes_at (same_point (get_or (L r) i no_point)) (L r) no_point i l (same_point-self (get_or (L r) i no_point))

        place : (i : ℕ) → 0 + length (T r) + i ≡ (R r).cells + (0 + i)
        place i = let e = cells r in omega arith

    -- the forests are one
    pub sets-tell : forest_of_charts (map (λ r. T r ++ L r) (below n)) ≡ forest_of_sets (map R (below n))
    unfolding forest_of_charts forest_of_sets
    sets-tell = λ i. record { roots = roots i; leaves = leaves i }
      where
        count : (r : ℕ) → length (T r ++ L r) ≡ point_count (R r)
        count r = let a = length-append (T r) (L r) in let b = length-map (L r) fill in let c = ap length (same r) in let d = cells r in omega arith

        roots : map length charts ≡ map point_count sets
        roots = map_map_same length (λ r. T r ++ L r) (λ r. point_count (R r)) (below n) (all_from (λ r. length (T r ++ L r) ≡ point_count (R r)) count (below n))
            ∙ sym (map_map_same point_count R (λ r. point_count (R r)) (below n) (all_from (λ r. point_count (R r) ≡ point_count (R r)) (λ r. refl) (below n)))

        with : ℕ → ℕ × List Point
        with r = (r, T r ++ L r)

        by : ℕ → ℕ × RankChart
        by r = (r, R r)

        leaves : map (λ (r : ℕ × List Point). map to (filter (later r.0) (enumerate_from 0 r.1))) (enumerate_from 0 charts) ≡ map (λ (r : ℕ × RankChart). set_leaves sets r.0 r.1) (enumerate_from 0 sets)
        leaves = ap (map (λ (r : ℕ × List Point). map to (filter (later r.0) (enumerate_from 0 r.1)))) (enumerated_below (λ r. T r ++ L r) n)
            ∙ map_map_same (λ (r : ℕ × List Point). map to (filter (later r.0) (enumerate_from 0 r.1))) with (λ r. set_leaves sets r (R r)) (below n) (all_weaker (λ r. r < n) (λ r. map to (filter (later r) (enumerate_from 0 (T r ++ L r))) ≡ set_leaves sets r (R r)) (λ r l. rank-same r l) (below n) (below-all n))
            ∙ sym (ap (map (λ (r : ℕ × RankChart). set_leaves sets r.0 r.1)) (enumerated_below R n)
            ∙ map_map_same (λ (r : ℕ × RankChart). set_leaves sets r.0 r.1) by (λ r. set_leaves sets r (R r)) (below n) (all_from (λ r. set_leaves sets r (R r) ≡ set_leaves sets r (R r)) (λ r. refl) (below n)))
