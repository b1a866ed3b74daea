-- Where the vertices and the sets of right charts are first.
use Rattle.std.proofs.Common.{◌≡◌, ◌⊎◌, ℕ, ◌+◌, ◌<◌, Bool, true, false, ◌&&◌, ◌||◌, ◌==◌, List, [], ◌∷◌, map, length, get_or, refl, sym, ap, ap₂, ◌∙◌, subst, arith}
use Rattle.std.specs.List.{list_any, AllByRecursion, position_or_len}
use Rattle.std.specs.Cmp.Lexicographic.{same_text}
use Rattle.std.proofs.lemmas.Bool.{eqb-true, eq-eqb}
use Rattle.std.proofs.lemmas.List.{length-map, get_or-map}
use Rattle.std.proofs.lemmas.List.Folds.{list_any-append}
use Rattle.plain_lists.specs.Lists.{same_list}
use Rattle.plain_lists.proofs.Each.{all_weaker, all_from, all_at, all_map}
use Rattle.plain_lists.proofs.Finding.{any_map, any_same, none_passes, among, position-append_found, position-append_none, position_map, position_agree, position-within}
use Rattle.mesh_laws.proofs.Containing.{eqb-sym}
use Rattle.rank_laws.specs.share_laws.Packed.{no_vertex}
use Rattle.rank_chart_laws.specs.meeting_laws.Sets.{filled, RankChart, no_chart, chart_at, lower_sets, has_set, first_with, place_with, home_of, has_vertex, first_having, IsSetOf, IsRankChart, AreRankCharts}
use Rattle.rank_chart_laws.specs.meeting_laws.Steps.{vertex_place, vertex_at, owner_at, vertex_home}
use Rattle.rank_chart_laws.proofs.meeting_laws.Lists.{first_passes, passes_at}

-- a vertex as a filled set
abbrev pub single : ℕ → List ℕ
single v = filled (v ∷ [])

and-true : (b : Bool) → (b && true) ≡ b
and-true true = refl
and-true false = refl

or-false : (b : Bool) → (b || false) ≡ b
or-false true = refl
or-false false = refl

-- vertices are equal sets where they are equal
single-same : (v w : ℕ) → same_list (single v) (single w) ≡ (w == v)
single-same v w = and-true (v == w) ∙ eqb-sym v w

-- a set of two vertices or more is no vertex
abbrev pub IsPair : List ℕ → Type 0
IsPair s = get_or s 1 no_vertex < no_vertex

not-single : (s : List ℕ) (v : ℕ) → IsPair s → same_list s (single v) ≡ false
not-single s v two = go (same_list s (single v)) refl
  where
    go : (b : Bool) → same_list s (single v) ≡ b → b ≡ false
    go false e = refl
    go true e = let same : s ≡ single v = same_text s (single v) (sym e) in let at : get_or s 1 no_vertex ≡ no_vertex = ap (λ l. get_or l 1 no_vertex) same in absurd (omega arith)

-- the test of lists is symmetric where it fails
single-not : (s : List ℕ) (v : ℕ) → IsPair s → same_list (single v) s ≡ false
single-not s v two = go (same_list (single v) s) refl
  where
    go : (b : Bool) → same_list (single v) s ≡ b → b ≡ false
    go false e = refl
    go true e = let same : single v ≡ s = same_text (single v) s (sym e) in let at : no_vertex ≡ get_or s 1 no_vertex = ap (λ l. get_or l 1 no_vertex) same in absurd (omega arith)

-- ---- one chart

-- the sets of a right chart have two vertices or more
pub sets-pairs : (charts : List RankChart) (c : RankChart) → IsRankChart charts c → AllByRecursion IsPair c.sets
sets-pairs charts c right = all_weaker (IsSetOf c) IsPair (λ s is. is.second) c.sets right.sets

-- a right chart has a vertex as a set where it has it
pub has-single : (charts : List RankChart) (c : RankChart) (v : ℕ) → IsRankChart charts c → has_set (single v) c ≡ has_vertex v c
has-single charts c v right =
    list_any-append (same_list (single v)) (map single c.vertices) c.sets
    ∙ ap₂ (λ a b. a || b)
    (any_map (same_list (single v)) single c.vertices ∙ any_same (λ w. same_list (single v) (single w)) (λ w. w == v) (single-same v) c.vertices)
    (none_passes (same_list (single v)) c.sets (all_weaker IsPair (λ s. same_list (single v) s ≡ false) (λ s two. single-not s v two) c.sets (sets-pairs charts c right)))
    ∙ or-false (has_vertex v c)

-- and at the place where it has it
pub place-single : (c : RankChart) (v : ℕ) → has_vertex v c ≡ true → position_or_len (same_list (single v)) (lower_sets c) ≡ vertex_place v c
place-single c v h =
    position-append_found (same_list (single v)) (map single c.vertices) c.sets (any_map (same_list (single v)) single c.vertices ∙ any_same (λ w. same_list (single v) (single w)) (λ w. w == v) (single-same v) c.vertices ∙ h)
    ∙ position_map (same_list (single v)) single c.vertices
    ∙ position_agree (λ w. same_list (single v) (single w)) (λ w. w == v) c.vertices (all_from (λ w. same_list (single v) (single w) ≡ (w == v)) (single-same v) c.vertices)

no-vertices : (s : List ℕ) (c : RankChart) → IsPair s → list_any (same_list s) (map single c.vertices) ≡ false
no-vertices s c two = none_passes (same_list s) (map single c.vertices) (all_map (λ t. same_list s t ≡ false) single c.vertices (all_from (λ v. same_list s (single v) ≡ false) (λ v. not-single s v two) c.vertices))

-- a set of two vertices or more stands among the sets
pub has-pair : (c : RankChart) (s : List ℕ) → IsPair s → has_set s c ≡ list_any (same_list s) c.sets
has-pair c s two = list_any-append (same_list s) (map single c.vertices) c.sets ∙ ap (λ b. b || list_any (same_list s) c.sets) (no-vertices s c two)

pub place-pair : (c : RankChart) (s : List ℕ) → IsPair s → position_or_len (same_list s) (lower_sets c) ≡ length c.vertices + position_or_len (same_list s) c.sets
place-pair c s two = position-append_none (same_list s) (map single c.vertices) c.sets (no-vertices s c two) ∙ ap (λ n. n + position_or_len (same_list s) c.sets) (length-map c.vertices single)

-- its vertices are the chart's
pub pair-inside : (charts : List RankChart) (c : RankChart) (s : List ℕ) → IsRankChart charts c → IsPair s → has_set s c ≡ true → AllByRecursion (λ v. (v ≡ no_vertex) ⊎ (has_vertex v c ≡ true)) s
pair-inside charts c s right two h =
    let (t, is, e) = among (IsSetOf c) (same_list s) c.sets right.sets (sym (has-pair c s two) ∙ h) in
    subst (AllByRecursion (λ v. (v ≡ no_vertex) ⊎ (has_vertex v c ≡ true))) (sym (same_text s t (sym e))) is.inside

-- what stands at the place of a vertex
pub placed-vertex : (c : RankChart) (v : ℕ) → has_vertex v c ≡ true → (vertex_place v c < length c.vertices) × (vertex_at c (vertex_place v c) ≡ v)
placed-vertex c v h = (position-within (λ w. w == v) c.vertices h, eqb-true (vertex_at c (vertex_place v c)) v (first_passes (λ w. w == v) c.vertices no_vertex h))

-- ---- all charts

module _ (charts : List RankChart) (right : AreRankCharts charts) where
  pub chart-right : (r : ℕ) → r < length charts → IsRankChart charts (chart_at charts r)
  chart-right r low = all_at (IsRankChart charts) charts r no_chart right.each low

  -- the owner of a vertex is the first rank that has it
  pub owner-first : (r i : ℕ) → r < length charts → i < length (chart_at charts r).vertices → owner_at (chart_at charts r) i ≡ first_having charts (vertex_at (chart_at charts r) i)
  owner-first r i low in_range = ap (λ l. get_or l i 0) (chart-right r low).owners ∙ get_or-map (first_having charts) (chart_at charts r).vertices i no_vertex 0 in_range

  -- a vertex is first where it is first as a set
  pub first-single : (v : ℕ) → first_with charts (single v) ≡ first_having charts v
  first-single v = position_agree (has_set (single v)) (has_vertex v) charts (all_weaker (IsRankChart charts) (λ c. has_set (single v) c ≡ has_vertex v c) (λ c is. has-single charts c v is) charts right.each)

  -- the first rank that has a vertex is one of the ranks, and has it
  pub first-has : (r v : ℕ) → r < length charts → has_vertex v (chart_at charts r) ≡ true → (first_having charts v < length charts) × (has_vertex v (chart_at charts (first_having charts v)) ≡ true)
  first-has r v low h = let some = passes_at (has_vertex v) charts no_chart r low h in (position-within (has_vertex v) charts some, first_passes (has_vertex v) charts no_chart some)

  -- the ith vertex of a rank stands there
  pub vertex-here : (r i : ℕ) → i < length (chart_at charts r).vertices → has_vertex (vertex_at (chart_at charts r) i) (chart_at charts r) ≡ true
  vertex-here r i low = passes_at (λ w. w == vertex_at (chart_at charts r) i) (chart_at charts r).vertices no_vertex i low (eq-eqb (vertex_at (chart_at charts r) i) (vertex_at (chart_at charts r) i) refl)

  -- the first place of the ith vertex of a rank, as a set
  pub single-home : (r i : ℕ) → r < length charts → i < length (chart_at charts r).vertices
      → home_of charts (single (vertex_at (chart_at charts r) i)) ≡ (owner_at (chart_at charts r) i, (chart_at charts (owner_at (chart_at charts r) i)).cells + (vertex_home charts (chart_at charts r) i).1)
  single-home r i low in_range = λ k. (rank k, place k)
    where
      c : RankChart
      c = chart_at charts r

      v : ℕ
      v = vertex_at (chart_at charts r) i

      rank : first_with charts (single (vertex_at (chart_at charts r) i)) ≡ owner_at (chart_at charts r) i
      rank = first-single (vertex_at (chart_at charts r) i) ∙ sym (owner-first r i low in_range)

      at : (q : ℕ) → first_having charts v ≡ q → place_with (single v) (chart_at charts q) ≡ (chart_at charts q).cells + vertex_place v (chart_at charts q)
      at q e = ap (λ n. (chart_at charts q).cells + n) (place-single (chart_at charts q) v (subst (λ p. has_vertex v (chart_at charts p) ≡ true) e (first-has r v low (vertex-here r i in_range)).1))

      place : place_with (single (vertex_at (chart_at charts r) i)) (chart_at charts (first_with charts (single (vertex_at (chart_at charts r) i)))) ≡ (chart_at charts (owner_at (chart_at charts r) i)).cells + (vertex_home charts (chart_at charts r) i).1
      place = ap (λ q. place_with (single v) (chart_at charts q)) rank ∙ at (owner_at (chart_at charts r) i) (sym (owner-first r i low in_range))

  -- where the ith vertex of a rank is first
  pub home-first : (r v : ℕ) → r < length charts → has_vertex v (chart_at charts r) ≡ true → vertex_home charts (chart_at charts r) (vertex_place v (chart_at charts r)) ≡ (first_having charts v, vertex_place v (chart_at charts (first_having charts v)))
  home-first r v low h =
      let (in_range, same) = placed-vertex (chart_at charts r) v h in
      let owner : owner_at (chart_at charts r) (vertex_place v (chart_at charts r)) ≡ first_having charts v = owner-first r (vertex_place v (chart_at charts r)) low in_range ∙ ap (first_having charts) same in
      λ k. (owner k, vertex_place (same k) (chart_at charts (owner k)))
