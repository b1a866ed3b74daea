-- A test of right charts that computes, and what it says.
use Rattle.std.proofs.Common.{◌≡◌, ◌⊎◌, ℕ, ◌<◌, ◌≤◌, ◌^◌, Bool, true, ◌&&◌, ◌||◌, ◌==◌, nat_lt, nat_le, List, length, map, get_or, sum_by, inl, inr, sym, ⊎_elim}
use Rattle.std.specs.List.{list_all, AllByRecursion}
use Rattle.std.specs.Cmp.Lexicographic.{same_text}
use Rattle.std.proofs.lemmas.Bool.{and_parts, eqb-true, ltb-true, leb-true, or_cases}
use Rattle.plain_lists.specs.Lists.{below, same_list}
use Rattle.plain_lists.proofs.Each.{all_weaker, each_passes}
use Rattle.plain_lists.proofs.Below.{passes-below}
use Rattle.rank_laws.specs.share_laws.Packed.{no_vertex}
use Rattle.rank_chart_laws.specs.meeting_laws.Sets.{RankChart, point_count, has_vertex, first_having, IsSetOf, IsRankChart, AreRankCharts}

-- ---- the test

abbrev rises : List ℕ → Bool
rises vs = list_all (λ j. list_all (λ i. nat_lt (get_or vs i 0) (get_or vs j 0)) (below j)) (below (length vs))

abbrev is_set_of : RankChart → List ℕ → Bool
is_set_of c s = (length s == 4) && (nat_lt (get_or s 0 no_vertex) no_vertex && (nat_lt (get_or s 1 no_vertex) no_vertex && (list_all (λ v. nat_le v no_vertex) s && list_all (λ v. (v == no_vertex) || has_vertex v c) s)))

abbrev is_rank_chart : List RankChart → RankChart → Bool
is_rank_chart charts c = same_list c.owners (map (first_having charts) c.vertices) && (rises c.vertices && (list_all (λ v. nat_lt v no_vertex) c.vertices && list_all (is_set_of c) c.sets))

abbrev pub are_rank_charts : List RankChart → Bool
are_rank_charts charts = nat_le 1 (length charts) && (nat_le (length charts) 64 && (nat_lt (sum_by point_count charts) (2 ^ 32) && list_all (is_rank_chart charts) charts))

-- ---- what it says

-- each entry of a list that passes a test has what the test says
each-told : {X : Type 0} (p : X → Bool) (P : X → Type 0) → ((x : X) → p x ≡ true → P x) → (xs : List X) → list_all p xs ≡ true → AllByRecursion P xs
each-told p P told xs h = all_weaker (λ x. p x ≡ true) P told xs (each_passes p xs h)

set-told : (c : RankChart) (s : List ℕ) → is_set_of c s ≡ true → IsSetOf c s
set-told c s h =
    let four = and_parts (length s == 4) _ h in
    let first = and_parts (nat_lt (get_or s 0 no_vertex) no_vertex) _ four.1 in
    let second = and_parts (nat_lt (get_or s 1 no_vertex) no_vertex) _ first.1 in
    let rest = and_parts (list_all (λ v. nat_le v no_vertex) s) (list_all (λ v. (v == no_vertex) || has_vertex v c) s) second.1 in
    record {
      four = eqb-true (length s) 4 four.0;
      first = ltb-true (get_or s 0 no_vertex) no_vertex first.0;
      second = ltb-true (get_or s 1 no_vertex) no_vertex second.0;
      numbers = each-told (λ v. nat_le v no_vertex) (λ v. v ≤ no_vertex) (λ v e. leb-true v no_vertex e) s rest.0;
      inside = each-told (λ v. (v == no_vertex) || has_vertex v c) (λ v. (v ≡ no_vertex) ⊎ (has_vertex v c ≡ true)) (λ v e. ⊎_elim (λ l. inl (eqb-true v no_vertex l)) (λ r. inr r) (or_cases (v == no_vertex) (has_vertex v c) e)) s rest.1;
    }

chart-told : (charts : List RankChart) (c : RankChart) → is_rank_chart charts c ≡ true → IsRankChart charts c
chart-told charts c h =
    let owners = and_parts (same_list c.owners (map (first_having charts) c.vertices)) _ h in
    let rising = and_parts (rises c.vertices) _ owners.1 in
    let rest = and_parts (list_all (λ v. nat_lt v no_vertex) c.vertices) (list_all (is_set_of c) c.sets) rising.1 in
    record {
      owners = same_text c.owners (map (first_having charts) c.vertices) (sym owners.0);
      rising = λ i j low high. ltb-true _ _ (passes-below (λ k. nat_lt (get_or c.vertices k 0) (get_or c.vertices j 0)) j i (passes-below (λ l. list_all (λ k. nat_lt (get_or c.vertices k 0) (get_or c.vertices l 0)) (below l)) (length c.vertices) j rising.0 high) low);
      numbers = each-told (λ v. nat_lt v no_vertex) (λ v. v < no_vertex) (λ v e. ltb-true v no_vertex e) c.vertices rest.0;
      sets = each-told (is_set_of c) (IsSetOf c) (set-told c) c.sets rest.1;
    }

-- charts that pass are right
pub right-charts : (charts : List RankChart) → are_rank_charts charts ≡ true → AreRankCharts charts
right-charts charts h =
    let some = and_parts (nat_le 1 (length charts)) _ h in
    let few = and_parts (nat_le (length charts) 64) _ some.1 in
    let points = and_parts (nat_lt (sum_by point_count charts) (2 ^ 32)) (list_all (is_rank_chart charts) charts) few.1 in
    record {
      some_rank = leb-true 1 (length charts) some.0;
      few_ranks = leb-true (length charts) 64 few.0;
      few_points = ltb-true (sum_by point_count charts) (2 ^ 32) points.0;
      each = each-told (is_rank_chart charts) (IsRankChart charts) (chart-told charts) charts points.1;
    }
