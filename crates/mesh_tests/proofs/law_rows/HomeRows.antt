-- Worked rows of the home round of three triangles over two ranks, as a round of a forest; and that both rounds may be run.
use Rattle.std.proofs.Common.{◌≡◌, ◌⊎◌, ℕ, zero, suc, ◌<◌, true, List, [], ◌∷◌, map, get_or, Some, inl, inr, refl, sym, subst, ⊎_elim, arith}
use Rattle.std.specs.List.{list_any}
use Rattle.std.proofs.lemmas.Bool.{or_cases}
use Rattle.plain_lists.specs.Lists.{below, sorted}
use Rattle.mesh_defs.specs.Points.{Point, same_point, sights_of, first_sight, key, contains}
use Rattle.mesh_defs.specs.Diagram.{stratum, strata, chart, place_in}
use Rattle.mesh_laws.proofs.Firsts.{same_point-true}
use Rattle.plex_defs.proofs.Meshes.{three_triangles}
use Rattle.sf_defs.specs.declared.Op.{Op}
use Rattle.sf_defs.specs.declared.Op.TheVariants.{Sum, Min}
use Rattle.sf_defs.specs.declared.Tag.TheVariants.{Home}
use Rattle.sf_defs.specs.declared.Ask.{Ask}
use Rattle.sf_defs.specs.Asks.{step}
use Rattle.sf_defs.specs.Forest.{leaf}
use Rattle.sf_defs.specs.PrintedOrder.{fetched_before, stands_before, printed_order}
use Rattle.sf_defs.specs.Rounds.{Round, MeetsConditions, IsLegal, is_legal}
use Rattle.round_laws.proofs.Tests.{decides-conditions, decides-legal}
use Rattle.sf_ops.specs.Asked.{asks_of, words_of}
use Rattle.rank_defs.specs.Ranks.{assigned, held_cells, held, ranks_at, owner, owned, is_shared, own_key}
use Rattle.rank_defs.specs.Spread.{own_chart}
use Rattle.rank_defs.specs.Home.{by_vertices, shared_points, home_points, home_words, home_asks, IsHomeRound, number_asks}
use Rattle.rank_laws.specs.orient_laws.Named.{home_part}
use Rattle.rank_chart_laws.specs.home_laws.HomeForest.{home_counts, home_values, home_roots, home_forest, HaveOwnKeys}
use Rattle.mesh_tests.proofs.law_rows.Fan.{fan_ranks, edge}

-- ---- numbers of points and values

-- each rank numbers its points as it sees them by itself, and has its own keys there
abbrev local : ℕ → Point → ℕ
local r p = place_in (own_chart three_triangles (assigned three_triangles fan_ranks r)) p

abbrev values : List (List ℕ)
values = (0 ∷ 0 ∷ 1 ∷ 2 ∷ 8 ∷ 9 ∷ 10 ∷ []) ∷ (64 ∷ 128 ∷ 0 ∷ 1 ∷ 2 ∷ 3 ∷ 4 ∷ 72 ∷ 73 ∷ 74 ∷ 136 ∷ 137 ∷ 138 ∷ []) ∷ []

points_of_words : home_points three_triangles fan_ranks 2 ≡ edge 0 2 ∷ edge 1 2 ∷ []
unfolding sorted sights_of by_vertices shared_points home_points strata stratum owner is_shared ranks_at contains
points_of_words = refl

abbrev HasOwn : ℕ → Point → Type 0
HasOwn r p = (k : ℕ) → own_key three_triangles fan_ranks r p ≡ Some k → get_or (get_or values r []) (local r p) 0 ≡ k

-- both edges have their own keys on both ranks
own_keys_on_zero : HasOwn 0 (edge 0 2) × HasOwn 0 (edge 1 2)
unfolding sorted sights_of contains assigned own_chart own_key
own_keys_on_zero = (λ k e. cc e, λ k e. cc e)

own_keys_on_one : HasOwn 1 (edge 0 2) × HasOwn 1 (edge 1 2)
unfolding sorted sights_of contains assigned own_chart own_key
own_keys_on_one = (λ k e. cc e, λ k e. cc e)

own_keys_on : (r : ℕ) → r < 2 → HasOwn r (edge 0 2) × HasOwn r (edge 1 2)
own_keys_on zero low = own_keys_on_zero
own_keys_on (suc zero) low = own_keys_on_one
own_keys_on (suc (suc r)) low = absurd (omega (arith, low))

one_of_both : (p : Point) → list_any (same_point p) (edge 0 2 ∷ edge 1 2 ∷ []) ≡ true → (p ≡ edge 0 2) ⊎ (p ≡ edge 1 2)
one_of_both p h = ⊎_elim
    (λ e. inl (same_point-true p (edge 0 2) e))
    (λ rest. ⊎_elim (λ e. inr (same_point-true p (edge 1 2) e)) (λ none. absurd (cc none)) (or_cases (same_point p (edge 1 2)) (list_any (same_point p) []) rest))
    (or_cases (same_point p (edge 0 2)) (list_any (same_point p) (edge 1 2 ∷ [])) h)

have_own_keys : HaveOwnKeys three_triangles fan_ranks 2 local values
have_own_keys r low p h = ⊎_elim (λ is. subst (HasOwn r) (sym is) (own_keys_on r low).0) (λ is. subst (HasOwn r) (sym is) (own_keys_on r low).1) (one_of_both p (subst (λ ps. list_any (same_point p) ps ≡ true) points_of_words h))

-- ---- the round

abbrev ask : Op → ℕ → ℕ → Ask
ask op word value = record { word = word; op = op; value = value }

-- rank 0 owns both edges, and rank 1 asks with its own keys
abbrev home_asked : List (List Ask)
home_asked = [] ∷ (ask Min 0 72 ∷ ask Min 1 136 ∷ []) ∷ []

words_by_points : home_words three_triangles fan_ranks (home_points three_triangles fan_ranks 2) ≡ 10 ∷ 9 ∷ []
unfolding sorted sights_of by_vertices shared_points home_points home_words strata stratum owner is_shared ranks_at contains own_key assigned
words_by_points = refl

words_by_roots : words_of (home_values three_triangles fan_ranks 2) ≡ 10 ∷ 9 ∷ []
unfolding sorted sights_of by_vertices shared_points home_part home_values home_words strata stratum owner is_shared ranks_at contains own_key assigned
words_by_roots = refl

asks_by_points : map (home_asks three_triangles fan_ranks (home_points three_triangles fan_ranks 2)) (below 2) ≡ home_asked
unfolding sorted sights_of by_vertices shared_points home_points home_asks strata stratum owner is_shared ranks_at contains own_key assigned
asks_by_points = refl

-- the edges are points 7 and 10 of rank 1
leaves_of_words : home_forest three_triangles fan_ranks 2 local ≡ record { roots = 2 ∷ 0 ∷ []; leaves = [] ∷ (leaf 7 (0, 0) ∷ leaf 10 (0, 1) ∷ []) ∷ [] }
unfolding sorted sights_of by_vertices shared_points home_part home_counts home_roots home_forest strata stratum owner is_shared ranks_at contains own_key assigned own_chart
leaves_of_words = refl

asks_by_leaves : asks_of (home_forest three_triangles fan_ranks 2 local) Min values ≡ home_asked
unfolding sorted sights_of by_vertices shared_points home_part home_counts home_roots home_forest strata stratum owner is_shared ranks_at contains own_key assigned own_chart asks_of
asks_by_leaves = refl

-- Both words are the keys from the first, so that they stay.
abbrev home_run : Round
home_run = record { tag = Home; before = 10 ∷ 9 ∷ []; asks = home_asked; got = [] ∷ (10 ∷ 9 ∷ []) ∷ []; after = 10 ∷ 9 ∷ []; order = (record { rank = 1; index = 0 } ∷ []) ∷ (record { rank = 1; index = 1 } ∷ []) ∷ [] }

run_is_legal : IsLegal home_run
unfolding is_legal printed_order stands_before fetched_before step
run_is_legal = (decides-legal home_run).0 refl

run_is_home : IsHomeRound three_triangles fan_ranks 2 home_run
run_is_home = record { tag = refl; words = sym words_by_points; asks = sym asks_by_points; legal = run_is_legal }

-- ---- after it

counts : home_counts three_triangles fan_ranks 2 ≡ 2 ∷ 0 ∷ []
unfolding sorted sights_of by_vertices shared_points home_part home_counts strata stratum owner is_shared ranks_at contains
counts = refl

keys : map (key three_triangles) (edge 0 2 ∷ edge 1 2 ∷ []) ≡ Some 10 ∷ Some 9 ∷ []
unfolding sorted sights_of first_sight key
keys = refl

-- ---- both rounds may be run

home_may_run : MeetsConditions (10 ∷ 9 ∷ []) home_asked
home_may_run = (decides-conditions (10 ∷ 9 ∷ []) home_asked).0 refl

-- rank 0 owns seven points, rank 1 eight
abbrev numbers_asked : List (List Ask)
numbers_asked = (ask Sum 0 7 ∷ []) ∷ (ask Sum 0 8 ∷ []) ∷ []

asks_of_numbers : number_asks three_triangles fan_ranks 2 ≡ numbers_asked
unfolding sorted sights_of number_asks owned held held_cells chart strata stratum owner ranks_at contains assigned
asks_of_numbers = refl

numbers_may_run : MeetsConditions (0 ∷ []) numbers_asked
numbers_may_run = (decides-conditions (0 ∷ []) numbers_asked).0 refl
