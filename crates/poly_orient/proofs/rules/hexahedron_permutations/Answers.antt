use Rattle.std.proofs.Common.{◌≡◌, ℕ, ◌<◌, true, false, Bool, not, cond, ◌&&◌, ◌==◌, List, length, take, get_or, refl, subst, sym, ap, ◌∙◌, arith}
use Rattle.std.specs.List.{Contains, list_any, list_all}
use Rattle.std.proofs.lemmas.Bool.{and_parts, not-true, not_from_false}
use Rattle.std.proofs.lemmas.List.{take_all, get_or-take, length-take}
use Rattle.std.proofs.lemmas.List.Elements.{All-get_or}
use Rattle.mesh_defs.specs.declared.Poly.TheVariants.{Hex}
use Rattle.plain_lists.specs.Lists.{below}
use Rattle.plain_lists.proofs.Below.{passes-below, all_pass-below}
use Rattle.mesh_defs.specs.Orientation.{rotations, reflections, is_hex_edge, keeps_facets}
use Rattle.poly_orient.specs.Rules.{IsOrder, KeepsEdges}
use Rattle.poly_orient.proofs.Searching.{listings, listings-find}
use Rattle.poly_orient.proofs.Permutations.{is_order, IsOrder-tested, AreRising-tested, passes_at, is_sorted_out, kept_found, turned_over_found, is_new}
use Rattle.poly_orient.proofs.rules.hexahedron_permutations.Goals as goal

abbrev same : Bool → Bool → Bool
same a b = cond a b (not b)

same-refl : (a : Bool) → same a a ≡ true
same-refl true = refl
same-refl false = refl

same-true : (a b : Bool) → same a b ≡ true → a ≡ b
same-true true b h = sym h
same-true false b h = sym (not-true b h)

-- ---- the search

-- a corner may stand after those that it is not among, where edges join it to them just as they join their places
abbrev may_follow : List ℕ → ℕ → Bool
may_follow front c = not (list_any (λ d. d == c) front) && list_all (λ i. same (is_hex_edge (get_or front i 0) c) (is_hex_edge i (length front))) (below (length front))

joined_alike : (corners : List ℕ) (k : ℕ) → KeepsEdges corners → k < 8 → length corners ≡ 8
    → list_all (λ i. same (is_hex_edge (get_or (take k corners) i 0) (get_or corners k 0)) (is_hex_edge i (length (take k corners)))) (below (length (take k corners))) ≡ true
joined_alike corners k keeps lt size =
    let width : length (take k corners) ≡ k = omega (arith, length-take k corners, lt, size) in
    all_pass-below (λ i. same (is_hex_edge (get_or (take k corners) i 0) (get_or corners k 0)) (is_hex_edge i (length (take k corners)))) (length (take k corners))
    (λ i inside.
    let earlier : i < k = omega (arith, inside, width) in
    (λ j. same (is_hex_edge (get_or-take k corners i 0 earlier j) (get_or corners k 0)) (is_hex_edge i (width j)))
    ∙ ap (λ b. same b (is_hex_edge i k)) (keeps i k (omega (arith, earlier, lt)) lt) ∙ same-refl (is_hex_edge i k))

-- every order of the corners that keeps the edges is found
found : (corners : List ℕ) → IsOrder 8 corners → KeepsEdges corners → Contains (listings may_follow 8 8) corners
found corners order keeps =
    subst (Contains (listings may_follow 8 8)) (take_all 8 corners (omega (arith, order.all)))
    (listings-find may_follow 8 8 corners (omega (arith, order.all))
    (λ k lt. (
      All-get_or (λ c. c < 8) corners k 0 (omega (arith, lt, order.all)) order.in_range,
      ap (λ b. b && list_all (λ i. same (is_hex_edge (get_or (take k corners) i 0) (get_or corners k 0)) (is_hex_edge i (length (take k corners)))) (below (length (take k corners)))) (not_from_false _ (is_new 8 corners k order lt))
          ∙ joined_alike corners k keeps lt order.all,
    )))

-- ---- the tables

abbrev keeps_edges : List ℕ → Bool
keeps_edges corners = list_all (λ a. list_all (λ b. same (is_hex_edge (get_or corners a 0) (get_or corners b 0)) (is_hex_edge a b)) (below 8)) (below 8)

KeepsEdges-tested : (corners : List ℕ) → keeps_edges corners ≡ true → KeepsEdges corners
KeepsEdges-tested corners tested a b in_a in_b =
    let row = passes-below (λ a. list_all (λ b. same (is_hex_edge (get_or corners a 0) (get_or corners b 0)) (is_hex_edge a b)) (below 8)) 8 a tested in_a in
    same-true _ _ (passes-below (λ b. same (is_hex_edge (get_or corners a 0) (get_or corners b 0)) (is_hex_edge a b)) 8 b row in_b)

kept_rows : list_all (λ corners. is_order 8 corners && (keeps_edges corners && keeps_facets corners)) (rotations Hex) ≡ true
unfolding rotations
kept_rows = refl

turned_over_rows : list_all (λ corners. is_order 8 corners && (keeps_edges corners && not (keeps_facets corners))) (reflections Hex) ≡ true
unfolding rotations reflections
turned_over_rows = refl

all_sorted_out : list_all (is_sorted_out keeps_facets (rotations Hex) (reflections Hex)) (listings may_follow 8 8) ≡ true
unfolding rotations reflections
all_sorted_out = refl

pub returns-clause-kept : goal.returns-clause-kept
returns-clause-kept c corners = (
  λ has.
      let order = and_parts (is_order 8 corners) (keeps_edges corners && keeps_facets corners) (passes_at (λ corners. is_order 8 corners && (keeps_edges corners && keeps_facets corners)) (rotations Hex) corners kept_rows has) in
      let parts = and_parts (keeps_edges corners) (keeps_facets corners) order.1 in
      (IsOrder-tested 8 corners order.0, KeepsEdges-tested corners parts.0, parts.1),
  λ (order, keeps, kept). kept_found keeps_facets (rotations Hex) (reflections Hex) (listings may_follow 8 8) corners all_sorted_out (found corners order keeps) kept,
)

pub returns-clause-turned_over : goal.returns-clause-turned_over
returns-clause-turned_over c corners = (
  λ has.
      let order = and_parts (is_order 8 corners) (keeps_edges corners && not (keeps_facets corners)) (passes_at (λ corners. is_order 8 corners && (keeps_edges corners && not (keeps_facets corners))) (reflections Hex) corners turned_over_rows has) in
      let parts = and_parts (keeps_edges corners) (not (keeps_facets corners)) order.1 in
      (IsOrder-tested 8 corners order.0, KeepsEdges-tested corners parts.0, not-true _ parts.1),
  λ (order, keeps, kept). turned_over_found keeps_facets (rotations Hex) (reflections Hex) (listings may_follow 8 8) corners all_sorted_out (found corners order keeps) kept,
)

pub returns-clause-rotations_rise : goal.returns-clause-rotations_rise
unfolding rotations
returns-clause-rotations_rise c = AreRising-tested (rotations Hex) refl

pub returns-clause-reflections_rise : goal.returns-clause-reflections_rise
unfolding reflections
returns-clause-reflections_rise c = AreRising-tested (reflections Hex) refl
