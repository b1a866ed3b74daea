use Rattle.std.proofs.Common.{◌≡◌, ℕ, ◌<◌, true, Bool, not, ◌&&◌, ◌==◌, List, refl, subst, arith}
use Rattle.std.specs.List.{Contains, list_any, list_all}
use Rattle.std.proofs.lemmas.Bool.{and_parts, not-true, not_from_false}
use Rattle.std.proofs.lemmas.List.{take_all}
use Rattle.std.proofs.lemmas.List.Elements.{All-get_or}
use Rattle.mesh_defs.specs.declared.Poly.TheVariants.{Tet}
use Rattle.mesh_defs.specs.Orientation.{rotations, reflections}
use Rattle.poly_orient.specs.Rules.{IsOrder, is_even}
use Rattle.poly_orient.proofs.Searching.{listings, listings-find}
use Rattle.poly_orient.proofs.Permutations.{is_order, IsOrder-tested, AreRising-tested, passes_at, is_sorted_out, kept_found, turned_over_found, is_new}
use Rattle.poly_orient.proofs.rules.tetrahedron_permutations.Goals as goal

-- an entry may stand after those that it is not among
abbrev may_follow : List ℕ → ℕ → Bool
may_follow front c = not (list_any (λ d. d == c) front)

-- every order of the four corners is found
found : (corners : List ℕ) → IsOrder 4 corners → Contains (listings may_follow 4 4) corners
found corners order =
    subst (Contains (listings may_follow 4 4)) (take_all 4 corners (omega (arith, order.all)))
    (listings-find may_follow 4 4 corners (omega (arith, order.all))
    (λ k lt. (All-get_or (λ c. c < 4) corners k 0 (omega (arith, lt, order.all)) order.in_range, not_from_false _ (is_new 4 corners k order lt))))

evens : list_all (λ corners. is_order 4 corners && is_even corners) (rotations Tet) ≡ true
unfolding rotations
evens = refl

odds : list_all (λ corners. is_order 4 corners && not (is_even corners)) (reflections Tet) ≡ true
unfolding reflections
odds = refl

all_sorted_out : list_all (is_sorted_out is_even (rotations Tet) (reflections Tet)) (listings may_follow 4 4) ≡ true
unfolding rotations reflections
all_sorted_out = refl

pub returns-clause-even : goal.returns-clause-even
returns-clause-even c corners = (
  λ has.
      let parts = and_parts (is_order 4 corners) (is_even corners) (passes_at (λ corners. is_order 4 corners && is_even corners) (rotations Tet) corners evens has) in
      (IsOrder-tested 4 corners parts.0, parts.1),
  λ (order, even). kept_found is_even (rotations Tet) (reflections Tet) (listings may_follow 4 4) corners all_sorted_out (found corners order) even,
)

pub returns-clause-odd : goal.returns-clause-odd
returns-clause-odd c corners = (
  λ has.
      let parts = and_parts (is_order 4 corners) (not (is_even corners)) (passes_at (λ corners. is_order 4 corners && not (is_even corners)) (reflections Tet) corners odds has) in
      (IsOrder-tested 4 corners parts.0, not-true _ parts.1),
  λ (order, odd). turned_over_found is_even (rotations Tet) (reflections Tet) (listings may_follow 4 4) corners all_sorted_out (found corners order) odd,
)

pub returns-clause-rotations_rise : goal.returns-clause-rotations_rise
unfolding rotations
returns-clause-rotations_rise c = AreRising-tested (rotations Tet) refl

pub returns-clause-reflections_rise : goal.returns-clause-reflections_rise
unfolding reflections
returns-clause-reflections_rise c = AreRising-tested (reflections Tet) refl
