use Rattle.std.proofs.Common.{◌≤ℤ◌, w8, subst, arith}
use Rattle.std.proofs.lemmas.Int.{to_z-of_z, ints}
use Rattle.poly_orient.specs.Group.{IsOrientation}
use Rattle.spread_tests.proofs.walk_tests.calls.closure_of.Goals as goal

pub closure-requires-clause-orientation : goal.closure-requires-clause-orientation
closure-requires-clause-orientation c =
    let low : c.orientations-least.result.0 ≤ℤ c.args.o = grind (arith, ints) in
    let high : c.args.o ≤ℤ c.orientations-least.result.1 = grind (arith, ints) in
    let has : IsOrientation c.poly_of.result c.args.o = (c.orientations-least.ensures c.args.o).1 (low, high) in
    rw (to_z-of_z w8 c.args.o c.ranges.o) (subst (λ p. IsOrientation p c.args.o) c.poly_of.ensures.value has)
