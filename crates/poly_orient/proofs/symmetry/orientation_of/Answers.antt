use Rattle.std.proofs.Common.{◌<◌, ap, ◌∙◌, subst, arith}
use Rattle.std.proofs.lemmas.Int.{ints}
use Rattle.poly_orient.specs.Group.{IsOrientation}
use Rattle.poly_orient.specs.Symmetries.{orientation_of, symmetry_number}
use Rattle.poly_orient.proofs.Symmetries.{orientation-of_symmetry}
use Rattle.poly_orient.proofs.symmetry.orientation_of.Goals as goal

pub returns-in-Rotation-clause-of_each : goal.returns-in-Rotation-clause-of_each
unfolding orientation_of
returns-in-Rotation-clause-of_each c p has =
    let few : c.in-Rotation.o < 128 = subst (λ t. symmetry_number t < 128) c.in-Rotation.is c.requires in
    subst (IsOrientation p) (ap orientation_of c.in-Rotation.is ∙ omega (arith, ints)) (orientation-of_symmetry p c.args.symmetry has)

pub returns-in-Reflection-clause-of_each : goal.returns-in-Reflection-clause-of_each
unfolding orientation_of
returns-in-Reflection-clause-of_each c p has =
    let few : c.in-Reflection.s < 128 = subst (λ t. symmetry_number t < 128) c.in-Reflection.is c.requires in
    subst (IsOrientation p) (ap orientation_of c.in-Reflection.is ∙ omega (arith, ints)) (orientation-of_symmetry p c.args.symmetry has)
