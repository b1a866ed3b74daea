use Rattle.std.proofs.Common.{◌≡◌, ◌-◌, sym, subst, rules}
use Rattle.poly_orient.specs.declared.symmetry.Symmetry.TheVariants.{Rotation, Reflection}
use Rattle.poly_orient.specs.Symmetries.{symmetry_of, IsSymmetry}
use Rattle.poly_orient.proofs.Symmetries.{symmetry-of_orientation}
use Rattle.poly_orient.proofs.symmetry.symmetry_of.Goals as goal

pub returns-then-o-ge0-clause-of_each : goal.returns-then-o-ge0-clause-of_each
returns-then-o-ge0-clause-of_each c p has =
    let same : Rotation c.unsigned_abs.result ≡ symmetry_of c.args.o = unfold symmetry_of in search rules in
    subst (IsSymmetry p) (sym same) (symmetry-of_orientation p c.args.o has)

pub returns-else-o-ge0-clause-of_each : goal.returns-else-o-ge0-clause-of_each
returns-else-o-ge0-clause-of_each c p has =
    let same : Reflection (c.unsigned_abs-else-o-ge0.result - 1) ≡ symmetry_of c.args.o = unfold symmetry_of in search rules in
    subst (IsSymmetry p) (sym same) (symmetry-of_orientation p c.args.o has)
