use Rattle.std.proofs.Common.{◌<◌, [], slice_index_or, refl, sym, subst}
use Rattle.mesh_defs.specs.declared.Poly.TheVariants.{Hex}
use Rattle.mesh_defs.specs.Tables.{corner_count}
use Rattle.poly_orient.specs.Symmetries.{IsSymmetry}
use Rattle.poly_orient.specs.declared.tables.TheConstants.{HEX_ROTATIONS, HEX_REFLECTIONS}
use Rattle.poly_orient.proofs.Entries.{entry_in}
use Rattle.mesh_defs.specs.Orientation.{rotations, reflections}
use Rattle.poly_orient.proofs.corners.corner.Goals as goal

-- src/corners.rt:15:1
pub returns-in-Hex-Rotation-clause-in_range : goal.returns-in-Hex-Rotation-clause-in_range
unfolding rotations
returns-in-Hex-Rotation-clause-in_range c =
    let symmetry = c.in-Hex-Rotation in
    let row : symmetry.o < 24 = subst (IsSymmetry Hex) symmetry.is-1 (subst (λ p. IsSymmetry p c.args.symmetry) symmetry.is-0 c.requires.orientation) in
    let place : c.args.k < 8 = subst (λ p. c.args.k < corner_count p) symmetry.is-0 c.requires.place in
    let below : slice_index_or (slice_index_or HEX_ROTATIONS symmetry.o []) c.args.k 0 < 8 = entry_in HEX_ROTATIONS 8 8 symmetry.o c.args.k refl refl row place in
    subst (λ p. slice_index_or (slice_index_or HEX_ROTATIONS symmetry.o []) c.args.k 0 < corner_count p) (sym symmetry.is-0) below

-- src/corners.rt:15:1
pub returns-in-Hex-Reflection-clause-in_range : goal.returns-in-Hex-Reflection-clause-in_range
unfolding reflections
returns-in-Hex-Reflection-clause-in_range c =
    let symmetry = c.in-Hex-Reflection in
    let row : symmetry.s < 24 = subst (IsSymmetry Hex) symmetry.is-1 (subst (λ p. IsSymmetry p c.args.symmetry) symmetry.is-0 c.requires.orientation) in
    let place : c.args.k < 8 = subst (λ p. c.args.k < corner_count p) symmetry.is-0 c.requires.place in
    let below : slice_index_or (slice_index_or HEX_REFLECTIONS symmetry.s []) c.args.k 0 < 8 = entry_in HEX_REFLECTIONS 8 8 symmetry.s c.args.k refl refl row place in
    subst (λ p. slice_index_or (slice_index_or HEX_REFLECTIONS symmetry.s []) c.args.k 0 < corner_count p) (sym symmetry.is-0) below
