use Rattle.std.proofs.Common.{◌≡◌, ℕ, List, length, ℤ, pos, w8, sym, ap, ◌∙◌, subst}
use Rattle.std.proofs.lemmas.Int.{to_z-of_z}
use mir.Val.{SFits, to_z, of_z}
use Rattle.mesh_defs.specs.declared.Poly.{Poly}
use Rattle.mesh_defs.specs.Tables.{corner_count}
use Rattle.mesh_defs.specs.Orientation.{act}
use Rattle.poly_orient.specs.declared.symmetry.Symmetry.{Symmetry}
use Rattle.poly_orient.specs.Group.{IsOrientation, composition}
use Rattle.poly_orient.specs.Symmetries.{symmetry_of, IsSymmetry, undo}
use Rattle.poly_orient.proofs.Symmetries.{symmetry-of_orientation, symmetry_of-number}
use Rattle.poly_orient.proofs.Acting.{few_symmetries}
use Rattle.poly_orient.proofs.Grouping.{is_symmetry-undo, undo-laws}
use Rattle.poly_orient.proofs.group.inverse.Goals as goal
use Rattle.poly_orient.proofs.group.inverse.Goals.{After-orientation_of}

pub undo-requires : goal.undo-requires
undo-requires c = c.symmetry_of.ensures.of_each c.args.p (subst (IsOrientation c.args.p) (sym (to_z-of_z w8 c.args.o c.ranges.o)) c.requires)

-- the symmetry that undoes the argument's
symmetry_is : (p : Poly) (o : ℤ) (t u : Symmetry) → SFits w8 o → t ≡ symmetry_of (to_z w8 (of_z w8 o)) → u ≡ undo p t → u ≡ undo p (symmetry_of o)
symmetry_is p o t u fits before after = after ∙ ap (undo p) (before ∙ ap symmetry_of (to_z-of_z w8 o fits))

has_symmetry : (p : Poly) (o : ℤ) (u : Symmetry) → IsOrientation p o → u ≡ undo p (symmetry_of o) → IsSymmetry p u
has_symmetry p o u has is = subst (IsSymmetry p) (sym is) (is_symmetry-undo p (symmetry_of o) (symmetry-of_orientation p o has))

pub orientation_of-requires : goal.orientation_of-requires
orientation_of-requires c =
    few_symmetries c.args.p c.undo.result (has_symmetry c.args.p c.args.o _ c.requires (symmetry_is c.args.p c.args.o _ _ c.ranges.o c.symmetry_of.ensures.symmetry c.undo.ensures))

-- what is promised of the answer
abbrev IsInverse : (c : After-orientation_of) → ℤ → Type 0
IsInverse c r =
    IsOrientation c.args.p r
    × ((composition c.args.p r c.args.o ≡ pos 0) × (composition c.args.p c.args.o r ≡ pos 0) × ((vertices : List ℕ) → length vertices ≡ corner_count c.args.p → act c.args.p r (act c.args.p c.args.o vertices) ≡ vertices))

answer_undoes : (c : After-orientation_of) → IsInverse c (to_z w8 (of_z w8 c.orientation_of.result))
answer_undoes c =
    let r = c.orientation_of.result in
    let is = symmetry_is c.args.p c.args.o _ _ c.ranges.o c.symmetry_of.ensures.symmetry c.undo.ensures in
    let has = c.orientation_of.ensures.of_each c.args.p (has_symmetry c.args.p c.args.o _ c.requires is) in
    let undone : symmetry_of r ≡ undo c.args.p (symmetry_of c.args.o) = ap symmetry_of c.orientation_of.ensures.number ∙ symmetry_of-number c.undo.result ∙ is in
    subst (IsInverse c) (sym (to_z-of_z w8 r (record { sfits = c.orientation_of.type_inv }))) (has, undo-laws c.args.p c.args.o r c.requires has undone)

pub returns-clause-orientation : goal.returns-clause-orientation
returns-clause-orientation c = (answer_undoes c).0

pub returns-clause-after : goal.returns-clause-after
returns-clause-after c = (answer_undoes c).1.0

pub returns-clause-before : goal.returns-clause-before
returns-clause-before c = (answer_undoes c).1.1

pub returns-clause-undoes : goal.returns-clause-undoes
returns-clause-undoes c = (answer_undoes c).1.2
