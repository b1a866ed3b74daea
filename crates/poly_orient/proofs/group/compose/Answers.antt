use Rattle.std.proofs.Common.{◌≡◌, w8, sym, ap, ◌∙◌, subst}
use Rattle.std.proofs.lemmas.Int.{to_z-of_z}
use Rattle.plain_lists.specs.Lists.{picked}
use Rattle.mesh_defs.specs.Orientation.{act}
use Rattle.poly_orient.specs.Group.{IsOrientation}
use Rattle.poly_orient.specs.Symmetries.{symmetry_of, corners_listed}
use Rattle.poly_orient.proofs.Symmetries.{symmetry-of_orientation, symmetry_of-number}
use Rattle.poly_orient.proofs.Acting.{acts_twice, few_symmetries}
use Rattle.poly_orient.proofs.Grouping.{composition-is}
use Rattle.poly_orient.proofs.group.compose.Goals as goal
use Rattle.poly_orient.proofs.group.compose.Goals.{After-orientation_of}

pub compose_symmetries-requires-clause-after : goal.compose_symmetries-requires-clause-after
compose_symmetries-requires-clause-after c = c.symmetry_of.ensures.of_each c.args.p (subst (IsOrientation c.args.p) (sym (to_z-of_z w8 c.args.a c.ranges.a)) c.requires.after)

pub compose_symmetries-requires-clause-before : goal.compose_symmetries-requires-clause-before
compose_symmetries-requires-clause-before c = c.symmetry_of-2.ensures.of_each c.args.p (subst (IsOrientation c.args.p) (sym (to_z-of_z w8 c.args.b c.ranges.b)) c.requires.before)

pub orientation_of-requires : goal.orientation_of-requires
orientation_of-requires c = few_symmetries c.args.p c.compose_symmetries.result c.compose_symmetries.ensures.symmetry

-- the answer lists the corners as one orientation after the other does
answer_lists : (c : After-orientation_of) → corners_listed c.args.p (symmetry_of c.orientation_of.result) ≡ picked (corners_listed c.args.p (symmetry_of c.args.b)) (corners_listed c.args.p (symmetry_of c.args.a))
answer_lists c =
    let after = c.symmetry_of.ensures.symmetry ∙ ap symmetry_of (to_z-of_z w8 c.args.a c.ranges.a) in
    let before = c.symmetry_of-2.ensures.symmetry ∙ ap symmetry_of (to_z-of_z w8 c.args.b c.ranges.b) in
    ap (corners_listed c.args.p) (ap symmetry_of c.orientation_of.ensures.number ∙ symmetry_of-number c.compose_symmetries.result) ∙ c.compose_symmetries.ensures.corners
    ∙ (λ j. picked (corners_listed c.args.p (before j)) (corners_listed c.args.p (after j)))

pub returns-clause-orientation : goal.returns-clause-orientation
returns-clause-orientation c =
    subst (IsOrientation c.args.p) (sym (to_z-of_z w8 c.orientation_of.result (record { sfits = c.orientation_of.type_inv }))) (c.orientation_of.ensures.of_each c.args.p c.compose_symmetries.ensures.symmetry)

pub returns-clause-value : goal.returns-clause-value
returns-clause-value c =
    to_z-of_z w8 c.orientation_of.result (record { sfits = c.orientation_of.type_inv })
    ∙ sym (composition-is c.args.p c.orientation_of.result c.args.a c.args.b (c.orientation_of.ensures.of_each c.args.p c.compose_symmetries.ensures.symmetry) c.requires.after c.requires.before (answer_lists c))

pub returns-clause-acts : goal.returns-clause-acts
returns-clause-acts c vertices =
    ap (λ o. act c.args.p o vertices) (to_z-of_z w8 c.orientation_of.result (record { sfits = c.orientation_of.type_inv }))
    ∙ acts_twice c.args.p c.orientation_of.result c.args.a c.args.b vertices (symmetry-of_orientation c.args.p c.args.a c.requires.after) (symmetry-of_orientation c.args.p c.args.b c.requires.before) (answer_lists c)
