use Rattle.std.proofs.Common.{◌≡◌, ◌<◌, ◌≤◌, w8, length, [], ◌∷◌, ◌++◌, get_or, refl, sym, ap, ◌∙◌, subst, arith}
use Rattle.std.proofs.lemmas.List.{take_more, take_more_set, take_all, get_or-map, length-map, length-set}
use Rattle.std.proofs.lemmas.Int.{to_z-of_z}
use Rattle.plain_lists.specs.Lists.{picked}
use Rattle.mesh_defs.specs.Tables.{corner_count}
use Rattle.mesh_defs.specs.Orientation.{act}
use Rattle.poly_orient.specs.Group.{IsOrientation}
use Rattle.poly_orient.specs.Symmetries.{symmetry_of, corners_listed, IsSymmetry}
use Rattle.poly_orient.proofs.Symmetries.{symmetry-of_orientation}
use Rattle.poly_orient.proofs.Listed.{length_corners, corners_listed-of}
use Rattle.poly_orient.proofs.Relating.{act-apart}
use Rattle.poly_orient.proofs.Grouping.{act-0}
use Rattle.poly_orient.proofs.listing.act.Goals as goal

pub corner-requires-clause-orientation : goal.corner-requires-clause-orientation
corner-requires-clause-orientation c = c.symmetry_of-symmetry.ensures.of_each c.args.p (subst (IsOrientation c.args.p) (sym (to_z-of_z w8 c.args.o c.ranges.o)) c.requires.orientation)

pub loop-k-init : goal.loop-k-init
loop-k-init c = record { all = c.requires.to_corners; listed = refl }

pub loop-k-preserved : goal.loop-k-preserved
loop-k-preserved c =
    let k = c.loop-k.k in
    let corners = corners_listed c.args.p c.symmetry_of-symmetry.result in
    let vertices = picked c.args.a.now corners in
    let symmetry_is : c.symmetry_of-symmetry.result ≡ symmetry_of c.args.o = c.symmetry_of-symmetry.ensures.symmetry ∙ ap symmetry_of (to_z-of_z w8 c.args.o c.ranges.o) in
    let symmetry : IsSymmetry c.args.p c.symmetry_of-symmetry.result = subst (IsSymmetry c.args.p) (sym symmetry_is) (symmetry-of_orientation c.args.p c.args.o c.requires.orientation) in
    let count : length corners ≡ corner_count c.args.p = length_corners c.args.p c.symmetry_of-symmetry.result symmetry in
    let within : k < length corners = omega (arith, c.loop-k-test.true, c.vertex_count-k-end.ensures, count) in
    let entry : get_or c.args.a.now c.corner.result 0 ≡ get_or vertices k 0 =
    ap (λ i. get_or c.args.a.now i 0) c.corner.ensures.corner ∙ sym (get_or-map (λ i. get_or c.args.a.now i 0) corners k 0 0 within) in
    record {
      all = length-set c.loop-k.to k _ ∙ c.loop-k.invariant.all;
      listed = take_more_set c.loop-k.to k _ (omega (arith, within, count, c.loop-k.invariant.all)) ∙ (λ j. c.loop-k.invariant.listed j ++ entry j ∷ [])
          ∙ sym (take_more vertices k 0 (omega (arith, within, length-map corners (λ i. get_or c.args.a.now i 0))));
    }

pub returns-clause-listed : goal.returns-clause-listed
unfolding act
returns-clause-listed c =
    let corners = corners_listed c.args.p c.symmetry_of-symmetry.result in
    let symmetry_is : c.symmetry_of-symmetry.result ≡ symmetry_of c.args.o = c.symmetry_of-symmetry.ensures.symmetry ∙ ap symmetry_of (to_z-of_z w8 c.args.o c.ranges.o) in
    let symmetry : IsSymmetry c.args.p c.symmetry_of-symmetry.result = subst (IsSymmetry c.args.p) (sym symmetry_is) (symmetry-of_orientation c.args.p c.args.o c.requires.orientation) in
    let count : length corners ≡ corner_count c.args.p = length_corners c.args.p c.symmetry_of-symmetry.result symmetry in
    let width : length (picked c.args.a.now corners) ≡ length corners = length-map corners (λ i. get_or c.args.a.now i 0) in
    let done : corner_count c.args.p ≤ c.loop-k.k = omega (arith, c.loop-k-test.false, c.vertex_count-k-end.ensures) in
    sym (take_all c.loop-k.k c.loop-k.to (omega (arith, c.loop-k.invariant.all, done))) ∙ c.loop-k.invariant.listed
    ∙ take_all c.loop-k.k (picked c.args.a.now corners) (omega (arith, width, count, done))
    ∙ ap (picked c.args.a.now) (ap (corners_listed c.args.p) symmetry_is ∙ corners_listed-of c.args.p c.args.o)

pub returns-clause-same : goal.returns-clause-same
returns-clause-same c kept =
    returns-clause-listed c ∙ ap (λ o. act c.args.p o c.args.a.now) kept ∙ act-0 c.args.p c.args.a.now c.requires.from_corners

pub returns-clause-apart : goal.returns-clause-apart
returns-clause-apart c other has apart differ same =
    apart (act-apart c.args.p other c.args.o c.args.a.now has c.requires.orientation c.requires.from_corners differ (same ∙ returns-clause-listed c))
