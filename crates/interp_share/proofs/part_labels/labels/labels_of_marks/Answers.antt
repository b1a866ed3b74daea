use Rattle.std.proofs.Common.{◌≡◌, ℕ, ℤ, ◌<◌, List, [], length, get_or, set, Option, Some, Vec, Global, sym, ap, ◌∙◌, arith, rules, w32}
use Rattle.std.proofs.lemmas.Int.{to_z-of_z}
use Rattle.mesh_defs.specs.Mesh.{Mark}
use Rattle.mesh_defs.specs.Points.{marked_point}
use Rattle.mesh_defs.specs.Diagram.{place_in}
use Rattle.plex_base.specs.Dim.{dim_number}
use Rattle.plex_defs.specs.Labels.{with_pair}
use Rattle.dist_state.specs.scatter_state.Parts.{mark_at}
use Rattle.interp_share.specs.part_labels.Parts.{points_of_part}
use Rattle.interp_share.proofs.part_labels.Adding.{labels-more}
use Rattle.interp_share.proofs.part_labels.labels.labels_of_marks.Goals as goal
use Rattle.interp_share.proofs.part_labels.labels.labels_of_marks.Goals.{in-Some+in_ok-add_pair, in_default}

-- what is found is the place
some-same : (a b : ℕ) (o : Option ℕ) → o ≡ Some a → o ≡ Some b → a ≡ b
some-same a b o x y = let e : Some a ≡ Some b = sym x ∙ y in cc

pub loop-i-preserved : goal.loop-i-preserved
loop-i-preserved c =
    let marks = c.args.part.now.marks in
    let points = points_of_part c.args.part.now in
    let i = c.loop-i.i in
    let low : i < length marks = omega (arith, c.loop-i-test.true, c.marks-i-end.ensures) in
    let k = mark_at marks i in
    record {
      table = c.in_ok-place.ensures.table;
      found = elim c.match-branch-3.branch [
        | in-Some+in_ok-add_pair w ↦
            (let place : w.in-Some.place ≡ place_in points (marked_point k) = some-same w.in-Some.place (place_in points (marked_point k)) c.in_ok-place.field-0 w.in-Some.is c.in_ok-place.ensures.place in
            let value = to_z-of_z w32 w.mark-dim.result.2 (search rules) ∙ sym (ap (λ (x : Mark). x.value) w.mark-dim.ensures) in
            ap (λ (v : Vec (List (ℕ × ℤ)) Global). v.items) w.found-is ∙ w.in_ok-add_pair.ensures
            ∙ (λ j. set (c.loop-i.invariant.found j) (dim_number w.mark-dim.result.0) (with_pair (get_or (c.loop-i.invariant.found j) (dim_number w.mark-dim.result.0) []) (place j, value j)))
            ∙ sym (labels-more points marks i low w.mark-dim.result.0 (ap (λ (x : Mark). x.dim) w.mark-dim.ensures)))
        | in_default w ↦ absurd (w.in_default.not-Some (place_in points (marked_point k)) c.in_ok-place.ensures.place)
      ];
    }
