use Rattle.std.proofs.Common.{List, map, sym, ap, ◌∙◌, [], ◌∷◌, ◌++◌}
use Rattle.mesh_defs.specs.Diagram.{place_in}
use Rattle.mesh_defs.specs.Points.{Sight, point_of}
use Rattle.local_points.specs.declared.seen_faces.Face.{Face}
use Rattle.local_points.specs.Stored.{face_sight_of, face_set}
use Rattle.local_points.proofs.Places.{table-place, table-new, table-known}
use Rattle.local_points.proofs.Padding.{faces-tell}
use Rattle.local_points.proofs.faces.FaceTable.place.Goals as goal
use Rattle.local_points.proofs.faces.FaceTable.place.Goals.{then-is_new, else-is_new}

pub returns-clause-ok : goal.returns-clause-ok
returns-clause-ok c =
    let items = c.self.inside.faces.items in
    let keys = c.self.inside.sets.keys in
    let tell = faces-tell c.args.face c.rising_four.result c.rising_four.ensures c.requires.sound items c.self.invariant.sound in
    elim c.if-is_new.branch [
      | then-is_new w ↦
          w.self-is ∙ ap (map face_sight_of) (w.push_reserved.ensures.items ∙ ap (λ (l : List Face). l ++ c.args.face ∷ []) c.reserve.ensures.items)
          ∙ table-new face_sight_of face_set keys items c.args.self.now c.args.face c.rising_four.result c.self.invariant.found c.self.view_is tell c.in_ok-place.is_new c.in_ok-place.ensures.added w.if-is_new.true
      | else-is_new w ↦
          w.self-is ∙ ap (map face_sight_of) c.reserve.ensures.items
          ∙ table-known face_sight_of face_set keys items c.args.self.now c.args.face c.rising_four.result c.self.invariant.found c.self.view_is tell c.in_ok-place.is_new c.in_ok-place.ensures.added w.if-is_new.false
    ]

pub returns-clause-place : goal.returns-clause-place
returns-clause-place c =
    let items = c.self.inside.faces.items in
    let keys = c.self.inside.sets.keys in
    c.in_ok-place.ensures.index
    ∙ table-place face_sight_of face_set keys items c.args.self.now c.args.face c.rising_four.result c.self.invariant.found c.self.view_is (faces-tell c.args.face c.rising_four.result c.rising_four.ensures c.requires.sound items c.self.invariant.sound)
    ∙ ap (λ (l : List Sight). place_in l (point_of (face_sight_of c.args.face))) (sym (returns-clause-ok c))
