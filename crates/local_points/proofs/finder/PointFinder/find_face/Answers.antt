use Rattle.std.proofs.Common.{length, refl, sym, ap, ◌∙◌, arith}
use Rattle.std.proofs.lemmas.List.{length-map}
use Rattle.local_points.specs.Points.{Local}
use Rattle.local_points.specs.Stored.{face_sight_of, face_set}
use Rattle.local_points.proofs.Padding.{none-found, set-found}
use Rattle.local_points.proofs.finder.PointFinder.find_face.Goals as goal

pub overflow_cast-result : goal.overflow_cast-result
overflow_cast-result c =
    let found = c.self.invariant.faces in
    omega (arith, c.in_ok-place.ensures.within, ap length found.are.found, length-map found.faces face_set, length-map found.faces face_sight_of, ap length found.shown, c.self.invariant.few_faces)

pub returns-in_err-set_on : goal.returns-in_err-set_on
returns-in_err-set_on c =
    let found = c.self.invariant.faces in
    c.from_residual.ensures
    ∙ sym (none-found c.args.vertices.now found.faces c.args.self.now.faces (c.in_err-set_on.ensures.none refl) found.are.sound (found.shown ∙ ap (λ (l : Local). l.faces) c.self.view_is))

pub returns-in_err-place : goal.returns-in_err-place
returns-in_err-place c =
    let found = c.self.invariant.faces in
    c.from_residual-in_err-place.ensures ∙ sym c.in_err-place.was ∙ c.get_index_of.ensures.index
    ∙ set-found c.in_ok-set_on.field-0 c.args.vertices.now c.self.inside.face_sets.keys found.faces c.args.self.now.faces c.in_ok-set_on.ensures.some found.are (found.shown ∙ ap (λ (l : Local). l.faces) c.self.view_is)

pub returns : goal.returns
returns c =
    let found = c.self.invariant.faces in
    sym c.in_ok-place.was ∙ c.get_index_of.ensures.index
    ∙ set-found c.in_ok-set_on.field-0 c.args.vertices.now c.self.inside.face_sets.keys found.faces c.args.self.now.faces c.in_ok-set_on.ensures.some found.are (found.shown ∙ ap (λ (l : Local). l.faces) c.self.view_is)
