use Rattle.std.proofs.Common.{◌≡◌, length, [], ◌∷◌, ◌++◌, ap, ap₂, ◌∙◌, refl, w32}
use Rattle.std.proofs.lemmas.Int.{to_z-of_z}
use Rattle.plex_base.specs.Dim.{dim_number}
use Rattle.plex_mesh.specs.declared.marks.StoredMark.{StoredMark}
use Rattle.plex_mesh.specs.Stored.{mark_span, mark_on, marks_of}
use Rattle.plex_mesh.proofs.Spans.{with_parts-push}
use Rattle.plex_mesh.proofs.marks.Marks.push.Goals as goal

pub returns-clause-ok : goal.returns-clause-ok
returns-clause-ok c =
    let mark : StoredMark = record { dim = c.args.dim; value = c.args.value; span = record { start = c.len.result; len = length c.args.vertices.now } } in
    let stored : c.push.new.self.items ≡ c.self.inside.stored.items ++ mark ∷ [] = c.in_ok-push.ensures.items ∙ ap (λ v. c.reserve.new.self.items ++ record { dim = c.args.dim; value = v; span = mark.span } ∷ []) (to_z-of_z w32 c.args.value c.ranges.value) ∙ ap (λ l. l ++ mark ∷ []) c.in_ok-reserve.ensures.items in
    ap₂ marks_of stored c.in_ok-extend_from_slice.ensures.items
    ∙ with_parts-push mark_span mark_on c.self.inside.stored.items c.self.inside.vertices.items c.args.vertices.now mark c.self.invariant (c.len.ensures ∙ c.self.inside.vertices.ok.0) refl
    ∙ ap (λ marks. marks ++ record { dim = dim_number c.args.dim; vertices = c.args.vertices.now; value = c.args.value } ∷ []) c.self.view_is
