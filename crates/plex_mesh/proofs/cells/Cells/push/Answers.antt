use Rattle.std.proofs.Common.{◌≡◌, length, [], ◌∷◌, ◌++◌, ap, ap₂, ◌∙◌, refl}
use Rattle.plex_mesh.specs.declared.cells.StoredCell.{StoredCell}
use Rattle.plex_mesh.specs.Stored.{cell_span, cell_on, cells_of}
use Rattle.plex_mesh.proofs.Spans.{with_parts-push}
use Rattle.plex_mesh.proofs.cells.Cells.push.Goals as goal

pub returns-clause-ok : goal.returns-clause-ok
returns-clause-ok c =
    let cell : StoredCell = record { poly = c.args.poly; span = record { start = c.len.result; len = length c.args.vertices.now } } in
    let stored : c.push.new.self.items ≡ c.self.inside.stored.items ++ cell ∷ [] = c.in_ok-push.ensures.items ∙ ap (λ l. l ++ cell ∷ []) c.in_ok-reserve.ensures.items in
    ap₂ cells_of stored c.in_ok-extend_from_slice.ensures.items
    ∙ with_parts-push cell_span cell_on c.self.inside.stored.items c.self.inside.vertices.items c.args.vertices.now cell c.self.invariant (c.len.ensures ∙ c.self.inside.vertices.ok.0) refl
    ∙ ap (λ cells. cells ++ record { poly = c.args.poly; vertices = c.args.vertices.now } ∷ []) c.self.view_is
