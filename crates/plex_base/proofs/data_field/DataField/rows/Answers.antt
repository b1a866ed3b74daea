use Rattle.std.proofs.Common.{sym, ap, ◌∙◌, length}
use Rattle.plex_base.specs.DataFields.{FieldRows}
use Rattle.plex_base.proofs.FlatRows.{rows-length}
use Rattle.plex_base.proofs.data_field.DataField.rows.Goals as goal

pub returns : goal.returns
returns c = c.len.ensures ∙ c.self.inside.numbers.ok.0 ∙ sym (rows-length _ _ _ _) ∙ ap (λ (f : FieldRows). length f.rows) c.self.view_is
