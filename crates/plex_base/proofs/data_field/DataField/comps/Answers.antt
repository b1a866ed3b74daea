use Rattle.std.proofs.Common.{◌≡◌, ℕ, subst, ◌∙◌, sym, length}
use Rattle.std.specs.List.{AllByRecursion}
use Rattle.mesh_defs.specs.Mesh.{Row}
use Rattle.plex_base.specs.DataFields.{FieldRows}
use Rattle.plex_base.proofs.FlatRows.{rows-wide, widths-same}
use Rattle.plex_base.proofs.data_field.DataField.comps.Goals as goal

pub returns-clause-full : goal.returns-clause-full
returns-clause-full c =
    let comps = c.self.inside.comps in
    subst (λ (f : FieldRows). AllByRecursion (λ (row : Row). length row.values ≡ f.comps) f.rows) c.self.view_is
    (rows-wide {R = Row} (λ (row : Row). length row.values ≡ comps) (λ (n : ℕ). comps) (λ n values. record { number = n; values = values }) (λ n values wide. wide) c.self.inside.numbers.items c.self.inside.values.items
    (c.self.invariant.1 ∙ sym (widths-same comps c.self.inside.numbers.items)))
