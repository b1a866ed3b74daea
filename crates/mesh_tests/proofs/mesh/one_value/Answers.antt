use Rattle.std.proofs.Common.{ap, ap₂, ◌∙◌}
use Rattle.plex_base.specs.DataFields.{FieldRows, rows_of_values}
use Rattle.plex_base.specs.FlatRows.{with_rows}
use Rattle.mesh_tests.proofs.mesh.one_value.Goals as goal

pub returns-clause-rows : goal.returns-clause-rows
unfolding with_rows
returns-clause-rows c = ap (λ (f : FieldRows). f.rows) c.new.ensures ∙ ap₂ (rows_of_values 1) c.in_ok-numbers.ensures.items c.in_ok-values.ensures.items
