use Rattle.std.proofs.Common.{◌∙◌}
use Rattle.plex_base.specs.DataFields.{section_on}
use Rattle.msh_count.proofs.RowLines.{rows-more}
use Rattle.msh_count.proofs.counting.append_rows.Goals as goal

-- src/counting.rt:14:5
pub loop-i-preserved : goal.loop-i-preserved
loop-i-preserved c = rows-more _ _ _ _ c.args.text.now.fields c.loop-i.i c.rows-rows.result (section_on c.field.result.0 c.field.result.1.now) c.loop-i.invariant c.field.ensures c.rows-rows.ensures
    (c.as_bytes.ensures.value ∙ c.in_ok-line.ensures.ok) c.in_ok-extend_from_slice.ensures.items
