use Rattle.std.proofs.Common.{sym, ap, ◌∙◌, Err}
use Rattle.input_laws.proofs.reading_laws.Shapes.{shape-not, shape-range, shape-ok}
use Rattle.msh_data.proofs.msh_body.numbers.is_fixed.Goals as goal

pub returns-in-Ok : goal.returns-in-Ok
returns-in-Ok c = sym (shape-ok _ c.in-Ok.field-0 (sym c.in-Ok.is ∙ c.read_fixed.ensures))

pub returns-in-Err-OutOfRange : goal.returns-in-Err-OutOfRange
returns-in-Err-OutOfRange c = sym (shape-range _ (ap Err (sym c.in-Err-OutOfRange.field-0-is) ∙ sym c.in-Err-OutOfRange.is ∙ c.read_fixed.ensures))

pub returns-in-Err-NotNumber : goal.returns-in-Err-NotNumber
returns-in-Err-NotNumber c = sym (shape-not _ (ap Err (sym c.in-Err-NotNumber.field-0-is) ∙ sym c.in-Err-NotNumber.is ∙ c.read_fixed.ensures))
