use Rattle.plan_reader.proofs.FormLemmas.{dofs_refused}
use Rattle.std.proofs.Common.{sym}
use Rattle.plan_reader.proofs.forms.dofs.Goals as goal

pub returns-in_err-cells : goal.returns-in_err-cells
returns-in_err-cells c =
    rw c.from_residual-in_err-cells.ensures
    (record {
      form = sym (dofs_refused _ _ _ _ _ _ _ _ _ c.in_ok-name.ensures.tokens c.in_ok-vertices.ensures.tokens c.in_ok-edges.ensures.tokens c.in_ok-faces.ensures.tokens c.in_err-cells.ensures);
      layers = tt;
    })
