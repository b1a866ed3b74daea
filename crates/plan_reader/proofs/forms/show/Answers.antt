use Rattle.std.proofs.Common.{codes, sym}
use Rattle.plan_reader.proofs.FormLemmas.{not_named, show_none}
use Rattle.plan_reader.proofs.forms.show.Goals as goal

pub returns-else-eq-5 : goal.returns-else-eq-5
returns-else-eq-5 c =
    let t = c.in_ok-what.what.now in
    let points = not_named t c.as_slice.result.now (codes "points") _ c.as_slice.ensures c.eq.ensures c.if-eq.false in
    let local = not_named t c.as_slice-else-eq.result.now (codes "local") _ c.as_slice-else-eq.ensures c.eq-else-eq.ensures c.if-eq-2.false in
    let closure = not_named t c.as_slice-else-eq-2.result.now (codes "closure") _ c.as_slice-else-eq-2.ensures c.eq-else-eq-2.ensures c.if-eq-3.false in
    let trace = not_named t c.as_slice-else-eq-3.result.now (codes "trace") _ c.as_slice-else-eq-3.ensures c.eq-else-eq-3.ensures c.if-eq-4.false in
    let windows = not_named t c.as_slice-else-eq-4.result.now (codes "windows") _ c.as_slice-else-eq-4.ensures c.eq-else-eq-4.ensures c.if-eq-5.false in
    record { form = sym (show_none _ t c.in_ok-what.ensures points local closure trace windows); layers = tt }
