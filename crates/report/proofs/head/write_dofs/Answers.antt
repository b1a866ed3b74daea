use Rattle.std.proofs.Common.{◌≡◌, ◌<◌, ◌+◌, length, get_or, sym, ap, arith}
use Rattle.std.specs.List.{enumerate_from}
use Rattle.std.proofs.lemmas.List.FromFn.{length-enumerate_from, get_or-enumerate_from}
use Rattle.input_defs.specs.Further.{dofs_line}
use Rattle.report.specs.Heads.{no_dofs, dofs_at}
use Rattle.report.proofs.Looping.{texts-next, texts-stop, texts-all}
use Rattle.report.proofs.head.write_dofs.Goals as goal

pub returns-in_err-write_dofs_of : goal.returns-in_err-write_dofs_of
returns-in_err-write_dofs_of g c =
    let dofs = c.args.plan.now.plan.dofs in
    let first = length c.args.mesh.now.fields in
    let low : c.loop-i.i < length dofs = omega arith in
    let within : c.loop-i.i < length (enumerate_from first dofs) = omega (arith, length-enumerate_from first dofs) in
    let same : dofs_line (first + c.loop-i.i, dofs_at dofs c.loop-i.i) ≡ dofs_line (get_or (enumerate_from first dofs) c.loop-i.i (0, no_dofs)) = ap dofs_line (sym (get_or-enumerate_from first dofs c.loop-i.i (0, no_dofs) low)) in
    texts-stop dofs_line (enumerate_from first dofs) c.loop-i.i (0, no_dofs) c.from_residual.result c.from_residual.ensures.1 within c.loop-i.invariant
    (let told = rw c.fields.ensures at c.in_err-write_dofs_of.ensures in rw same at told)

pub loop-i-preserved : goal.loop-i-preserved
loop-i-preserved g c =
    let dofs = c.args.plan.now.plan.dofs in
    let first = length c.args.mesh.now.fields in
    let low : c.loop-i.i < length dofs = omega arith in
    let within : c.loop-i.i < length (enumerate_from first dofs) = omega (arith, length-enumerate_from first dofs) in
    let same : dofs_line (first + c.loop-i.i, dofs_at dofs c.loop-i.i) ≡ dofs_line (get_or (enumerate_from first dofs) c.loop-i.i (0, no_dofs)) = ap dofs_line (sym (get_or-enumerate_from first dofs c.loop-i.i (0, no_dofs) low)) in
    texts-next dofs_line (enumerate_from first dofs) c.loop-i.i (0, no_dofs) within c.loop-i.invariant (let told = rw c.fields.ensures at c.in_ok-write_dofs_of.ensures in rw same at told)

pub returns : goal.returns
returns g c =
    let dofs = c.args.plan.now.plan.dofs in
    let first = length c.args.mesh.now.fields in
    texts-all dofs_line (enumerate_from first dofs) c.loop-i.i (0, no_dofs) (omega (arith, length-enumerate_from first dofs)) c.loop-i.invariant
