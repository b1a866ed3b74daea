use Rattle.std.proofs.Common.{◌≡◌, ◌<◌, length, refl, ap, arith}
use Rattle.mesh_defs.specs.Diagram.{Diagram}
use Rattle.cause_defs.proofs.Reporting.{Reports-none}
use Rattle.step_report.specs.Desks.{next_text, lines_before, lines_of}
use Rattle.step_report.proofs.Going.{going-next, going-stop}
use Rattle.step_report.proofs.Placing.{lines-more}
use Rattle.step_report.proofs.desk.Desk.write_lines.Goals as goal

pub loop-p-init : goal.loop-p-init
unfolding lines_before
loop-p-init g c = (refl, Reports-none _ _)

pub returns-in_err-before : goal.returns-in_err-before
unfolding lines_of
returns-in_err-before g c =
    let d = c.args.self.now in
    let many = ap (λ (x : Diagram). length x.points) c.plex.ensures.plex in
    let low : c.loop-p.p < length d.local.now.diagram.points = omega (arith, many) in
    going-stop (lines_before c.args.kind d) (next_text c.args.kind d) (lines-more c.args.kind d) c.loop-p.p (length d.local.now.diagram.points) c.from_residual.result c.from_residual.ensures.1 low c.loop-p.invariant.1
    c.in_err-before.ensures.text

pub loop-p-preserved : goal.loop-p-preserved
loop-p-preserved g c =
    let d = c.args.self.now in
    (c.in_ok-before.ensures.next, going-next (lines_before c.args.kind d) (next_text c.args.kind d) (lines-more c.args.kind d) c.loop-p.p c.loop-p.invariant.1 c.in_ok-before.ensures.text)

pub returns : goal.returns
unfolding lines_of
returns g c =
    let d = c.args.self.now in
    let many = ap (λ (x : Diagram). length x.points) c.plex.ensures.plex in
    let all : c.loop-p.p ≡ length d.local.now.diagram.points = omega (arith, many) in
    rw all at c.loop-p.invariant.1
