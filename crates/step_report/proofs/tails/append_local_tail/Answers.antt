use Rattle.std.proofs.Common.{◌≡◌, ◌∙◌, ap}
use Rattle.mesh_defs.specs.Diagram.{Diagram}
use Rattle.plex_defs.specs.Closure.{point_in}
use Rattle.walk_defs.specs.step_defs.Points.{covers_of}
use Rattle.step_report.proofs.Going.{appended-second}
use Rattle.step_report.proofs.Tailing.{tail-parts}
use Rattle.step_report.proofs.tails.append_local_tail.Goals as goal

pub returns : goal.returns
returns c =
    let l = c.args.local.now in
    let same : c.cone.result.now ≡ covers_of l c.args.p = c.cone.ensures.value ∙ ap (λ (g : Diagram). (point_in g c.args.p).covers) c.plex.ensures.plex in
    appended-second c.append_rest.result _ _ _ _ _ _ (tail-parts c.args.sections l (covers_of l c.args.p) c.args.p) (rw same at c.in_ok-append_cone.ensures) c.append_rest.ensures
