use Rattle.std.proofs.Common.{◌≡◌}
use Rattle.step_report.specs.Conditions.{local_at}
use Rattle.step_report.proofs.Placing.{lines-plain}
use Rattle.step_report.proofs.Paging.{local-found}
use Rattle.step_report.proofs.pages.Pages.write_points.Goals as goal

pub returns : goal.returns
returns g c =
    let d = c.args.self.now.dist.now in
    let found : c.local-local.result.now ≡ local_at d c.args.rank = local-found d c.args.rank c.local-local.result.now c.local-local.ensures in
    let told = rw lines-plain at c.write_lines.ensures in
    rw (c.sections.ensures, c.points.ensures, found) at told
