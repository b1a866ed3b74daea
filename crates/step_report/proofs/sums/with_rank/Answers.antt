use Rattle.std.proofs.Common.{◌≡◌, ◌+◌, ℕ, length, ap, ◌∙◌, arith}
use Rattle.mesh_defs.specs.Diagram.{Diagram}
use Rattle.rank_defs.specs.Spread.{LocalMesh}
use Rattle.step_report.specs.Conditions.{local_at}
use Rattle.step_report.proofs.Paging.{local-found}
use Rattle.step_report.proofs.Summing.{sums-rank}
use Rattle.step_report.proofs.sums.with_rank.Goals as goal

pub returns : goal.returns
returns c =
    let d = c.args.d.now in
    let l = c.local.result.now in
    let s = c.in_ok-owned.owned in
    let found : l ≡ local_at d c.args.rank = local-found d c.args.rank l c.local.ensures in
    let many : length c.plex.result.now.points ≡ length (local_at d c.args.rank).diagram.points =
    ap (λ (g : Diagram). length g.points) c.plex.ensures.plex ∙ ap (λ (x : LocalMesh). length x.diagram.points) found in
    let held : c.in_ok-held.held ≡ s.held + length (local_at d c.args.rank).diagram.points = omega (arith, c.in_ok-held.ensures, c.from.ensures, c.chart.ensures.count, many) in
    sums-rank d c.args.rank s (record s { held = c.in_ok-held.held }) c.in_ok-owned.ensures (ap (λ (n : ℕ). record s { held = n }) held)
