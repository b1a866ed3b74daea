use Rattle.std.proofs.Common.{◌≡◌, ◌<◌, ◌≤◌, ◌==◌, length, get_or, ap, ◌∙◌, arith}
use Rattle.std.specs.Prelude.{if◌then◌else◌}
use Rattle.mesh_defs.specs.Diagram.{Diagram}
use Rattle.walk_defs.specs.step_defs.Steps.{own_cells, own_faces}
use Rattle.step_report.specs.Conditions.{local_at}
use Rattle.step_report.proofs.Counting.{totals-more}
use Rattle.step_report.proofs.Paging.{local-found}
use Rattle.step_report.proofs.totals.add_rank.Goals as goal

pub returns : goal.returns
returns c =
    let l = c.local-local.result.now in
    let counts = c.count_owned-counts in
    let found : l ≡ local_at c.args.d.now c.args.rank = local-found c.args.d.now c.args.rank l c.local-local.ensures in
    let many = ap (λ (g : Diagram). length g.points) c.plex-plex.ensures.plex in
    let few : length l.diagram.points ≤ 4294967295 = omega (arith, many, c.chart-points.ensures.count, c.chart-points.type_inv) in
    let whole = ap (λ (g : Diagram). g.dim) c.plex-plex.ensures.plex in
    let low : l.diagram.dim < 4 = omega (arith, whole, c.chart-points.ensures.fits.strata.solids) in
    let cells : c.from-2.result ≡ own_cells (c.args.rank, l) = c.from-2.ensures ∙ ap (λ k. get_or counts.result.by_dim k 0) (c.number.ensures ∙ c.dim.ensures ∙ whole) ∙ counts.ensures.by_dim l.diagram.dim low in
    let faces : c.from-4.result ≡ own_faces (c.args.rank, l) =
    c.from-4.ensures ∙ c.faces.ensures ∙ ap (λ k. if k == 3 then get_or counts.result.by_dim 2 0 else 0) (c.dim-2.ensures ∙ whole)
    ∙ ap (λ n. if l.diagram.dim == 3 then n else 0) (counts.ensures.by_dim 2 (omega arith)) in
    totals-more c.args.d.now c.args.rank c.args.totals.now l c.from.result c.from-2.result c.from-3.result c.from-4.result c.from-5.result c.requires.totals found few (c.from.ensures ∙ counts.ensures.owned) cells
    (c.from-3.ensures ∙ counts.ensures.by_dim 0 (omega arith)) faces (c.from-5.ensures ∙ counts.ensures.by_dim 1 (omega arith))
