use Rattle.std.proofs.Common.{◌≡◌, ◌∙◌, sym, ap, subst, arith}
use Rattle.mesh_defs.specs.Tables.{dim_of}
use Rattle.mesh_defs.specs.Diagram.{Diagram}
use Rattle.plex_chart.specs.Chart.{IsInStratum}
use Rattle.step_report.proofs.Tailing.{vertex-from, vertex-to}
use Rattle.step_report.proofs.tails.append_coordinates.Goals as goal

pub at-requires-clause-from : goal.at-requires-clause-from
at-requires-clause-from c =
    let g = c.plex-plex.result.now in
    let zero : dim_of c.poly_of.result ≡ 0 = sym c.dim.ensures ∙ c.if-dim-eq0.true in
    let place = subst (λ d. IsInStratum g d c.args.p) zero c.poly_of.ensures.place in
    let same : g.cells ≡ c.args.local.now.diagram.cells = ap (λ (x : Diagram). x.cells) c.plex-plex.ensures.plex in
    omega (arith, vertex-from g c.chart-points.ensures.fits c.args.p place, same)

pub at-requires-clause-to : goal.at-requires-clause-to
at-requires-clause-to c =
    let g = c.plex-plex.result.now in
    let zero : dim_of c.poly_of.result ≡ 0 = sym c.dim.ensures ∙ c.if-dim-eq0.true in
    let place = subst (λ d. IsInStratum g d c.args.p) zero c.poly_of.ensures.place in
    let cells : g.cells ≡ c.args.local.now.diagram.cells = ap (λ (x : Diagram). x.cells) c.plex-plex.ensures.plex in
    let vertices : g.vertices ≡ c.args.local.now.diagram.vertices = ap (λ (x : Diagram). x.vertices) c.plex-plex.ensures.plex in
    omega (arith, vertex-to g c.chart-points.ensures.fits c.args.p place, cells, vertices, c.plex-plex.ensures.whole.at)
