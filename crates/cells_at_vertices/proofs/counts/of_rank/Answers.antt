use Rattle.std.proofs.Common.{◌≡◌, ◌+◌, ℕ, List, get_or, ap, sym, subst, ◌∙◌, arith}
use Rattle.mesh_defs.specs.Diagram.{Diagram}
use Rattle.cells_at_vertices.specs.declared.counts.VertexCount.{VertexCount}
use Rattle.cells_at_vertices.specs.Picked.{ArePicked}
use Rattle.cells_at_vertices.proofs.Cells.{vertices-range}
use Rattle.cells_at_vertices.proofs.Ranks.{vertices-none, vertices-more, vertices-all}
use Rattle.cells_at_vertices.proofs.counts.of_rank.Goals as goal

pub loop-p-init : goal.loop-p-init
loop-p-init c =
    let l = c.args.local.now in
    let x = c.plex-plex.result.now in
    let start : c.stratum-vertices.result.start ≡ l.diagram.cells = c.stratum-vertices.ensures.start ∙ (ap (λ (r : ℕ × ℕ). r.0) (vertices-range x c.chart-points.ensures.fits.strata.polygons) ∙ ap (λ (g : Diagram). g.cells) c.plex-plex.ensures.plex) in
    subst (ArePicked l c.args.words.now c.stratum-vertices.result.start) (sym c.in_ok-counts.ensures.items) (vertices-none l c.args.words.now c.stratum-vertices.result.start start)

pub loop-p-preserved : goal.loop-p-preserved
loop-p-preserved c =
    let l = c.args.local.now in
    subst (λ (items : List VertexCount). ArePicked l c.args.words.now (c.loop-p.p + 1) items) (sym c.in_ok-push.ensures.items) (vertices-more l c.args.words.now c.loop-p.p _ c.loop-p.counts.items (λ i. record { vertex = c.key.ensures i; cells = get_or c.args.words.now c.loop-p.p 0 }) c.loop-p.invariant)

pub returns : goal.returns
returns c =
    let l = c.args.local.now in
    let x = c.plex-plex.result.now in
    let range = vertices-range x c.chart-points.ensures.fits.strata.polygons in
    let start : c.stratum-vertices.result.start ≡ l.diagram.cells = c.stratum-vertices.ensures.start ∙ (ap (λ (r : ℕ × ℕ). r.0) range ∙ ap (λ (g : Diagram). g.cells) c.plex-plex.ensures.plex) in
    let end : c.stratum-vertices.result.end ≡ l.diagram.cells + l.diagram.vertices = c.stratum-vertices.ensures.end ∙ (ap (λ (r : ℕ × ℕ). r.1) range ∙ ap (λ (g : Diagram). g.cells + g.vertices) c.plex-plex.ensures.plex) in
    let all : c.loop-p.p ≡ l.diagram.cells + l.diagram.vertices = omega (arith, start, end, c.loop-p-test.false, c.loop-p.auto.p-end (omega (arith, start, end))) in
    vertices-all l c.args.words.now c.loop-p.p c.loop-p.counts.items all c.loop-p.invariant
