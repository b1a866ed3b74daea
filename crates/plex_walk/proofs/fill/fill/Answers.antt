use Rattle.std.proofs.Common.{◌≡◌, ℕ, ◌<◌, true, List, length, sym, ap, ◌∙◌, subst, arith}
use Rattle.std.specs.List.{All}
use Rattle.mesh_defs.specs.declared.ConeEntry.{ConeEntry}
use Rattle.mesh_defs.specs.Diagram.{Diagram}
use Rattle.plex_defs.specs.Closure.{point_in, covers}
use Rattle.plex_walk.specs.Filling.{CanPut, IsPut}
use Rattle.plex_walk.proofs.Putting.{covers-below}
use Rattle.plex_walk.proofs.Filling.{can_put, filled-more}
use Rattle.plex_walk.proofs.Segments.{segments-filled, segmented-filled}
use Rattle.plex_walk.specs.Filling.{IsFilled}
use Rattle.plex_walk.proofs.fill.fill.Goals as goal

-- the points that a cone names are of the diagram
named : (x : Diagram) (q : ℕ) (cone : List ConeEntry) → cone ≡ (point_in x q).covers → All (λ (e : ConeEntry). e.point < length x.points) cone
    → (p : ℕ) → covers (point_in x q).covers p ≡ true → p < length x.points
named x q cone same below p h = covers-below (length x.points) cone p below (ap (λ (es : List ConeEntry). covers es p) same ∙ h)

pub put-requires-clause-room : goal.put-requires-clause-room
put-requires-clause-room c =
    let low : c.loop-q.q < length c.args.x.now.points = omega (arith, c.chart-q-end.ensures.count) in
    subst (λ (es : List ConeEntry). CanPut es c.loop-q.ends (length c.loop-q.points)) (sym c.cone.ensures.value)
    (can_put c.args.x.now c.loop-q.q c.args.ends.now (length c.args.points.now) c.loop-q.ends c.loop-q.points c.requires c.loop-q.invariant low
    (named c.args.x.now c.loop-q.q c.cone.result.now c.cone.ensures.value c.cone.ensures.below))

pub loop-q-preserved : goal.loop-q-preserved
loop-q-preserved c =
    let low : c.loop-q.q < length c.args.x.now.points = omega (arith, c.chart-q-end.ensures.count) in
    filled-more c.args.x.now c.loop-q.q c.args.ends.now (length c.args.points.now) c.loop-q.ends c.loop-q.points c.put.new.ends c.put.new.points c.requires c.loop-q.invariant low
    (named c.args.x.now c.loop-q.q c.cone.result.now c.cone.ensures.value c.cone.ensures.below)
    (subst (λ (es : List ConeEntry). IsPut c.loop-q.q es c.loop-q.ends c.loop-q.points c.put.new.ends c.put.new.points) c.cone.ensures.value c.put.ensures)

pub returns : goal.returns
returns c =
    let all : c.loop-q.q ≡ length c.args.x.now.points = omega (arith, c.chart-q-end.ensures.count) in
    let filled : IsFilled c.args.x.now (length c.args.x.now.points) c.args.ends.now (length c.args.points.now) c.loop-q.ends c.loop-q.points =
    subst (λ q. IsFilled c.args.x.now q c.args.ends.now (length c.args.points.now) c.loop-q.ends c.loop-q.points) all c.loop-q.invariant in
    record {
      supports = segments-filled c.args.x.now c.args.ends.now (length c.args.points.now) c.loop-q.ends c.loop-q.points c.requires filled;
      segmented = segmented-filled c.args.x.now c.args.ends.now (length c.args.points.now) c.loop-q.ends c.loop-q.points c.requires filled;
    }
