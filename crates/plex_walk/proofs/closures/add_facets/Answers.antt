use Rattle.std.proofs.Common.{◌≡◌, [], ◌∷◌, List, map, length, ap, ap₂, sym, ◌∙◌, subst, arith}
use Rattle.std.specs.List.{All}
use Rattle.mesh_defs.specs.declared.ConeEntry.{ConeEntry}
use Rattle.plain_lists.specs.Lists.{below}
use Rattle.mesh_defs.specs.Tables.{facets_of}
use Rattle.plex_chart.specs.Chart.{point_at}
use Rattle.walk_defs.specs.Cones.{facet_by_cone}
use Rattle.walk_defs.specs.Cones.{IsEntry}
use Rattle.plex_walk.specs.Entries.{added}
use Rattle.plex_walk.proofs.Added.{added-more, All-added}
use Rattle.plex_walk.proofs.closures.add_facets.Goals as goal

pub loop-k-preserved : goal.loop-k-preserved
loop-k-preserved c =
    let f = facet_by_cone c.args.x.now c.args.e in
    let step : c.add.new.to.items ≡ added (added c.args.to.now.items (map f (below c.loop-k.k))) (f c.loop-k.k ∷ []) = c.in_ok-add.ensures ∙ ap₂ (λ (t : List ConeEntry) (e : ConeEntry). added t (e ∷ [])) c.loop-k.invariant.0 c.facet_by_cone.ensures.value in (
      step ∙ added-more f c.args.to.now.items c.loop-k.k,
      subst (λ (t : List ConeEntry). All (IsEntry c.args.x.now) t) (sym c.in_ok-add.ensures) (All-added (IsEntry c.args.x.now) c.loop-k.to.items c.facet_by_cone.result c.loop-k.invariant.1 c.facet_by_cone.ensures.entry),
    )

pub returns-clause-value : goal.returns-clause-value
returns-clause-value c =
    let count : c.facet_count-k-end.result ≡ length (facets_of (point_at c.args.x.now c.args.e.point).poly) = c.facet_count-k-end.ensures ∙ ap (λ p. length (facets_of p)) c.poly_of.ensures.value in
    let k : c.loop-k.k ≡ length (facets_of (point_at c.args.x.now c.args.e.point).poly) = omega (arith, count) in
    c.loop-k.invariant.0 ∙ ap (λ n. added c.args.to.now.items (map (facet_by_cone c.args.x.now c.args.e) (below n))) k
