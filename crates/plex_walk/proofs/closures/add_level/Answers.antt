use Rattle.std.proofs.Common.{◌≡◌, ◌<◌, ◌+◌, List, length, get_or, drop, ap, ◌∙◌, arith}
use Rattle.std.proofs.lemmas.List.{get_or_append_left}
use Rattle.std.specs.Prelude.{flat_map}
use Rattle.mesh_defs.specs.declared.ConeEntry.{ConeEntry}
use Rattle.walk_defs.specs.Cones.{facets_by_cone}
use Rattle.plex_walk.specs.Entries.{added}
use Rattle.plex_walk.proofs.Added.{added-level, added-kept}
use Rattle.plex_walk.proofs.closures.add_level.Goals as goal

pub loop-i-preserved : goal.loop-i-preserved
loop-i-preserved c =
    let F = facets_by_cone c.args.x.now in
    let start : List ConeEntry = c.args.to.now.items in
    let there : List ConeEntry = c.loop-i.to.items in
    let within : c.loop-i.i < length start = omega (arith, c.len-i-end.ensures, c.args.to.now.ok.0) in
    let same : c.index.result.now ≡ get_or start c.loop-i.i c.index.result.now =
    c.index.ensures ∙ ap (λ (l : List ConeEntry). get_or l c.loop-i.i c.index.result.now) c.loop-i.invariant.1.1 ∙ get_or_append_left start c.loop-i.invariant.1.0 c.index.result.now c.loop-i.i within in
    let now : c.add_facets.new.to.items ≡ added there (F (get_or start c.loop-i.i c.index.result.now)) = c.in_ok-add_facets.ensures.value ∙ ap (λ e. added there (F e)) same in
    let kept = added-kept start there (F c.index.result.now) c.loop-i.invariant.1 in (
      ap (λ (t : List ConeEntry). added t (flat_map F (drop (c.loop-i.i + 1) start))) now ∙ added-level F there start c.loop-i.i c.index.result.now within ∙ c.loop-i.invariant.0,
      (kept.0, c.in_ok-add_facets.ensures.value ∙ kept.1),
      c.in_ok-add_facets.ensures.entries,
    )
