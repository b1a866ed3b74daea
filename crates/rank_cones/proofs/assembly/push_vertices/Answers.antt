use Rattle.std.proofs.Common.{◌≡◌, ◌+◌, map, length, ap, ◌∙◌, length-append, arith}
use Rattle.std.proofs.lemmas.List.{length-map}
use Rattle.plain_lists.specs.Lists.{below}
use Rattle.plain_lists.proofs.Below.{length-below}
use Rattle.mesh_defs.specs.Diagram.{Diagram}
use Rattle.rank_laws.specs.diagram_laws.Strata.{bare_cover}
use Rattle.rank_cones.proofs.Strata.{in-vertices}
use Rattle.rank_cones.proofs.assembly.push_vertices.Goals as goal

pub push-requires-clause-place : goal.push-requires-clause-place
push-requires-clause-place c =
    let g = c.loop-vertex.plex in
    let here : length g.points ≡ length c.args.plex.now.points + c.loop-vertex._vertex =
    ap (λ (h : Diagram). length h.points) c.loop-vertex.invariant ∙ length-append c.args.plex.now.points (map (λ v. bare_cover) (below c.loop-vertex._vertex))
    ∙ ap (λ n. length c.args.plex.now.points + n) (length-map (below c.loop-vertex._vertex) (λ v. bare_cover) ∙ length-below c.loop-vertex._vertex) in
    in-vertices g (length g.points) (omega (arith, ap (λ (h : Diagram). h.dim) c.loop-vertex.invariant, c.requires.dim))
    (omega (arith, here, ap (λ (h : Diagram). h.cells) c.loop-vertex.invariant, c.requires.start))
    (omega (arith, here, ap (λ (h : Diagram). h.cells) c.loop-vertex.invariant, ap (λ (h : Diagram). h.vertices) c.loop-vertex.invariant, c.requires.start, c.requires.room, c.loop-vertex-test.true))
