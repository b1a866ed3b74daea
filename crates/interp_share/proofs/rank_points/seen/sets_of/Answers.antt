use Rattle.std.proofs.Common.{◌++◌, map, sym, ap, ◌∙◌}
use Rattle.std.proofs.lemmas.List.{map-append}
use Rattle.rank_chart_laws.specs.OwnRanks.{set_of}
use Rattle.interp_share.proofs.rank_points.seen.sets_of.Goals as goal

pub returns : goal.returns
returns c =
    let faces = c.args.local.now.faces in
    let edges = c.args.local.now.edges in
    c.in_ok-push_edges.ensures
    ∙ ap (λ l. l ++ map set_of edges) (c.in_ok-push_faces.ensures ∙ ap (λ l. l ++ map set_of faces) c.in_ok-sets.ensures.items)
    ∙ sym (map-append set_of faces edges)
