use Rattle.std.proofs.Common.{◌++◌, sym, ap, ◌∙◌, subst}
use Rattle.std.specs.List.{AllByRecursion}
use Rattle.local_points.specs.Points.{Local}
use Rattle.interp_share.specs.rank_points.Seen.{cell_sights, vertices_seen, sets_on, IsSmall}
use Rattle.interp_share.proofs.rank_points.Small.{faces-small}
use Rattle.interp_share.proofs.rank_points.Pushing.{sets-split, local-seen}
use Rattle.interp_share.proofs.rank_points.all_sets.point_sets.Goals as goal

pub push_faces-requires : goal.push_faces-requires
push_faces-requires c = subst (λ (l : Local). AllByRecursion IsSmall l.faces) (sym (c.local.ensures ∙ local-seen c.args.seen.now c.args.part.now.cells c.requires.seen)) (faces-small c.args.part.now.cells)

pub returns : goal.returns
returns c =
    let part = c.args.part.now in
    let own = local-seen c.args.seen.now part.cells c.requires.seen in
    let tops = c.in_ok-push_cells.ensures ∙ ap (λ l. l ++ sets_on (cell_sights part.cells)) c.in_ok-sets.ensures in
    let vertices = c.in_ok-push_vertices.ensures ∙ ap (λ l. l ++ sets_on (vertices_seen part.vertices)) tops in
    let faces = c.in_ok-push_faces.ensures ∙ (λ i. vertices i ++ sets_on (((c.local.ensures ∙ own) i).faces)) in
    let edges = c.in_ok-push_edges.ensures ∙ (λ i. faces i ++ sets_on (((c.local-2.ensures ∙ own) i).edges)) in
    c.finish.ensures ∙ edges ∙ sym (sets-split part)
