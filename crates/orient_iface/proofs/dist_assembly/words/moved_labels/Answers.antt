use Rattle.std.proofs.Common.{◌++◌, [], ◌∷◌, map, sym, ap, ◌∙◌}
use Rattle.dist_state.specs.shared_state.Points.{shared_at}
use Rattle.rank_chart_laws.specs.moved_laws.Moves.{moved_label}
use Rattle.orient_iface.proofs.dist_assembly.Marks.{four-are}
use Rattle.orient_iface.proofs.dist_assembly.words.moved_labels.Goals as goal

pub returns : goal.returns
returns c =
    let moved = moved_label c.args.moves.now in
    let first = c.in_ok-push.ensures.items ∙ (λ i. c.in_ok-labels.ensures.items i ++ (c.in_ok-moved_label.ensures ∙ ap moved c.label.ensures) i ∷ []) in
    let second = c.in_ok-push-2.ensures.items ∙ (λ i. first i ++ (c.in_ok-moved_label-2.ensures ∙ ap moved c.label-2.ensures) i ∷ []) in
    let third = c.in_ok-push-3.ensures.items ∙ (λ i. second i ++ (c.in_ok-moved_label-3.ensures ∙ ap moved c.label-3.ensures) i ∷ []) in
    c.in_ok-push-4.ensures.items ∙ (λ i. third i ++ (c.in_ok-moved_label-4.ensures ∙ ap moved c.label-4.ensures) i ∷ [])
    ∙ sym (ap (map moved) (four-are (shared_at c.args.shared.now.parts c.args.rank).labels [] c.requires.four))
