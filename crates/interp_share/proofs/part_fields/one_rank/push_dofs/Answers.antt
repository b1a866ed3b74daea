use Rattle.std.proofs.Common.{◌≡◌, ℕ, ◌<◌, List, [], ◌∷◌, ◌++◌, map, length, get_or, take, sym, ap, ◌∙◌, append_assoc}
use Rattle.std.proofs.lemmas.List.{take_more, map-append}
use Rattle.std.proofs.lemmas.Option.{get_or_from_slice_get, slice_get_within}
use Rattle.rank_defs.specs.Spread.{ScatterPart}
use Rattle.dist_state.specs.scatter_state.Whole.{part_at}
use Rattle.interp_share.specs.rank_fields.Words.{weighted_words}
use Rattle.interp_share.specs.own_field_laws.Own.{part_sizes, part_dim}
use Rattle.interp_share.proofs.part_fields.Scatters.{counts-small}
use Rattle.interp_share.proofs.part_fields.one_rank.push_dofs.Goals as goal

pub dof_field-requires-clause-few : goal.dof_field-requires-clause-few
dof_field-requires-clause-few c =
    let h = c.requires.scatter in
    counts-small c.args.scatter.now h.m h.dofs h.a h.n h.is c.loop-i.i c.dof.result c.dof.ensures

pub loop-i-preserved : goal.loop-i-preserved
loop-i-preserved c =
    let s = c.args.scatter.now in
    let i = c.loop-i.i in
    let part : ScatterPart = part_at s.parts c.args.rank in
    let words : List ℕ → List (List ℕ) = λ counts. weighted_words (part_sizes part) (part_dim part) counts c.args.weights.now in
    let low : i < length s.dofs = slice_get_within s.dofs i c.dof.result c.dof.ensures in
    let counts : c.dof.result ≡ get_or s.dofs i [] = sym (get_or_from_slice_get s.dofs i c.dof.result [] c.dof.ensures) in
    let dim = c.dim_of_part-dim.ensures ∙ ap (λ (p : ScatterPart). part_dim p) c.part.ensures.part in
    let here : c.in_ok-dof_field.field-0 ≡ words (get_or s.dofs i []) = c.in_ok-dof_field.ensures ∙ (λ j. weighted_words (c.requires.sizes j) (dim j) (counts j) c.args.weights.now) in
    c.in_ok-push.ensures.items
    ∙ ((λ j. c.loop-i.invariant j ++ here j ∷ [])
    ∙ (append_assoc c.args.all.now.items (map words (take i s.dofs)) (words (get_or s.dofs i []) ∷ [])
    ∙ ap (λ l. c.args.all.now.items ++ l) (sym (ap (map words) (take_more s.dofs i [] low) ∙ map-append words (take i s.dofs) (get_or s.dofs i [] ∷ [])))))
