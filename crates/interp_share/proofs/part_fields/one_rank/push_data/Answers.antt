use Rattle.std.proofs.Common.{◌≡◌, ℕ, List, [], ◌∷◌, ◌++◌, map, length, sym, ap, ◌∙◌, append_assoc}
use Rattle.std.proofs.lemmas.Option.{get_or_from_slice_get}
use Rattle.plain_lists.specs.Lists.{below}
use Rattle.mesh_defs.specs.declared.Place.{Place}
use Rattle.mesh_defs.specs.declared.Place.TheVariants.{Node}
use Rattle.rank_defs.specs.Spread.{ScatterPart}
use Rattle.local_points.proofs.Rows.{below-more}
use Rattle.dist_state.specs.scatter_state.Parts.{rows_at}
use Rattle.dist_state.specs.scatter_state.Whole.{part_at}
use Rattle.interp_share.specs.rank_fields.Words.{count_on, section_words}
use Rattle.interp_share.specs.own_field_laws.Own.{part_sizes, place_at}
use Rattle.interp_share.proofs.part_fields.Scatters.{rows-many}
use Rattle.interp_share.proofs.part_fields.one_rank.push_data.Goals as goal

pub data_field-requires-clause-rows : goal.data_field-requires-clause-rows
data_field-requires-clause-rows c =
    let h = c.requires.scatter in
    let s = c.args.scatter.now in
    ap (λ (p : ScatterPart). length (rows_at p.rows c.loop-f.f)) c.part.ensures.part
    ∙ (rows-many s h.m h.dofs h.a h.n h.is c.args.rank c.loop-f.f c.section-on.result c.requires.rank c.section-on.ensures
    ∙ (let same = sym c.requires.sizes in λ j. count_on (same j) c.section-on.result.0))

pub loop-f-preserved : goal.loop-f-preserved
loop-f-preserved c =
    let s = c.args.scatter.now in
    let f = c.loop-f.f in
    let words : ℕ → List (List ℕ) = λ k. section_words (part_sizes (part_at s.parts c.args.rank)) (place_at s.sections k) (rows_at (part_at s.parts c.args.rank).rows k) in
    let place : c.section-on.result.0 ≡ place_at s.sections f = sym (ap (λ (p : Place × ℕ). p.0) (get_or_from_slice_get s.sections f c.section-on.result (Node, 0) c.section-on.ensures)) in
    let here : c.in_ok-data_field.field-0 ≡ words f = c.in_ok-data_field.ensures ∙ (λ j. section_words (c.requires.sizes j) (place j) (rows_at (c.part.ensures.part j).rows f)) in
    c.in_ok-push.ensures.items
    ∙ ((λ j. c.loop-f.invariant j ++ here j ∷ [])
    ∙ (append_assoc c.args.all.now.items (map words (below f)) (words f ∷ []) ∙ ap (λ l. c.args.all.now.items ++ l) (sym (below-more words f))))
