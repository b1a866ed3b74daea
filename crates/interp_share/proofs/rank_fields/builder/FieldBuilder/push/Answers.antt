use Rattle.std.proofs.Common.{[], ◌∷◌, ◌++◌, length, refl, ap, ap₂, ◌∙◌}
use Rattle.plex_section.specs.Words.{words_by}
use Rattle.interp_share.proofs.rank_fields.Building.{words_by-push}
use Rattle.interp_share.proofs.rank_fields.builder.FieldBuilder.push.Goals as goal

pub returns : goal.returns
returns c =
    let counts = c.push_reserved.ensures.items ∙ ap (λ l. l ++ length c.args.words.now ∷ []) c.in_ok-reserve.ensures.items in
    ap₂ words_by counts c.in_ok-extend_from_slice.ensures.items
    ∙ words_by-push c.self.inside.dofs.items c.self.inside.words.items c.args.words.now c.self.invariant.0 (length c.args.words.now) refl
    ∙ ap (λ l. l ++ c.args.words.now ∷ []) c.self.view_is
