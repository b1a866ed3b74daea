use Rattle.std.proofs.Common.{[], ◌∷◌, ◌++◌, ap, ◌∙◌, append_assoc}
use Rattle.std.proofs.lemmas.List.{replicate_more}
use Rattle.interp_share.specs.rank_fields.Words.{no_words}
use Rattle.interp_share.proofs.rank_fields.builder.FieldBuilder.push_empty.Goals as goal

pub loop-point-preserved : goal.loop-point-preserved
loop-point-preserved c =
    c.in_ok-push.ensures ∙ ap (λ l. l ++ [] ∷ []) c.loop-point.invariant ∙ append_assoc c.args.self.now (no_words c.loop-point._point) ([] ∷ []) ∙ ap (λ l. c.args.self.now ++ l) (replicate_more c.loop-point._point [])
