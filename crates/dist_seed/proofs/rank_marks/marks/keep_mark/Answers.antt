use Rattle.std.proofs.Common.{[], ◌∷◌, ◌++◌, ap, sym, ◌∙◌, rules, w32}
use Rattle.std.proofs.lemmas.Int.{to_z-of_z}
use Rattle.plex_base.specs.Dim.{dim_number}
use Rattle.dist_seed.proofs.rank_marks.marks.keep_mark.Goals as goal

pub returns : goal.returns
returns c =
    c.in_ok-push.ensures
    ∙ ap (λ v. c.args.kept.now ++ record { dim = dim_number c.mark-dim.result.0; vertices = c.mark-dim.result.1.now; value = v } ∷ []) (to_z-of_z w32 c.mark-dim.result.2 (search rules))
    ∙ ap (λ k. c.args.kept.now ++ k ∷ []) (sym c.mark-dim.ensures)
