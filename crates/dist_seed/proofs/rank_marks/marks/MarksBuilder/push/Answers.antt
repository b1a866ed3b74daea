use Rattle.std.proofs.Common.{◌≡◌, [], ◌∷◌, ◌++◌, ap, ap₂, ◌∙◌, w32}
use Rattle.std.proofs.lemmas.Int.{to_z-of_z}
use Rattle.plex_base.specs.Dim.{dim_number}
use Rattle.dist_state.specs.declared.scatter_state.rank_part.MarkHead.{MarkHead}
use Rattle.dist_state.specs.scatter_state.Parts.{marks_of}
use Rattle.dist_seed.proofs.rank_marks.Sets.{marks-push}
use Rattle.dist_seed.proofs.rank_marks.marks.MarksBuilder.push.Goals as goal

pub returns : goal.returns
returns c =
    let head : MarkHead = record { dim = c.args.dim; value = c.args.value } in
    let old = c.self.inside.heads.items in
    let heads : c.push_reserved.new.self.items ≡ old ++ head ∷ [] = c.push_reserved.ensures.items ∙ ap (λ v. c.reserve.new.self.items ++ record { dim = c.args.dim; value = v } ∷ []) (to_z-of_z w32 c.args.value c.ranges.value) ∙ ap (λ l. l ++ head ∷ []) c.in_ok-reserve.ensures.items in
    ap₂ marks_of heads c.in_ok-push.ensures.ok
    ∙ marks-push old c.self.inside.vertices head c.args.vertices.now c.self.invariant
    ∙ ap (λ marks. marks ++ record { dim = dim_number c.args.dim; vertices = c.args.vertices.now; value = c.args.value } ∷ []) c.self.view_is
