use Rattle.std.proofs.Common.{◌≡◌, [], ◌∷◌, ◌++◌, length, ap, ap₂, ◌∙◌}
use Rattle.sf_fabric.specs.Cut.{cut}
use Rattle.sf_fabric.proofs.flat_lists.Pushing.{cut-push}
use Rattle.sf_fabric.proofs.flat_lists.ListsBuilder.push.Goals as goal

pub returns-clause-ok : goal.returns-clause-ok
returns-clause-ok g c =
    let items = c.self.inside.items.items in
    let firsts = c.self.inside.firsts.items in
    let ends : c.len.result ≡ length (items ++ c.args.list.now) = c.len.ensures ∙ c.extend_from_slice.new.self.ok.0 ∙ ap length c.in_ok-extend_from_slice.ensures.items in
    let places : c.push_reserved.new.self.items ≡ firsts ++ c.len.result ∷ [] = c.push_reserved.ensures.items ∙ ap (λ l. l ++ c.len.result ∷ []) c.in_ok-reserve.ensures.items in
    ap₂ (λ xs ns. cut xs ns) c.in_ok-extend_from_slice.ensures.items places
    ∙ cut-push items firsts c.self.invariant c.args.list.now c.len.result ends
    ∙ ap (λ lists. lists ++ c.args.list.now ∷ []) c.self.view_is
