use Rattle.std.proofs.Common.{◌≡◌, ◌+◌, ◌<◌, ℕ, [], List, length, get_or, subst, sym, ap, ◌∙◌}
use Rattle.plex_walk.specs.Supports.{segment, segments}
use Rattle.plex_walk.proofs.Segments.{has_end, segment-at}
use Rattle.plex_walk.proofs.support_lists.SupportLists.of.Goals as goal

there : (c : goal.After-deref-2) → c.args.p + 1 < length c.self.inside.starts.items
there c =
    let within : c.args.p < length (segments c.self.inside.starts.items c.self.inside.points.items) = subst (λ (v : List (List ℕ)). c.args.p < length v) (sym c.self.view_is) c.requires in
    has_end c.self.inside.starts.items c.self.inside.points.items c.args.p within

pub segment-requires-clause-there : goal.segment-requires-clause-there
segment-requires-clause-there c = rw c.deref.ensures.value (there c)

pub segment-requires-clause-rising : goal.segment-requires-clause-rising
segment-requires-clause-rising c = rw c.deref.ensures.value (c.self.invariant.rising c.args.p (there c))

pub returns : goal.returns
returns c =
    let within : c.args.p < length (segments c.self.inside.starts.items c.self.inside.points.items) = subst (λ (v : List (List ℕ)). c.args.p < length v) (sym c.self.view_is) c.requires in
    let here = has_end c.self.inside.starts.items c.self.inside.points.items c.args.p within in
    let seen : segment c.deref.result.now c.deref-2.result.now c.args.p ≡ segment c.self.inside.starts.items c.self.inside.points.items c.args.p = rw (c.deref.ensures.value, c.deref-2.ensures.value) in
    let viewed : get_or (segments c.self.inside.starts.items c.self.inside.points.items) c.args.p [] ≡ get_or c.args.self.now c.args.p [] = ap (λ (v : List (List ℕ)). get_or v c.args.p []) c.self.view_is in
    c.segment.ensures ∙ seen ∙ sym (segment-at c.self.inside.starts.items c.self.inside.points.items c.args.p here) ∙ viewed
