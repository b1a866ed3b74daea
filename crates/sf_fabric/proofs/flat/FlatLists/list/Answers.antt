use Rattle.std.proofs.Common.{◌+◌, ◌<◌, ◌≤◌, ℕ, [], List, length, get_or, ap, sym, subst, ◌∙◌}
use Rattle.sf_fabric.specs.Cut.{cut, part}
use Rattle.sf_fabric.proofs.Cuts.{get_or-cut, place-within, place-low}
use Rattle.sf_fabric.proofs.flat.FlatLists.list.Goals as goal

pub part-requires-clause-place : goal.part-requires-clause-place
part-requires-clause-place g c =
    let within : c.args.k < length (cut c.self.inside.items.items c.self.inside.firsts.items) = subst (λ (n : ℕ). c.args.k < n) (sym (ap length c.self.view_is)) c.requires in
    subst (λ (n : ℕ). c.args.k + 1 < n) (sym (ap length c.deref-2.ensures.value)) (place-within c.self.inside.items.items c.self.inside.firsts.items c.args.k within)

pub part-requires-clause-rising : goal.part-requires-clause-rising
part-requires-clause-rising g c =
    let within : c.args.k < length (cut c.self.inside.items.items c.self.inside.firsts.items) = subst (λ (n : ℕ). c.args.k < n) (sym (ap length c.self.view_is)) c.requires in
    subst (λ (ns : List ℕ). get_or ns c.args.k 0 ≤ get_or ns (c.args.k + 1) 0) (sym c.deref-2.ensures.value) (c.self.invariant.rising c.args.k (place-within c.self.inside.items.items c.self.inside.firsts.items c.args.k within))

pub part-requires-clause-within : goal.part-requires-clause-within
part-requires-clause-within g c =
    let within : c.args.k < length (cut c.self.inside.items.items c.self.inside.firsts.items) = subst (λ (n : ℕ). c.args.k < n) (sym (ap length c.self.view_is)) c.requires in
    let low = place-low c.self.inside.items.items c.self.inside.firsts.items c.self.invariant (c.args.k + 1) (place-within c.self.inside.items.items c.self.inside.firsts.items c.args.k within) in
    subst (λ (ns : List ℕ). get_or ns (c.args.k + 1) 0 ≤ length c.deref.result.now) (sym c.deref-2.ensures.value)
    (subst (λ (n : ℕ). get_or c.self.inside.firsts.items (c.args.k + 1) 0 ≤ n) (sym (ap length c.deref.ensures.value)) low)

pub returns : goal.returns
returns g c =
    let within : c.args.k < length (cut c.self.inside.items.items c.self.inside.firsts.items) = subst (λ (n : ℕ). c.args.k < n) (sym (ap length c.self.view_is)) c.requires in
    c.part.ensures ∙ (λ i. part (c.deref.ensures.value i) (c.deref-2.ensures.value i) c.args.k)
    ∙ sym (get_or-cut c.self.inside.items.items c.self.inside.firsts.items c.args.k [] within)
    ∙ ap (λ (ls : List (List g.row.T.Denot)). get_or ls c.args.k []) c.self.view_is
