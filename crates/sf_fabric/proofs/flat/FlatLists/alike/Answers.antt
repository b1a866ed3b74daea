use Rattle.std.proofs.Common.{◌≡◌, List, length, map, ap, sym, subst, ◌∙◌}
use Rattle.std.specs.List.{sum_by}
use Rattle.sf_fabric.specs.Cut.{cut, shared, AreCuts}
use Rattle.sf_fabric.proofs.Cuts.{sum-cut, shared-cut, lengths-cut}
use Rattle.sf_fabric.proofs.flat.FlatLists.alike.Goals as goal

pub new-requires : goal.new-requires
new-requires g c =
    let same : c.in_ok-firsts.firsts.items ≡ c.self.inside.firsts.items = c.in_ok-firsts.ensures.items ∙ c.deref.ensures.value in
    let size : length c.self.inside.items.items ≡ length c.args.items.items =
    sym (sum-cut c.self.inside.items.items c.self.inside.firsts.items c.self.invariant) ∙ ap (sum_by length) c.self.view_is ∙ sym c.requires in
    subst (AreCuts c.args.items.items) (sym same) (record {
      some = c.self.invariant.some;
      begins = c.self.invariant.begins;
      rising = c.self.invariant.rising;
      ends = c.self.invariant.ends ∙ size;
    })

pub returns-clause-lists : goal.returns-clause-lists
returns-clause-lists g c =
    let same : c.in_ok-firsts.firsts.items ≡ c.self.inside.firsts.items = c.in_ok-firsts.ensures.items ∙ c.deref.ensures.value in
    c.new.ensures ∙ ap (cut c.args.items.items) same
    ∙ shared-cut c.self.inside.items.items c.self.inside.firsts.items c.self.invariant c.args.items.items
    ∙ ap (λ (ls : List (List g.row.T.Denot)). shared (map length ls) c.args.items.items) c.self.view_is

pub returns-clause-lengths : goal.returns-clause-lengths
returns-clause-lengths g c =
    let same : c.in_ok-firsts.firsts.items ≡ c.self.inside.firsts.items = c.in_ok-firsts.ensures.items ∙ c.deref.ensures.value in
    let size : length c.args.items.items ≡ length c.self.inside.items.items =
    c.requires ∙ ap (sum_by length) (sym c.self.view_is) ∙ sum-cut c.self.inside.items.items c.self.inside.firsts.items c.self.invariant in
    ap (map length) (c.new.ensures ∙ ap (cut c.args.items.items) same)
    ∙ lengths-cut c.self.inside.items.items c.self.inside.firsts.items c.self.invariant c.args.items.items size
    ∙ ap (map length) c.self.view_is
