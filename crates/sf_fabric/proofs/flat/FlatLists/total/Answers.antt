use Rattle.std.proofs.Common.{ap, sym, length, ◌∙◌}
use Rattle.std.specs.List.{sum_by}
use Rattle.sf_fabric.proofs.Cuts.{sum-cut}
use Rattle.sf_fabric.proofs.flat.FlatLists.total.Goals as goal

pub returns : goal.returns
returns g c = c.len.ensures ∙ c.self.inside.items.ok.0 ∙ sym (sum-cut c.self.inside.items.items c.self.inside.firsts.items c.self.invariant) ∙ ap (sum_by length) c.self.view_is
