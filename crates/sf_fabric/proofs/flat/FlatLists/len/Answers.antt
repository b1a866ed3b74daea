use Rattle.std.proofs.Common.{ap, sym, length, ◌∙◌, ◌-◌}
use Rattle.sf_fabric.proofs.Cuts.{length-cut}
use Rattle.sf_fabric.proofs.flat.FlatLists.len.Goals as goal

pub returns : goal.returns
returns g c = ap (λ n. n - 1) (c.len.ensures ∙ c.self.inside.firsts.ok.0) ∙ sym (length-cut c.self.inside.items.items c.self.inside.firsts.items) ∙ ap length c.self.view_is
