use Rattle.std.proofs.Common.{◌∙◌}
use Rattle.msh_reader.proofs.NumberSets.{has-turned}
use Rattle.msh_reader.proofs.number_set.NumberSet.is_other.Goals as goal

pub returns : goal.returns
returns c = c.contains.ensures ∙ has-turned c.args.self.now.others.keys c.args.number
