use Rattle.std.proofs.Common.{map, suc}
use Rattle.plain_lists.specs.Lists.{below}
use Rattle.msh_reader.proofs.NumberSets.{put-other}
use Rattle.msh_reader.proofs.number_set.NumberSet.insert.Goals as goal

pub returns : goal.returns
returns c = put-other (map suc (below c.args.self.now.in_order)) c.args.self.now.others.keys c.insert.new.self.keys c.args.number c.in_ok-insert.ensures.updates.0
