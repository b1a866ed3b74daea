use Rattle.std.proofs.Common.{◌≡◌, map}
use Rattle.plain_lists.specs.Lists.{below}
use Rattle.plain_lists.specs.Vectors.{lists_of}
use Rattle.interp_share.specs.part_fields.Ranks.{fields_at}
use Rattle.interp_share.proofs.part_fields.fields.all_fields.Given as goal

-- the ranks up to here
abbrev pub invariant-loop-rank : goal.invariant-loop-rank
invariant-loop-rank g l = lists_of l.all.items ≡ map (fields_at l.scatter (lists_of l.weights.items)) (below l.rank)
