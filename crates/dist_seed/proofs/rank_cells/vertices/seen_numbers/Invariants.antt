use Rattle.std.proofs.Common.{◌≡◌, false, get_or}
use Rattle.std.specs.List.{filter}
use Rattle.plain_lists.specs.Lists.{below}
use Rattle.dist_seed.proofs.rank_cells.vertices.seen_numbers.Given as goal

abbrev pub invariant-loop-v : goal.invariant-loop-v
invariant-loop-v l = l.numbers.items ≡ filter (λ v. get_or l.seen v false) (below l.v)
