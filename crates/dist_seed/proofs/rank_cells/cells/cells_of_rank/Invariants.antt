use Rattle.std.proofs.Common.{◌≡◌, ◌==◌, slice_index}
use Rattle.std.specs.List.{filter}
use Rattle.plain_lists.specs.Lists.{below}
use Rattle.dist_seed.proofs.rank_cells.cells.cells_of_rank.Given as goal

abbrev pub invariant-loop-c : goal.invariant-loop-c
invariant-loop-c l = l.cells.items ≡ filter (λ c. slice_index l.ranks c == l.rank) (below l.c)
