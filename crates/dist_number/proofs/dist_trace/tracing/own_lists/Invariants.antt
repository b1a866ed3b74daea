use Rattle.std.proofs.Common.{◌≡◌, ◌<◌, ◌^◌, map, take, length}
use Rattle.std.specs.Prelude.{sum_by}
use Rattle.std.specs.List.{enumerate_from}
use Rattle.plain_lists.specs.Vectors.{lists_of}
use Rattle.dist_number.specs.dist_trace.Own.{own_list}
use Rattle.dist_number.proofs.dist_trace.tracing.own_lists.Given as goal

-- the leaves of the ranks up to here, and how many these are
abbrev pub invariant-loop-rank : goal.invariant-loop-rank
invariant-loop-rank l =
    (lists_of l.lists.items ≡ map own_list (take l.rank (enumerate_from 0 l.d.locals))) × (sum_by length (lists_of l.lists.items) ≡ l.total) × (l.total < 2 ^ 32)
