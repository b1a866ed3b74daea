use Rattle.std.proofs.Common.{◌≡◌, take, filter}
use Rattle.plain_lists.specs.Vectors.{lists_of}
use Rattle.sf_defs.specs.Forest.{is_kept, leaves_on, root_at}
use Rattle.sf_algebra.proofs.embedding.leaves_on_kept.Given as goal

abbrev pub invariant-loop-i : goal.invariant-loop-i
invariant-loop-i l = l.own.items ≡ filter (λ leaf. is_kept (lists_of l.keep) (root_at leaf)) (take l.i (leaves_on l.a l.rank))
