use Rattle.std.proofs.Common.{◌≡◌, None}
use Rattle.std.specs.Prelude.{find}
use Rattle.plain_lists.specs.Lists.{below}
use Rattle.sf_algebra.proofs.Searching.{is_shared_at}
use Rattle.sf_algebra.proofs.shared.first_shared_on.Given as goal

abbrev pub invariant-loop-index : goal.invariant-loop-index
invariant-loop-index l = find (is_shared_at l.forest l.rank) (below l.index) ≡ None
