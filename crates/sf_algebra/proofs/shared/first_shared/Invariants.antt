use Rattle.std.proofs.Common.{◌≡◌}
use Rattle.sf_defs.specs.Forest.{shared_root}
use Rattle.sf_algebra.proofs.Searching.{shared_from}
use Rattle.sf_algebra.proofs.shared.first_shared.Given as goal

abbrev pub invariant-loop-rank : goal.invariant-loop-rank
invariant-loop-rank l = shared_root l.forest ≡ shared_from l.forest l.rank
