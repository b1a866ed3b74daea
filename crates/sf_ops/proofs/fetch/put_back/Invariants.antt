use Rattle.sf_ops.proofs.Fills.{IsPutBack}
use Rattle.sf_ops.proofs.fetch.put_back.Given as goal

abbrev pub invariant-loop-rank : goal.invariant-loop-rank
invariant-loop-rank l = IsPutBack l.initial.roots l.roots l.words l.rank l.first
