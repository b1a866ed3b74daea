use Rattle.std.proofs.Common.{arith, sym}
use Rattle.std.proofs.lemmas.Bool.{lt-ltb, le-ltb}
use Rattle.sf_defs.specs.Forest.{degree, roots_on}
use Rattle.sf_algebra.proofs.Searching.{is_shared_at, below-found, below-more}
use Rattle.sf_algebra.proofs.shared.first_shared_on.Goals as goal

pub returns-then-degree-gt1 : goal.returns-then-degree-gt1
returns-then-degree-gt1 c = sym (below-found (is_shared_at c.args.forest.now c.args.rank) (roots_on c.args.forest.now c.args.rank) c.loop-index.index (omega (arith, c.roots-index-end.ensures)) c.loop-index.invariant (lt-ltb 1 (degree c.args.forest.now c.args.rank c.loop-index.index) (omega (arith, c.degree.ensures))))

pub loop-index-preserved : goal.loop-index-preserved
loop-index-preserved c = below-more (is_shared_at c.args.forest.now c.args.rank) c.loop-index.index c.loop-index.invariant (le-ltb 1 (degree c.args.forest.now c.args.rank c.loop-index.index) (omega (arith, c.degree.ensures)))
