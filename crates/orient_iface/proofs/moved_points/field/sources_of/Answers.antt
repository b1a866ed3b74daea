use Rattle.std.proofs.Common.{◌<◌, length, get_or, arith, rules}
use Rattle.plain_lists.proofs.Each.{all_at}
use Rattle.orient_iface.proofs.moved_points.Sourced.{sources-more, sources-all}
use Rattle.orient_iface.proofs.moved_points.field.sources_of.Goals as goal

pub loop-i-preserved : goal.loop-i-preserved
loop-i-preserved c = sources-more c.args.moves.now c.loop-i.i c.loop-i.sources.items c.requires.order (omega (arith, c.loop-i-test.true)) c.loop-i.invariant

pub returns : goal.returns
returns c = sources-all c.args.moves.now c.loop-i.i c.loop-i.sources.items c.requires.order (omega (arith, c.loop-i-test.false)) c.loop-i.invariant
