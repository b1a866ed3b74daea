use Rattle.std.proofs.Common.{arith}
use Rattle.rank_chart_laws.specs.OwnRanks.{set_of}
use Rattle.interp_share.proofs.rank_points.Pushing.{behind-more, behind-all}
use Rattle.interp_share.proofs.rank_points.Small.{small-there}
use Rattle.interp_share.proofs.rank_points.seen.push_faces.Goals as goal

pub set_on-requires : goal.set_on-requires
set_on-requires c = small-there c.args.local.now.faces c.loop-k.k _ c.requires c.face.ensures

pub loop-k-preserved : goal.loop-k-preserved
loop-k-preserved c = behind-more set_of c.args.local.now.faces c.loop-k.k _ c.args.sets.now.items c.loop-k.sets.items _ _ c.face.ensures c.loop-k.invariant c.set_on.ensures c.in_ok-push.ensures.items

pub returns : goal.returns
returns c = behind-all set_of c.args.local.now.faces c.loop-k.k c.args.sets.now.items c.loop-k.sets.items c.loop-k.invariant (omega (arith, c.faces-k-end.ensures.count, c.loop-k-test.false, c.loop-k.auto.k-end))
