use Rattle.std.proofs.Common.{refl, arith}
use Rattle.mesh_defs.specs.Points.{point_of}
use Rattle.interp_share.proofs.rank_points.Pushing.{behind-more, behind-all}
use Rattle.interp_share.proofs.rank_points.all_sets.push_edges.Goals as goal

pub loop-k-preserved : goal.loop-k-preserved
loop-k-preserved c = behind-more (λ s. (point_of s).vertices) c.args.local.now.edges c.loop-k.k _ c.args.sets.now c.loop-k.sets _ _ c.edge.ensures c.loop-k.invariant refl c.in_ok-push_sorted.ensures

pub returns : goal.returns
returns c = behind-all (λ s. (point_of s).vertices) c.args.local.now.edges c.loop-k.k c.args.sets.now c.loop-k.sets c.loop-k.invariant (omega (arith, c.edges-k-end.ensures.count, c.loop-k-test.false, c.loop-k.auto.k-end))
