use Rattle.dist_seed.specs.rank_cells.Own.{held_of}
use Rattle.dist_seed.proofs.Listing.{below-pushed}
use Rattle.dist_seed.proofs.parts.held_cells.Goals as goal

pub loop-rank-preserved : goal.loop-rank-preserved
loop-rank-preserved c = below-pushed (held_of c.args.mesh.now c.args.ranks.now) c.loop-rank.rank c.loop-rank.held.items c.push.new.self.items c.in_ok-rank_cells.field-0 c.in_ok-push.ensures.items c.loop-rank.invariant c.in_ok-rank_cells.ensures
