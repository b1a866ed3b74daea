use Rattle.std.proofs.Common.{[], length, arith, refl, ◌∙◌}
use Rattle.plain_lists.specs.Vectors.{lists_of}
use Rattle.plain_lists.proofs.Below.{map-below-length}
use Rattle.rank_chart_laws.proofs.meeting_laws.Loops.{lists_pushed, made_below}
use Rattle.dist_state.specs.shared_state.Points.{shared_at}
use Rattle.rank_chart_laws.specs.key_laws.Places.{part_keys}
use Rattle.rank_chart_laws.specs.key_laws.Words.{part, seen_keys}
use Rattle.orient_iface.proofs.iface_keys.values.seen_keys.Goals as goal

pub loop-rank-preserved : goal.loop-rank-preserved
loop-rank-preserved c = lists_pushed (λ r. part_keys (part c.args.shared.now r)) c.loop-rank.rank c.loop-rank.keys.items c.push.new.self.items c.in_ok-part_keys.field-0 c.loop-rank.invariant c.in_ok-part_keys.ensures c.in_ok-push.ensures.items

pub returns : goal.returns
unfolding seen_keys
returns c =
    made_below (λ r. part_keys (part c.args.shared.now r)) c.loop-rank.rank (length c.args.shared.now.parts) (lists_of c.loop-rank.keys.items) c.loop-rank.invariant (omega (arith, c.ranks-rank-end.ensures.ranks, c.loop-rank-test.false, c.loop-rank.auto.rank-end))
    ∙ map-below-length (λ r. part_keys (part c.args.shared.now r)) part_keys c.args.shared.now.parts (shared_at [] 0) (λ k low. refl)
